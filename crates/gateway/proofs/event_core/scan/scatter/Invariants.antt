use Rattle.std.proofs.Common.{◌≡◌, length, map, drop}
use Rattle.gateway.specs.event_core.Core.{number_of}
use Rattle.gateway.specs.event_core.SiteRun.{stored_at}
use Rattle.gateway.proofs.event_core.scan.scatter.Given as goal

-- what the later tags leave is what all of them leave
abbrev pub invariant-loop-i : goal.invariant-loop-i
invariant-loop-i g l =
    (stored_at (map number_of l.machine.accepted.links) l.machine.outputs l.initial.outputs ≡ stored_at (map number_of (drop l.i l.machine.accepted.links)) (drop l.i l.machine.outputs) l.outputs)
    × (length l.outputs ≡ length l.initial.outputs)
