use Rattle.std.proofs.Common.{◌≡◌, ◌++◌, length, take, drop}
use Rattle.gateway.specs.event_core.SiteRun.{none_of}
use Rattle.gateway.proofs.event_core.scan.clear.Given as goal

abbrev pub invariant-loop-output : goal.invariant-loop-output
invariant-loop-output l = (none_of l.initial.outputs ≡ take l.output-index l.outputs ++ none_of (drop l.output-index l.initial.outputs)) × (length l.outputs ≡ length l.initial.outputs)
