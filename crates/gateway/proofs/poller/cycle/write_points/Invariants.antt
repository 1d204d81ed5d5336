-- What was to be written for the outputs whose turn it was went out.
use Rattle.std.proofs.Common.{◌≡◌, ◌≤◌, None}
use Rattle.gateway.specs.poller.Asking.{Turned}
use Rattle.gateway.proofs.Turns.{TookTurns}
use Rattle.gateway.proofs.poller.cycle.write_points.Given as goal

abbrev pub invariant-loop-k : goal.invariant-loop-k
invariant-loop-k g l =
    TookTurns g.C.ScanCore.plan_of (g.C.ScanCore.site_of l.core) l.k (l.order.outputs).items l.core (l.initial.line).polling (l.line).polling l.writes l.refused
    × Turned l.initial.line l.line
    × ((l.line.polling).fault ≡ None)
    × (l.writes ≤ l.k)
    × (l.refused ≤ l.k)
