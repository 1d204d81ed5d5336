-- The core took what came of the wanted blocks so far.
use Rattle.std.proofs.Common.{◌≡◌, ◌≤◌, take, None}
use Rattle.gateway.specs.poller.Asking.{Turned}
use Rattle.gateway.specs.poller.Cycle.{TakesBlocks}
use Rattle.gateway.proofs.poller.cycle.take_blocks.Given as goal

abbrev pub invariant-loop-i : goal.invariant-loop-i
invariant-loop-i g l =
    TakesBlocks g.C.ScanCore.step_of (g.C.ScanCore.site_of l.initial.core) (g.C.ScanCore.maps_of l.initial.core) (take l.i (g.C.ScanCore.site_of l.initial.core).wants) (l.initial.line).polling l.initial.core (l.line).polling l.core l.lost
    × (g.C.ScanCore.site_of l.core ≡ g.C.ScanCore.site_of l.initial.core)
    × (g.C.ScanCore.maps_of l.core ≡ g.C.ScanCore.maps_of l.initial.core)
    × Turned l.initial.line l.line
    × ((l.line.polling).fault ≡ None)
    × (l.lost ≤ l.i)
