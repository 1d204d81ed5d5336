use Rattle.std.proofs.Common.{◌≡◌, ◌++◌, length, map, take, drop}
use Rattle.gateway.specs.event_core.Core.{number_of}
use Rattle.gateway.specs.event_core.SiteRun.{reading_at}
use Rattle.gateway.proofs.event_core.scan.gather.Given as goal

abbrev pub invariant-loop-i : goal.invariant-loop-i
invariant-loop-i l =
    (map (λ link. reading_at l.readings (number_of link)) l.links ≡ take l.i l.inputs ++ map (λ link. reading_at l.readings (number_of link)) (drop l.i l.links))
    × (length l.inputs ≡ length l.links)
