use Rattle.std.proofs.Common.{◌≡◌, map, take}
use Rattle.service_parts.specs.Seeking.{base_sought, base_stated}
use Rattle.service.proofs.construction.searches_for.Given as goal

abbrev pub invariant-loop-own : goal.invariant-loop-own
invariant-loop-own l = map base_sought l.searches.items ≡ map base_stated (take l.own-index l.devices)
