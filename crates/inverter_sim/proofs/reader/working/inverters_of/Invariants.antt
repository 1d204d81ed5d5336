use Rattle.std.proofs.Common.{◌≡◌, ◌++◌, drop, map, unsigned_abs}
use Rattle.std.specs.List.{list_all}
use Rattle.inverter_sim.specs.File.{is_inverter_of}
use Rattle.inverter_sim.proofs.reader.working.inverters_of.Given as goal

-- what remains decides, and comes after the units so far
abbrev pub invariant-loop-number : goal.invariant-loop-number
invariant-loop-number l =
    (list_all (is_inverter_of l.seen) l.numbers ≡ list_all (is_inverter_of l.seen) (drop l.number-index l.numbers))
    × (map unsigned_abs l.numbers ≡ l.units ++ map unsigned_abs (drop l.number-index l.numbers))
