use Rattle.std.proofs.Common.{◌≡◌, ◌≤◌, ◌++◌, All, drop, map, pos, unsigned_abs, length}
use Rattle.std.specs.List.{list_all}
use Rattle.inverter_sim.specs.File.{is_in}
use Rattle.inverter_sim.proofs.reader.working.watts_of.Given as goal

-- what remains decides, and comes after the watts so far
abbrev pub invariant-loop-number : goal.invariant-loop-number
invariant-loop-number l =
    (list_all (is_in (pos 0) (pos 1000000)) l.numbers ≡ list_all (is_in (pos 0) (pos 1000000)) (drop l.number-index l.numbers))
    × (map unsigned_abs l.numbers ≡ l.watts.items ++ map unsigned_abs (drop l.number-index l.numbers))
    × (length l.watts.items ≡ l.number-index)
    × All (λ w. w ≤ 1000000) l.watts.items
