use Rattle.std.proofs.Common.{◌≤◌, length, drop, nat_eq}
use Rattle.std.specs.HashMap.{get}
use Rattle.facts.specs.Addresses.{Tells}
use Rattle.facts.proofs.instructions.numbers_of.Given as goal

-- the numbers of those from n on are noted
abbrev pub invariant-loop-n : goal.invariant-loop-n
invariant-loop-n l = record {
  within : l.n ≤ length l.entries;
  noted : Tells (get nat_eq l.numbers) (drop l.n l.entries) l.n;
}

abbrev pub decreases-loop-n : goal.decreases-loop-n
decreases-loop-n l = l.n
