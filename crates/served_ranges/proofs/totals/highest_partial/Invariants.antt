use Rattle.std.proofs.Common.{◌≡◌, ◌*◌, ◌≤ℤ◌, pos, neg_ℤ, drop}
use Rattle.std.specs.Prelude.{IfSome}
use Rattle.served_ranges.specs.Shown.{choice_over, greatest_choice, highest_partial}
use Rattle.served_ranges.proofs.totals.highest_partial.Given as goal

-- what remains is chosen from after it, and so many parts are in their range
abbrev pub invariant-loop-part : goal.invariant-loop-part
invariant-loop-part l =
    (highest_partial l.tags l.parts ≡ choice_over greatest_choice (λ t. t.high) l.greatest l.tags (drop l.part-index l.parts))
    × IfSome l.greatest (λ n. neg_ℤ (pos (l.part-index * 9223372036854775808)) ≤ℤ n)
    × IfSome l.greatest (λ n. n ≤ℤ pos (l.part-index * 9223372036854775808))
