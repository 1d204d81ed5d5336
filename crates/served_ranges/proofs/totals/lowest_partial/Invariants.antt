use Rattle.std.proofs.Common.{◌≡◌, ◌*◌, ◌≤ℤ◌, pos, neg_ℤ, drop}
use Rattle.std.specs.Prelude.{IfSome}
use Rattle.served_ranges.specs.Shown.{choice_over, least_choice, lowest_partial}
use Rattle.served_ranges.proofs.totals.lowest_partial.Given as goal

-- what remains is chosen from after it, and so many parts are in their range
abbrev pub invariant-loop-part : goal.invariant-loop-part
invariant-loop-part l =
    (lowest_partial l.tags l.parts ≡ choice_over least_choice (λ t. t.low) l.least l.tags (drop l.part-index l.parts))
    × IfSome l.least (λ n. neg_ℤ (pos (l.part-index * 9223372036854775808)) ≤ℤ n)
    × IfSome l.least (λ n. n ≤ℤ pos (l.part-index * 9223372036854775808))
