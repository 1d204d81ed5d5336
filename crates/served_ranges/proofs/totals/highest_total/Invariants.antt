use Rattle.std.proofs.Common.{◌≡◌, ◌*◌, ◌≤ℤ◌, pos, neg_ℤ, drop}
use Rattle.served_ranges.specs.Shown.{highest_total, end_over}
use Rattle.served_ranges.proofs.totals.highest_total.Given as goal

-- what remains goes on top, and so many parts are in their range
abbrev pub invariant-loop-part : goal.invariant-loop-part
invariant-loop-part l =
    (highest_total l.tags l.parts ≡ end_over (λ t. t.high) l.total l.tags (drop l.part-index l.parts))
    × (neg_ℤ (pos (l.part-index * 9223372036854775808)) ≤ℤ l.total) × (l.total ≤ℤ pos (l.part-index * 9223372036854775808))
