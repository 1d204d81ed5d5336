use Rattle.std.proofs.Common.{◌≡◌, ◌*◌, ◌≤ℤ◌, pos, neg_ℤ, drop}
use Rattle.gateway.specs.served.ServedImage.{total_over}
use Rattle.gateway.proofs.served.amount.whole_total.Given as goal

-- what remains goes on top, and so many parts are in their range
abbrev pub invariant-loop-part : goal.invariant-loop-part
invariant-loop-part l =
    (total_over (pos 0) l.readings l.parts ≡ total_over l.total l.readings (drop l.part-index l.parts))
    × (neg_ℤ (pos (l.part-index * 9223372036854775808)) ≤ℤ l.total) × (l.total ≤ℤ pos (l.part-index * 9223372036854775808))
