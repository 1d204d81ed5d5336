use Rattle.std.proofs.Common.{◌≡◌, ◌*◌, ◌≤ℤ◌, pos, neg_ℤ, drop}
use Rattle.std.specs.Prelude.{IfSome}
use Rattle.gateway.specs.served.ServedImage.{joined, joined_total}
use Rattle.gateway.proofs.served.amount.joined_total.Given as goal

-- what remains is joined, and so many parts are in their range
abbrev pub invariant-loop-part : goal.invariant-loop-part
invariant-loop-part l =
    (joined_total l.readings l.parts ≡ joined l.total (joined_total l.readings (drop l.part-index l.parts)))
    × IfSome l.total (λ t. neg_ℤ (pos (l.part-index * 9223372036854775808)) ≤ℤ t)
    × IfSome l.total (λ t. t ≤ℤ pos (l.part-index * 9223372036854775808))
