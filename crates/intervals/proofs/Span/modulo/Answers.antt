use Rattle.std.proofs.Common.{◌≡◌, sym, pos, neg_ℤ, ◌≤ℤ◌, rules, arith}
use Rattle.std.proofs.lemmas.Int.{ints, clamps}
use Rattle.std.specs.Int.{int_min, int_max}
use Rattle.intervals.proofs.Sums.{same_ends}
use Rattle.intervals.proofs.Remainders.{bound_of_lint, low_drawn, high_drawn, remainder_holds, remainder_of_lint}
use Rattle.intervals.proofs.Span.modulo.Goals as goal

pub returns-clause-ends : goal.returns-clause-ends
returns-clause-ends c =
    let a = c.args.self in let m = c.remainder_bound-bound.result in
    let positive : pos 0 ≤ℤ m = rw c.remainder_bound-bound.ensures (bound_of_lint c.args.other c.requires.other_of_lint c.requires.no_zero_divisor) in
    let drawn_up : c.max.result ≡ int_max a.low (neg_ℤ m) = omega (arith, ints, clamps, c.max.ensures.value) in
    let drawn_down : c.min-2.result ≡ int_min a.high m = search rules in
    rw (sym c.remainder_bound-bound.ensures) (same_ends _ _ _ _
    (low_drawn a.low m _ positive (omega (arith, ints, clamps, c.min.ensures.value, drawn_up)))
    (high_drawn a.high m _ positive (omega (arith, ints, clamps, c.max-2.ensures.value, drawn_down))))

pub returns-clause-of_lint : goal.returns-clause-of_lint
returns-clause-of_lint c = rw (returns-clause-ends c) (remainder_of_lint c.args.self c.args.other c.requires.self_of_lint c.requires.other_of_lint c.requires.no_zero_divisor)

pub returns-clause-holds : goal.returns-clause-holds
returns-clause-holds c = rw (returns-clause-ends c) (remainder_holds c.args.self c.args.other c.requires.no_zero_divisor)
