-- Operations on spans hold every result of members.
use Rattle.std.proofs.Common.{◌≡◌, Bool, true, false, not, inl, inr, ℤ, pos, ◌-ℤ◌, ◌*ℤ◌, ◌≤ℤ◌, int_le, int_div, int_rem, refl, sym, subst, arith, Option, Some, None}
use Rattle.std.proofs.lemmas.Int.{ints}
use Rattle.point_types.specs.Value.{number_of}
use Rattle.scan_code.specs.Table.{magnitude}
use Rattle.intervals.specs.declared.Span.{Span as Interval}
use Rattle.intervals.specs.declared.Relation.{Relation}
use Rattle.intervals.specs.declared.Relation.TheVariants as is
use Rattle.intervals.specs.Ends.{between, product_of, quotient_of, remainder_of, magnitude_of}
use Rattle.intervals.specs.Cut.{cut_of}
use Rattle.intervals.specs.Members.{IsInSome, Stands}
use Rattle.intervals.proofs.Cuts.{cut_holds, stands_at}
use Rattle.intervals.proofs.Magnitudes.{absolute_holds}
use Rattle.intervals.proofs.Products.{product_holds}
use Rattle.intervals.proofs.Quotients.{quotient_holds}
use Rattle.intervals.proofs.Remainders.{remainder_holds}
use Rattle.intervals.proofs.Sums.{joined_is_least}
use Rattle.facts.specs.Flow.{flipped, truths}
use Rattle.facts.specs.Span.{Span, Empty, Between, spanning, left_of, joined, intersected, lies_in, has_member, absolute_span, cut_by, mirrored}
use Rattle.facts.specs.Fit.{IsIn}
use Rattle.facts.proofs.Comparing.{both_true, le_true, true_le, and_left, and_right}

pub in_joined_left : (s t : Span) (n : ℤ) → IsIn s n → IsIn (joined s t) n
in_joined_left Empty t n h = absurd h
in_joined_left (Between a b) Empty n h = h
in_joined_left (Between a b) (Between c d) n h = (joined_is_least (between a b) (between c d)).each n (inl h)

pub in_joined_right : (s t : Span) (n : ℤ) → IsIn t n → IsIn (joined s t) n
in_joined_right Empty t n h = h
in_joined_right (Between a b) Empty n h = absurd h
in_joined_right (Between a b) (Between c d) n h = (joined_is_least (between a b) (between c d)).each n (inr h)

-- what is left of a span
in_left : (o : Option Interval) (n : ℤ) → IsInSome o n → IsIn (left_of o) n
in_left None n h = absurd h
in_left (Some s) n h = h

pub cut_in : (o : Relation) (s t : Span) (x y : ℤ) → IsIn s x → IsIn t y → Stands o x y → IsIn (cut_by o s t) x
cut_in o Empty t x y h k r = absurd h
cut_in o (Between a b) Empty x y h k r = absurd k
cut_in o (Between a b) (Between c d) x y h k r =
    let ordered : c ≤ℤ d = omega (arith, ints, k.0, k.1) in
    in_left (cut_of o (between a b) (between c d)) x (cut_holds o (between a b) (between c d) x ordered h (stands_at o (between c d) x y k r))

pub in_intersected : (s t : Span) (n : ℤ) → IsIn s n → IsIn t n → IsIn (intersected s t) n
in_intersected s t n h k = cut_in is.Eq s t n n h k refl

pub lies_low : (s : Span) (low high n : ℤ) → lies_in s low high ≡ true → IsIn s n → low ≤ℤ n
lies_low Empty low high n e h = absurd h
lies_low (Between a b) low high n e h = let p = true_le low a (and_left _ _ e) in omega (arith, ints, h.0)

pub lies_high : (s : Span) (low high n : ℤ) → lies_in s low high ≡ true → IsIn s n → n ≤ℤ high
lies_high Empty low high n e h = absurd h
lies_high (Between a b) low high n e h = let p = true_le b high (and_right (int_le low a) _ e) in omega (arith, ints, h.1)

pub in_member : (s : Span) (n : ℤ) → has_member n s ≡ true → IsIn s n
in_member Empty n e = grind arith
in_member (Between a b) n e = (true_le a n (and_left _ _ e), true_le n b (and_right (int_le a n) _ e))

pub member_in : (s : Span) (n : ℤ) → IsIn s n → has_member n s ≡ true
member_in Empty n h = absurd h
member_in (Between a b) n h = both_true _ _ (le_true a n h.0) (le_true n b h.1)

pub product_in : (a b c d x y : ℤ) → a ≤ℤ x → x ≤ℤ b → c ≤ℤ y → y ≤ℤ d → IsIn (spanning (product_of (between a b) (between c d))) (x *ℤ y)
product_in a b c d x y p q r s = (product_holds (between a b) (between c d)).each x y (p, q) (r, s)

pub quot_in : (a b c d x y : ℤ) → a ≤ℤ x → x ≤ℤ b → c ≤ℤ y → y ≤ℤ d → ((c ≤ℤ pos 0) × (pos 0 ≤ℤ d) → ⊥) → IsIn (spanning (quotient_of (between a b) (between c d))) (int_div x y)
quot_in a b c d x y p q r s out = (quotient_holds (between a b) (between c d) out).each x y (p, q) (r, s)

pub rem_in : (a b c d x y : ℤ) → a ≤ℤ x → x ≤ℤ b → c ≤ℤ y → y ≤ℤ d → ((c ≤ℤ pos 0) × (pos 0 ≤ℤ d) → ⊥) → IsIn (spanning (remainder_of (between a b) (between c d))) (int_rem x y)
rem_in a b c d x y p q r s out = (remainder_holds (between a b) (between c d) out).each x y (p, q) (r, s)

same_magnitude : (n : ℤ) → magnitude n ≡ magnitude_of n
same_magnitude n = grind (arith, ints)

pub absolute_in : (s : Span) (n : ℤ) → IsIn s n → IsIn (absolute_span s) (magnitude n)
absolute_in Empty n h = absurd h
absolute_in (Between a b) n h = subst (λ (m : ℤ). IsIn (absolute_span (Between a b)) m) (sym (same_magnitude n)) ((absolute_holds (between a b)).each n h)

pub flipped_in : (s : Span) (b : Bool) → IsIn s (number_of b) → IsIn (flipped s) (number_of (not b))
flipped_in Empty b h = absurd h
flipped_in (Between l m) true h = in_intersected (Between (pos 1 -ℤ m) (pos 1 -ℤ l)) truths (pos 0) (omega (arith, ints, h.0, h.1), omega (arith, ints, h.0, h.1)) (omega (arith, ints), omega (arith, ints))
flipped_in (Between l m) false h = in_intersected (Between (pos 1 -ℤ m) (pos 1 -ℤ l)) truths (pos 1) (omega (arith, ints, h.0, h.1), omega (arith, ints, h.0, h.1)) (omega (arith, ints), omega (arith, ints))

pub stands_mirrored : (o : Relation) (x y : ℤ) → Stands o x y → Stands (mirrored o) y x
stands_mirrored is.Lt x y h = h
stands_mirrored is.Le x y h = h
stands_mirrored is.Gt x y h = h
stands_mirrored is.Ge x y h = h
stands_mirrored is.Eq x y h = sym h
stands_mirrored is.Ne x y h = λ e. h (sym e)
