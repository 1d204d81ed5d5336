-- Tests that compute, as facts.
use Rattle.std.proofs.Common.{◌≡◌, Bool, true, false, ◌&&◌, ℤ, ◌≤ℤ◌, ◌<ℤ◌, int_le, int_lt, refl, arith, if◌then◌else◌, ◌+◌, min, max}
use borrow.Author.Differences.{up, down}
use Rattle.std.proofs.lemmas.Int.{ints}
use Rattle.point_types.specs.Value.{int_eq, int_least, int_most}

pub le_true : (a b : ℤ) → a ≤ℤ b → int_le a b ≡ true
le_true a b h = grind (arith, ints)

pub true_le : (a b : ℤ) → int_le a b ≡ true → a ≤ℤ b
true_le a b h = omega (arith, ints)

pub true_lt : (a b : ℤ) → int_lt a b ≡ true → a <ℤ b
true_lt a b h = omega (arith, ints)

pub false_lt : (a b : ℤ) → int_lt a b ≡ false → b ≤ℤ a
false_lt a b h = omega (arith, ints)

pub and_left : (a b : Bool) → a && b ≡ true → a ≡ true
and_left true b h = refl
and_left false b h = h

pub and_right : (a b : Bool) → a && b ≡ true → b ≡ true
and_right true b h = h
and_right false b h = grind arith

pub three_true : (a b c : Bool) → a && b && c ≡ true → (a ≡ true) × (b ≡ true) × (c ≡ true)
three_true true true c h = (refl, refl, h)
three_true true false c h = grind arith
three_true false b c h = grind arith

pub both_true : (a b : Bool) → a ≡ true → b ≡ true → a && b ≡ true
both_true a b p q = grind arith

pub eq_out : (a b : ℤ) → int_eq a b ≡ true → a ≡ b
eq_out a b h = let p = true_le a b (and_left _ _ h) in let q = true_le b a (and_right (int_le a b) _ h) in omega (arith, ints)

pub eq_in : (a b : ℤ) → a ≡ b → int_eq a b ≡ true
eq_in a b h = let p : a ≤ℤ b = omega (arith, ints) in let q : b ≤ℤ a = omega (arith, ints) in both_true _ _ (le_true a b p) (le_true b a q)

-- of the least and the greatest of two, for `omega` with `ints`
pub least_is : (x y : ℤ) → up (int_least x y) + down x + down y ≡ down (int_least x y) + min (up x + down y) (up y + down x)
least_is x y = go (int_lt y x) refl
  where
    go : (t : Bool) → int_lt y x ≡ t → up (if t then y else x) + down x + down y ≡ down (if t then y else x) + min (up x + down y) (up y + down x)
    go true e = omega (arith, ints)
    go false e = omega (arith, ints)

pub most_is : (x y : ℤ) → up (int_most x y) + down x + down y ≡ down (int_most x y) + max (up x + down y) (up y + down x)
most_is x y = go (int_lt x y) refl
  where
    go : (t : Bool) → int_lt x y ≡ t → up (if t then y else x) + down x + down y ≡ down (if t then y else x) + max (up x + down y) (up y + down x)
    go true e = omega (arith, ints)
    go false e = omega (arith, ints)

pub ruleset ends = (ints, least_is, most_is)
