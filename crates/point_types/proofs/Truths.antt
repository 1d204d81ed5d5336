-- Tests that compute, as facts: truths that hold together, numbers that are compared, types.
use Rattle.std.proofs.Common.{◌≡◌, ℕ, ◌<◌, ℤ, Bool, true, false, ◌&&◌, List, Option, Some, None, get_or, zero, suc, [], ◌∷◌, nat_eq, nat_lt, refl, sym, ap, ◌∙◌, arith, true≢false}
use Rattle.point_types.specs.Value.{is_bool}
use Rattle.point_types.specs.declared.il_type.IlType.{IlType}
use Rattle.point_types.specs.declared.il_type.IlType.TheVariants as il

pub both : (a b : Bool) → (a && b) ≡ true → (a ≡ true) × (b ≡ true)
both true b h = (refl, h)
both false b h = absurd (true≢false (sym h))

pub first_of : (a b : Bool) → (a && b) ≡ true → a ≡ true
first_of a b h = (both a b h).0

pub second_of : (a b : Bool) → (a && b) ≡ true → b ≡ true
second_of a b h = (both a b h).1

pub and_both : (a b : Bool) → a ≡ true → b ≡ true → (a && b) ≡ true
and_both a b h k = ap (λ x. x && b) h ∙ k

pub nat_same : (m n : ℕ) → nat_eq m n ≡ true → m ≡ n
nat_same m n e = grind arith

pub bool_kind : (k : IlType) → is_bool k ≡ true → k ≡ il.Bool
bool_kind il.Bool h = refl
bool_kind il.Sint h = absurd (true≢false (sym h))
bool_kind il.Int h = absurd (true≢false (sym h))
bool_kind il.Dint h = absurd (true≢false (sym h))
bool_kind il.Lint h = absurd (true≢false (sym h))
bool_kind il.Usint h = absurd (true≢false (sym h))
bool_kind il.Uint h = absurd (true≢false (sym h))
bool_kind il.Udint h = absurd (true≢false (sym h))

-- one number alone stands after a given one
pub same_some : {A : Type 0} {a b : A} → Some a ≡ Some b → b ≡ a
same_some e = cc
