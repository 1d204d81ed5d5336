-- Instructions and their addresses.
use Rattle.std.proofs.Common.{◌≡◌, ℕ, zero, suc, ◌+◌, ◌<◌, ◌≤◌, ◌⊎◌, inl, inr, List, [], ◌∷◌, drop, Option, Some, None, option_map, slice_get, Bool, true, false, nat_eq, nat_lt, nat_le, refl, sym, ap, subst, arith, if◌then◌else◌}
use Rattle.scan_code.specs.declared.op.Op.{Op}
use Rattle.scan_code.specs.declared.op.Op.TheVariants as does
use Rattle.scan_code.specs.Instruction.{decoded, decoded_at}
use Rattle.facts.specs.Flow.{number_at}
use Rattle.verifier.proofs.Made.{IsWhole}
use Rattle.point_types.proofs.Truths.{nat_same}

pub head_is : {A : Type 0} (x y : A) → Some x ≡ Some y → x ≡ y
head_is x y e = cc

next_after : (code : List ℕ) (at : ℕ) (i : Op) (next : ℕ) → decoded_at code at ≡ Some (i, next) → at < next
next_after code at i next e = go (decoded (drop at code)) e
  where
    go : (o : Option (Op × ℕ)) → option_map {U = Op × ℕ} (λ found. (found.0, at + 1 + found.1)) o ≡ Some (i, next) → at < next
    go None e = absurd (cc)
    go (Some found) e = let f : at + 1 + found.1 ≡ next = ap (λ (p : Op × ℕ). p.1) (head_is (found.0, at + 1 + found.1) (i, next) e) in omega arith

-- an instruction of a listing, and what follows it
pub first_is : (a b : ℕ) (i j : Op) → ◌≡◌ {A = Option (ℕ × Op)} (Some (a, i)) (Some (b, j)) → a ≡ b
first_is a b i j e = ap (λ (p : ℕ × Op). p.0) (head_is (a, i) (b, j) e)

pub record Stands (code : List ℕ) (es : List (ℕ × Op)) (n : ℕ) (e : ℕ × Op) : Type 0 where
  pub next : ℕ
  pub decoded : decoded_at code e.0 ≡ Some (e.1, next)
  pub follows : (e.1 ≡ does.End) ⊎ ((j : Op) × (slice_get es (suc n) ≡ Some (next, j)))

pub whole_starts : (code : List ℕ) (a : ℕ) (es : List (ℕ × Op)) → IsWhole code a es → (i : Op) × (slice_get es 0 ≡ Some (a, i))
whole_starts code a [] w = absurd w
whole_starts code a (e ∷ []) w = (e.1, ap (λ (n : ℕ). Some (n, e.1)) w.0)
whole_starts code a (e ∷ f ∷ es) w = (e.1, ap (λ (n : ℕ). Some (n, e.1)) w.0)

pub whole_stands : (code : List ℕ) (a : ℕ) (es : List (ℕ × Op)) → IsWhole code a es → (n : ℕ) (e : ℕ × Op) → slice_get es n ≡ Some e → Stands code es n e
whole_stands code a [] w n e g = absurd w
whole_stands code a (x ∷ []) w zero e g =
    subst (λ (y : ℕ × Op). Stands code (x ∷ []) 0 y) (head_is x e g) (record { next = w.2.0; decoded = subst (λ (n : ℕ). decoded_at code n ≡ Some (x.1, w.2.0)) (sym w.0) w.2.1; follows = inl w.1 })
whole_stands code a (x ∷ []) w (suc n) e g = absurd (cc)
whole_stands code a (x ∷ y ∷ es) w zero e g =
    let s = whole_starts code w.1.0 (y ∷ es) w.1.2 in
    subst (λ (z : ℕ × Op). Stands code (x ∷ y ∷ es) 0 z) (head_is x e g) (record { next = w.1.0; decoded = subst (λ (n : ℕ). decoded_at code n ≡ Some (x.1, w.1.0)) (sym w.0) w.1.1; follows = inr s })
whole_stands code a (x ∷ y ∷ es) w (suc n) e g = let r = whole_stands code w.1.0 (y ∷ es) w.1.2 n e g in record { next = r.next; decoded = r.decoded; follows = r.follows }

above : (code : List ℕ) (a : ℕ) (es : List (ℕ × Op)) → IsWhole code a es → (n : ℕ) (e : ℕ × Op) → slice_get es n ≡ Some e → a ≤ e.0
above code a [] w n e g = absurd w
above code a (x ∷ []) w zero e g = subst (λ (y : ℕ × Op). a ≤ y.0) (head_is x e g) (omega (arith, w.0))
above code a (x ∷ []) w (suc n) e g = absurd (cc)
above code a (x ∷ y ∷ es) w zero e g = subst (λ (y : ℕ × Op). a ≤ y.0) (head_is x e g) (omega (arith, w.0))
above code a (x ∷ y ∷ es) w (suc n) e g = let r = above code w.1.0 (y ∷ es) w.1.2 n e g in let h = next_after code a x.1 w.1.0 w.1.1 in omega arith

pub rising : (code : List ℕ) (a : ℕ) (es : List (ℕ × Op)) → IsWhole code a es → (m n : ℕ) (e f : ℕ × Op) → m < n → slice_get es m ≡ Some e → slice_get es n ≡ Some f → e.0 < f.0
rising code a [] w m n e f h p q = absurd w
rising code a (x ∷ []) w m zero e f h p q = absurd (omega arith)
rising code a (x ∷ []) w m (suc n) e f h p q = absurd (cc)
rising code a (x ∷ y ∷ es) w m zero e f h p q = absurd (omega arith)
rising code a (x ∷ y ∷ es) w zero (suc n) e f h p q =
    let r = above code w.1.0 (y ∷ es) w.1.2 n f q in let k = next_after code a x.1 w.1.0 w.1.1 in
    subst (λ (z : ℕ × Op). z.0 < f.0) (head_is x e p) (omega (arith, w.0))
rising code a (x ∷ y ∷ es) w (suc m) (suc n) e f h p q = rising code w.1.0 (y ∷ es) w.1.2 m n e f (omega arith) p q

pub number_found : (es : List (ℕ × Op)) (k a n : ℕ) → number_at es k a ≡ Some n → (j : ℕ) × (n ≡ k + j) × ((i : Op) × (slice_get es j ≡ Some (a, i)))
number_found [] k a n e = absurd (cc)
number_found (x ∷ es) k a n e = go (nat_eq x.0 a) refl (number_found es (k + 1) a n) e
  where
    go : (t : Bool) → nat_eq x.0 a ≡ t → (number_at es (k + 1) a ≡ Some n → (j : ℕ) × (n ≡ k + 1 + j) × ((i : Op) × (slice_get es j ≡ Some (a, i)))) → (if t then Some k else number_at es (k + 1) a) ≡ Some n → (j : ℕ) × (n ≡ k + j) × ((i : Op) × (slice_get (x ∷ es) j ≡ Some (a, i)))
    go true f later g = let p : x.0 ≡ a = nat_same x.0 a f in let q : k ≡ n = cc in (0, omega arith, (x.1, ap (λ (m : ℕ). Some (m, x.1)) p))
    go false f later g = let r = later g in (suc r.0, omega (arith, r.1), r.2)

pub lt_yes : (m n : ℕ) → m < n → nat_lt m n ≡ true
lt_yes m n h = grind arith

pub le_yes : (m n : ℕ) → m ≤ n → nat_le m n ≡ true
le_yes m n h = grind arith
