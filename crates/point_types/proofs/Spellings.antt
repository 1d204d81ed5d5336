-- Each number of k registers has exactly one list of k words, so each value of a kind has.
use Rattle.std.proofs.Common.{◌≡◌, ◌≢◌, ℕ, zero, suc, ◌+◌, ◌*◌, ◌/◌, ◌%◌, ◌^◌, ◌<◌, ◌≤◌, Bool, true, false, nat_eq, if◌then◌else◌, List, [], ◌∷◌, length, ℤ, pos, negsuc, ◌-ℤ◌, Option, Some, None, IsSomeAnd, IfSome, option_and_then, ◌⊎◌, inl, inr, ◌↔◌, ◌-◌, refl, sym, ap, subst, ◌∙◌, arith, lit<}
use Rattle.std.specs.Prelude.{All}
use Rattle.std.specs.Option.{option_map_or}
use Rattle.std.proofs.Math.Nat.{pow-suc, one-le-pow, mod-lt}
use Rattle.std.proofs.lemmas.Nat.{same_from_place, div_below, div-add-mod'}
use Rattle.std.proofs.lemmas.List.Elements.{All-nil, All-cons, All-tail}
use Rattle.std.proofs.lemmas.Int.{ints}
use Rattle.std.proofs.lemmas.Bool.Decides.{leb_tells, eqb_tells}
use Rattle.point_types.specs.declared.form.Form.{Form}
use Rattle.point_types.specs.declared.form.Form.TheVariants as form
use Rattle.point_types.specs.declared.kind.Kind.{Kind}
use Rattle.point_types.specs.declared.kind.Kind.TheVariants as kind
use Rattle.point_types.specs.Point.{Row, row_of, number_of, has_top_bit, read_as, meaning_of, StandsFor, IsSpelling}
use Rattle.point_types.specs.Laws.{IsInForm, CanHold}
use Rattle.point_types.proofs.Numbers.{number_of-lt}
use Rattle.point_types.proofs.Forms.{IsSpellingIn, spelling_in, same_number, same_read}

same_cons : (w u : ℕ) (ws us : List ℕ) → w ≡ u → ws ≡ us → w ∷ ws ≡ u ∷ us
same_cons w u ws us p q = cc

pub same_words : (ws us : List ℕ) → All (λ w. w < 65536) ws → All (λ w. w < 65536) us → length ws ≡ length us → number_of ws ≡ number_of us → ws ≡ us
same_words [] [] h k l e = refl
same_words [] (u ∷ us) h k l e = absurd (omega arith)
same_words (w ∷ ws) [] h k l e = absurd (omega arith)
same_words (w ∷ ws) (u ∷ us) h k l e =
    let same : length ws ≡ length us = omega arith in
    let hs = All-tail (λ w. w < 65536) w ws h in
    let ks = All-tail (λ w. w < 65536) u us k in
    let p : number_of us < 65536 ^ length ws = rw same (number_of-lt us ks) in
    let f : w * 65536 ^ length ws + number_of ws ≡ u * 65536 ^ length ws + number_of us = e ∙ ap (λ n. u * 65536 ^ n + number_of us) (sym same) in
    let parts = same_from_place w (number_of ws) u (number_of us) (65536 ^ length ws) (number_of-lt ws hs) p f in
    same_cons w u ws us parts.0 (same_words ws us hs ks same parts.1)

-- the list of a number
pub record HasNumber (k n : ℕ) (ws : List ℕ) : Type 0 where
  pub sized : length ws ≡ k
  pub words : All (λ w. w < 65536) ws
  pub number : number_of ws ≡ n

pub words_of : (k n : ℕ) → n < 65536 ^ k → (ws : List ℕ) × HasNumber k n ws
words_of zero n h = ([], record { sized = refl; words = All-nil (λ w. w < 65536); number = omega arith })
words_of (suc k) n h =
    let first : n / 65536 ^ k < 65536 = div_below n (65536 ^ k) 65536 (one-le-pow k 65536 (lit< tt)) (omega (arith, pow-suc 65536 k)) in
    let rest = words_of k (n % 65536 ^ k) (mod-lt n (one-le-pow k 65536 (lit< tt))) in (
      n / 65536 ^ k ∷ rest.0,
      record {
        sized = ap suc rest.1.sized;
        words = All-cons (λ w. w < 65536) (n / 65536 ^ k) rest.0 first rest.1.words;
        number = rw (rest.1.sized, rest.1.number) (div-add-mod' n (65536 ^ k));
      },
    )

pub at_most_one_spelling : (k : Kind) (ws us : List ℕ) (v : ℤ) → StandsFor k ws v → StandsFor k us v → ws ≡ us
at_most_one_spelling k ws us v h l = same_words ws us h.words l.words (h.sized ∙ sym l.sized) (go (row_of k) (spelling_in k ws v h) (spelling_in k us v l))
  where
    go : (o : Option Row) → IsSpellingIn o ws v → IsSpellingIn o us v → number_of ws ≡ number_of us
    go None s t = absurd s
    go (Some r) s t = same_number r ws us v s t

-- a number of a form is read from a number of the registers
top-clear : (k n : ℕ) → n + n < 65536 ^ k → has_top_bit k n ≡ false
top-clear k n h = go (leb_tells (65536 ^ k) (2 * n))
  where
    go : ((has_top_bit k n ≡ true) × (65536 ^ k ≤ 2 * n)) ⊎ ((has_top_bit k n ≡ false) × (2 * n < 65536 ^ k)) → has_top_bit k n ≡ false
    go (inl t) = absurd (omega (arith, t.1))
    go (inr f) = f.0

top-set : (k n : ℕ) → 65536 ^ k ≤ n + n → has_top_bit k n ≡ true
top-set k n h = go (leb_tells (65536 ^ k) (2 * n))
  where
    go : ((has_top_bit k n ≡ true) × (65536 ^ k ≤ 2 * n)) ⊎ ((has_top_bit k n ≡ false) × (2 * n < 65536 ^ k)) → has_top_bit k n ≡ true
    go (inl t) = t.0
    go (inr f) = absurd (omega (arith, f.1))

abbrev pub IsReadFrom : Form → ℕ → ℤ → Type 0
IsReadFrom f k v = (n : ℕ) × (n < 65536 ^ k) × (read_as f k n ≡ Some v)

read_from : (f : Form) (k : ℕ) (v : ℤ) → IsInForm f k v → IsReadFrom f k v
read_from form.Signed k (pos m) h = (m, omega (arith, ints, h.0, h.1), rw (top-clear k m (omega (arith, ints, h.1))) refl)
read_from form.Signed k (negsuc m) h =
    let n = 65536 ^ k - suc m in
    let p : suc m + suc m ≤ 65536 ^ k = omega (arith, ints, h.0) in
    let e : (pos n -ℤ pos (65536 ^ k)) ≡ negsuc m = omega (arith, ints) in
    (n, omega arith, rw (top-set k n (omega arith)) (ap (λ z. Some z) e))
read_from form.Unsigned k (pos m) h = (m, omega (arith, ints, h.1), refl)
read_from form.Unsigned k (negsuc m) h = absurd (omega (arith, ints, h.0))
read_from form.Flags k (pos m) h = (m, omega (arith, ints, h.1), rw (top-clear k m (omega (arith, ints, h.1))) refl)
read_from form.Flags k (negsuc m) h = absurd (omega (arith, ints, h.0))

in_form : (f : Form) (k n : ℕ) (v : ℤ) → n < 65536 ^ k → read_as f k n ≡ Some v → IsInForm f k v
in_form form.Signed k n v h e = go (leb_tells (65536 ^ k) (2 * n)) (has_top_bit k n) refl e
  where
    go : ((has_top_bit k n ≡ true) × (65536 ^ k ≤ 2 * n)) ⊎ ((has_top_bit k n ≡ false) × (2 * n < 65536 ^ k)) → (b : Bool) → has_top_bit k n ≡ b → Some (if b then pos n -ℤ pos (65536 ^ k) else pos n) ≡ Some v → IsInForm form.Signed k v
    go (inl t) true q e' = let i : v ≡ (pos n -ℤ pos (65536 ^ k)) = cc in (omega (arith, ints, t.1), omega (arith, ints, t.1))
    go (inl t) false q e' = absurd (cc (t.0, q))
    go (inr f) true q e' = absurd (cc (f.0, q))
    go (inr f) false q e' = let i : v ≡ pos n = cc in (omega (arith, ints, f.1), omega (arith, ints, f.1))
in_form form.Unsigned k n v h e = let i : v ≡ pos n = cc in (omega (arith, ints), omega (arith, ints))
in_form form.Flags k n v h e = go (leb_tells (65536 ^ k) (2 * n)) (has_top_bit k n) refl e
  where
    go : ((has_top_bit k n ≡ true) × (65536 ^ k ≤ 2 * n)) ⊎ ((has_top_bit k n ≡ false) × (2 * n < 65536 ^ k)) → (b : Bool) → has_top_bit k n ≡ b → (if b then None else Some (pos n)) ≡ Some v → IsInForm form.Flags k v
    go (inl t) true q e' = cc
    go (inl t) false q e' = absurd (cc (t.0, q))
    go (inr f) true q e' = cc
    go (inr f) false q e' = let i : v ≡ pos n = cc in (omega (arith, ints, f.1), omega (arith, ints, f.1))

-- each unimplemented number is one of its registers
unimplemented-lt : (k : Kind) → IfSome (row_of k) (λ r. r.unimplemented < 65536 ^ r.registers)
unimplemented-lt kind.String = tt
unimplemented-lt other = lit< tt

abbrev pub HoldsIn : Option Row → ℤ → Type 0
HoldsIn o v = IsSomeAnd o (λ (r : Row). IsInForm r.form r.registers v × (read_as r.form r.registers r.unimplemented ≢ Some v))

spelled : (r : Row) (v : ℤ) → IsInForm r.form r.registers v → (read_as r.form r.registers r.unimplemented ≢ Some v) → (ws : List ℕ) × IsSpelling r ws v
spelled r v h out =
    let n = read_from r.form r.registers v h in
    let ws = words_of r.registers n.0 n.1 in
    (ws.0, record { sized = ws.1.sized; words = ws.1.words; value = rw ws.1.number (implemented n.0 n.2 (eqb_tells n.0 r.unimplemented)) })
  where
    implemented : (n : ℕ) → read_as r.form r.registers n ≡ Some v → ((nat_eq n r.unimplemented ≡ true) × (n ≡ r.unimplemented)) ⊎ ((nat_eq n r.unimplemented ≡ false) × (n ≢ r.unimplemented)) → meaning_of r n ≡ Some v
    implemented n e (inl t) = absurd (out (subst (λ m. read_as r.form r.registers m ≡ Some v) t.1 e))
    implemented n e (inr f) = rw f.0 e

holds_from : (r : Row) (ws : List ℕ) (v : ℤ) → r.unimplemented < 65536 ^ r.registers → IsSpelling r ws v → IsInForm r.form r.registers v × (read_as r.form r.registers r.unimplemented ≢ Some v)
holds_from r ws v l h = go (eqb_tells (number_of ws) r.unimplemented)
  where
    small : number_of ws < 65536 ^ r.registers
    small = subst (λ k. number_of ws < 65536 ^ k) h.sized (number_of-lt ws h.words)

    read : nat_eq (number_of ws) r.unimplemented ≡ false → read_as r.form r.registers (number_of ws) ≡ Some v
    read f = rw f at h.value

    apart : (number_of ws ≢ r.unimplemented) → read_as r.form r.registers (number_of ws) ≡ Some v → read_as r.form r.registers r.unimplemented ≢ Some v
    apart ne e u = ne (same_read r.form r.registers (number_of ws) r.unimplemented v small l e u)

    go : ((nat_eq (number_of ws) r.unimplemented ≡ true) × (number_of ws ≡ r.unimplemented)) ⊎ ((nat_eq (number_of ws) r.unimplemented ≡ false) × (number_of ws ≢ r.unimplemented)) → IsInForm r.form r.registers v × (read_as r.form r.registers r.unimplemented ≢ Some v)
    go (inl t) = absurd (cc (rw t.0 at h.value))
    go (inr f) = (in_form r.form r.registers (number_of ws) v small (read f.0), apart f.1 (read f.0))

stands_from : (k : Kind) (ws : List ℕ) (v : ℤ) → IsSpellingIn (row_of k) ws v → StandsFor k ws v
stands_from k ws v h = let p = go (row_of k) h in record { sized = p.0; words = p.1; value = p.2 }
  where
    go : (o : Option Row) → IsSpellingIn o ws v → (length ws ≡ option_map_or (λ (r : Row). r.registers) o 1) × All (λ w. w < 65536) ws × (option_and_then (λ (r : Row). meaning_of r (number_of ws)) o ≡ Some v)
    go None s = absurd s
    go (Some r) s = (s.sized, s.words, s.value)

pub has_words : (k : Kind) (v : ℤ) → CanHold k v → (ws : List ℕ) × StandsFor k ws v
has_words k v h = let p = go (row_of k) h in (p.0, stands_from k p.0 v p.1)
  where
    go : (o : Option Row) → HoldsIn o v → (ws : List ℕ) × IsSpellingIn o ws v
    go None s = absurd s
    go (Some r) s = spelled r v s.0 s.1

pub holds_exactly : (k : Kind) (v : ℤ) → CanHold k v ↔ ((ws : List ℕ) × StandsFor k ws v)
holds_exactly k v = (has_words k v, λ p. go (row_of k) p.0 (unimplemented-lt k) (spelling_in k p.0 v p.1))
  where
    go : (o : Option Row) (ws : List ℕ) → IfSome o (λ (r : Row). r.unimplemented < 65536 ^ r.registers) → IsSpellingIn o ws v → HoldsIn o v
    go None ws l s = absurd s
    go (Some r) ws l s = holds_from r ws v l s
