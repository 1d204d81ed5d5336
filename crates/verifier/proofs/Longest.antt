-- The longest path is a path.
use Rattle.std.proofs.Common.{◌≡◌, ℕ, zero, suc, ◌+◌, ◌-◌, max, ◌<◌, ◌≤◌, ◌⊎◌, inl, inr, List, [], ◌∷◌, length, Option, Some, None, slice_get, Bool, true, false, nat_lt, if◌then◌else◌, refl, sym, ap, subst, ◌∙◌, arith}
use Rattle.point_types.specs.declared.operator.Condition.TheVariants as when
use Rattle.scan_code.specs.declared.op.Op.{Op}
use Rattle.scan_code.specs.declared.op.Op.TheVariants as does
use Rattle.facts.specs.Flow.{number_at}
use Rattle.verifier.specs.Budget.{Length, longer, one_more, length_at, length_of, length_from, lengths_from, count_of, is_start, greatest_from, longest_of, IsLast, Follows, IsPath, LongestIsAPath}
use Rattle.facts.proofs.Lists.{get_within}
use Rattle.verifier.proofs.Listings.{head_is}
use Rattle.verifier.proofs.Paths.{path_in, length_as}

-- a path from instruction n that has p instructions
record HasPath (es : List (ℕ × Op)) (rs : List Bool) (n p : ℕ) : Type 0 where
  rest : List ℕ
  is_path : IsPath es rs (n ∷ rest)
  long : length (n ∷ rest) ≡ p

-- where there is a length, a fact reaches the instruction
reached_at : (es : List (ℕ × Op)) (at n : ℕ) (ss : List Bool) (xs : List (ℕ × Op)) (p : ℕ) → length_at (lengths_from es at ss xs) n ≡ Some p → (e : ℕ × Op) × (slice_get xs n ≡ Some e) × (slice_get ss n ≡ Some true)
reached_at es at n [] xs p e = absurd (cc)
reached_at es at n (s ∷ ss) [] p e = absurd (cc)
reached_at es at zero (true ∷ ss) (x ∷ xs) p e = (x, refl, refl)
reached_at es at zero (false ∷ ss) (x ∷ xs) p e = absurd (cc)
reached_at es at (suc n) (s ∷ ss) (x ∷ xs) p e = reached_at es (at + 1) n ss xs p e

less_out : (n m : ℕ) → nat_lt n m ≡ true → n < m
less_out n m e = grind arith

module _ (es : List (ℕ × Op)) (rs : List Bool) (n : ℕ) (later : List Length) (those : (j : ℕ) → length_at later j ≡ path_in es rs (suc n + j)) where
  next_known : (o : Length) → length_at later 0 ≡ o → path_in es rs (n + 1) ≡ o
  next_known o e = let k : n + 1 ≡ suc n + 0 = omega arith in ap (path_in es rs) k ∙ sym (those 0) ∙ e

  -- a later instruction that is jumped to
  record Target (to q : ℕ) : Type 0 where
    number : ℕ
    found : number_at es 0 to ≡ Some number
    ahead : n < number
    known : path_in es rs number ≡ Some q

  target_of : (to q : ℕ) → length_of later n (number_at es 0 to) ≡ Some q → Target to q
  target_of to q e = go (number_at es 0 to) refl e
    where
      test : (m : ℕ) (t : Bool) → nat_lt n m ≡ t → number_at es 0 to ≡ Some m → ◌≡◌ {A = Length} (if t then length_at later (m - n - 1) else None) (Some q) → Target to q
      test m false l f g = absurd (cc)
      test m true l f g =
          let h = less_out n m l in
          let k : m ≡ suc n + (m - n - 1) = omega arith in
          record { number = m; found = f; ahead = h; known = ap (path_in es rs) k ∙ sym (those (m - n - 1)) ∙ g }

      go : (o : Option ℕ) → number_at es 0 to ≡ o → length_of later n o ≡ Some q → Target to q
      go None f g = absurd (cc)
      go (Some m) f g = test m (nat_lt n m) refl f g

  module _ (a : ℕ) (p : ℕ) (flagged : slice_get rs n ≡ Some true) (again : (m q : ℕ) → n < m → path_in es rs m ≡ Some q → HasPath es rs m q) where
    last : (i : Op) → slice_get es n ≡ Some (a, i) → IsLast i → 1 ≡ p → HasPath es rs n p
    last i l h e = record { rest = []; is_path = record { entry = (a, i); listed = l; flagged = flagged; stands = h }; long = omega arith }

    onward : (i : Op) (m q : ℕ) → slice_get es n ≡ Some (a, i) → Follows es n i m → n < m → path_in es rs m ≡ Some q → 1 + q ≡ p → HasPath es rs n p
    onward i m q l f h k e =
        let r = again m q h k in
        record { rest = m ∷ r.rest; is_path = (record { entry = (a, i); listed = l; flagged = flagged; stands = f }, r.is_path); long = omega (arith, r.long) }

    next_on : (i : Op) (q : ℕ) → slice_get es n ≡ Some (a, i) → Follows es n i (n + 1) → length_at later 0 ≡ Some q → 1 + q ≡ p → HasPath es rs n p
    next_on i q l f k e = onward i (n + 1) q l f (omega arith) (next_known (Some q) k) e

    only_next : (i : Op) → slice_get es n ≡ Some (a, i) → Follows es n i (n + 1) → (o : Length) → length_at later 0 ≡ o → one_more o ≡ Some p → HasPath es rs n p
    only_next i l f None k e = absurd (cc)
    only_next i l f (Some q) k e = next_on i q l f k (head_is (1 + q) p e)

    next_or_last : (i : Op) → slice_get es n ≡ Some (a, i) → IsLast i → Follows es n i (n + 1) → (o : Length) → length_at later 0 ≡ o → longer (Some 1) (one_more o) ≡ Some p → HasPath es rs n p
    next_or_last i l h f None k e = last i l h (head_is 1 p e)
    next_or_last i l h f (Some q) k e = let g : max 1 (1 + q) ≡ p = head_is (max 1 (1 + q)) p e in next_on i q l f k (omega arith)

    only_target : (i : Op) (to : ℕ) → slice_get es n ≡ Some (a, i) → ((m : ℕ) → n < m → number_at es 0 to ≡ Some m → Follows es n i m) → (o : Length) → length_of later n (number_at es 0 to) ≡ o → one_more o ≡ Some p → HasPath es rs n p
    only_target i to l f None k e = absurd (cc)
    only_target i to l f (Some q) k e = let t = target_of to q k in onward i t.number q l (f t.number t.ahead t.found) t.ahead t.known (head_is (1 + q) p e)

    greater : (x y : ℕ) → (y ≤ x) ⊎ (x < y)
    greater zero zero = inl (omega arith)
    greater zero (suc y) = inr (omega arith)
    greater (suc x) zero = inl (omega arith)
    greater (suc x) (suc y) = up (greater x y)
      where
        up : (y ≤ x) ⊎ (x < y) → (suc y ≤ suc x) ⊎ (suc x < suc y)
        up (inl h) = inl (omega arith)
        up (inr h) = inr (omega arith)

    either_way : (i : Op) (to : ℕ) → slice_get es n ≡ Some (a, i) → Follows es n i (n + 1) → ((m : ℕ) → n < m → number_at es 0 to ≡ Some m → Follows es n i m) → (o u : Length) → length_at later 0 ≡ o → length_of later n (number_at es 0 to) ≡ u → one_more (longer o u) ≡ Some p → HasPath es rs n p
    either_way i to l f g None None k j e = absurd (cc)
    either_way i to l f g None (Some r) k j e = only_target i to l g (Some r) j e
    either_way i to l f g (Some q) None k j e = only_next i l f (Some q) k e
    either_way i to l f g (Some q) (Some r) k j e = choose (greater q r)
      where
        most : 1 + max q r ≡ p
        most = head_is (1 + max q r) p e

        choose : (r ≤ q) ⊎ (q < r) → HasPath es rs n p
        choose (inl h) = next_on i q l f k (omega (arith, most))
        choose (inr h) = let t = target_of to r j in onward i t.number r l (g t.number t.ahead t.found) t.ahead t.known (omega (arith, most))

    by_form : (i : Op) → slice_get es n ≡ Some (a, i) → length_from es n i later ≡ Some p → HasPath es rs n p
    by_form does.End l e = last does.End l tt (head_is 1 p e)
    by_form (does.Return when.Always) l e = last (does.Return when.Always) l tt (head_is 1 p e)
    by_form (does.Return when.IfTrue) l e = next_or_last (does.Return when.IfTrue) l tt refl _ refl e
    by_form (does.Return when.IfFalse) l e = next_or_last (does.Return when.IfFalse) l tt refl _ refl e
    by_form (does.Jump when.Always to) l e = only_target (does.Jump when.Always to) to l (λ m h f. (h, f)) _ refl e
    by_form (does.Jump when.IfTrue to) l e = either_way (does.Jump when.IfTrue to) to l (inl refl) (λ m h f. inr (h, f)) _ _ refl refl e
    by_form (does.Jump when.IfFalse to) l e = either_way (does.Jump when.IfFalse to) to l (inl refl) (λ m h f. inr (h, f)) _ _ refl refl e
    by_form other l e = only_next other l refl _ refl e

path_of : (es : List (ℕ × Op)) (rs : List Bool) (d n p : ℕ) → length es ≤ n + d → path_in es rs n ≡ Some p → HasPath es rs n p
path_of es rs zero n p h e = let x = reached_at es 0 n rs es p e in let w = get_within es n x.0 x.1 in absurd (omega arith)
path_of es rs (suc d) n p h e =
    let x = reached_at es 0 n rs es p e in
    let l = length_as es rs n (λ i. Unit {0}) (record { entry = x.0; listed = x.1; flagged = x.2; stands = tt }) in
    by_form es rs n l.0 l.2 x.0.0 p x.2 (λ m q k f. path_of es rs d m q (omega (arith, k)) f) x.0.1 x.1 (sym l.1 ∙ e)

-- an instruction at which the greatest length begins
record Greatest (c : List (ℕ × Op)) (n : ℕ) (ls : List Length) (es : List (ℕ × Op)) : Type 0 where
  number : ℕ
  entry : ℕ × Op
  listed : slice_get es number ≡ Some entry
  starts : is_start c (n + number) entry ≡ true
  known : length_at ls number ≡ Some (greatest_from c n ls es)

greatest_at : (c : List (ℕ × Op)) (n : ℕ) (ls : List Length) (es : List (ℕ × Op)) → 0 < greatest_from c n ls es → Greatest c n ls es
greatest_at c n [] es h = absurd (omega arith)
greatest_at c n (l ∷ ls) [] h = absurd (omega arith)
greatest_at c n (l ∷ ls) (x ∷ es) h = begin (is_start c n x) l refl refl h (λ k. greatest_at c (n + 1) ls es k)
  where
    g : ℕ
    g = greatest_from c (n + 1) ls es

    later : (m : ℕ) → greatest_from c n (l ∷ ls) (x ∷ es) ≡ g → Greatest c (n + 1) ls es → Greatest c n (l ∷ ls) (x ∷ es)
    later m e r = record {
      number = suc r.number;
      entry = r.entry;
      listed = r.listed;
      starts = subst (λ (i : ℕ). is_start c i r.entry ≡ true) (omega arith) r.starts;
      known = r.known ∙ ap (λ (k : ℕ). Some k) (sym e);
    }

    greater : (a b : ℕ) → (b ≤ a) ⊎ (a < b)
    greater zero zero = inl (omega arith)
    greater zero (suc b) = inr (omega arith)
    greater (suc a) zero = inl (omega arith)
    greater (suc a) (suc b) = up (greater a b)
      where
        up : (b ≤ a) ⊎ (a < b) → (suc b ≤ suc a) ⊎ (suc a < suc b)
        up (inl k) = inl (omega arith)
        up (inr k) = inr (omega arith)

    here : (k : ℕ) → is_start c n x ≡ true → l ≡ Some k → greatest_from c n (l ∷ ls) (x ∷ es) ≡ k → Greatest c n (l ∷ ls) (x ∷ es)
    here k s e f = record { number = 0; entry = x; listed = refl; starts = subst (λ (i : ℕ). is_start c i x ≡ true) (omega arith) s; known = e ∙ ap (λ (j : ℕ). Some j) (sym f) }

    value : (t : Bool) (o : Length) → is_start c n x ≡ t → l ≡ o → greatest_from c n (l ∷ ls) (x ∷ es) ≡ max (if t then count_of o else 0) g
    value t o s e = rw (s, e) refl

    begin : (t : Bool) (o : Length) → is_start c n x ≡ t → l ≡ o → 0 < greatest_from c n (l ∷ ls) (x ∷ es) → (0 < g → Greatest c (n + 1) ls es) → Greatest c n (l ∷ ls) (x ∷ es)
    begin true (Some k) s e h again = choose (greater k g)
      where
        v : greatest_from c n (l ∷ ls) (x ∷ es) ≡ max k g
        v = value true (Some k) s e

        choose : (g ≤ k) ⊎ (k < g) → Greatest c n (l ∷ ls) (x ∷ es)
        choose (inl m) = here k s e (omega (arith, v))
        choose (inr m) = later k (omega (arith, v)) (again (omega arith))
    begin true None s e h again = let v = value true None s e in later 0 (omega (arith, v)) (again (omega (arith, v, h)))
    begin false o s e h again = let v = value false o s e in later 0 (omega (arith, v)) (again (omega (arith, v, h)))

pub longest_is_a_path : LongestIsAPath
longest_is_a_path es rs h =
    let g = greatest_at es 0 (lengths_from es 0 rs es) es h in
    let r = path_of es rs (length es) g.number (longest_of es rs) (omega arith) g.known in
    record {
      path = g.number ∷ r.rest;
      is_path = r.is_path;
      longest = r.long;
      from_start = record { number = g.number; rest = r.rest; begins = refl; entry = g.entry; listed = g.listed; starts = subst (λ (i : ℕ). is_start es i g.entry ≡ true) (omega arith) g.starts };
    }
