-- What a cut leaves.
use Rattle.std.proofs.Common.{◌≡◌, ◌≢◌, ◌↔◌, inl, inr, Bool, true, false, refl, ℤ, pos, ◌+ℤ◌, ◌-ℤ◌, ◌≤ℤ◌, int_le, Some, None, IfSome, arith, if◌then◌else◌}
use Rattle.std.proofs.lemmas.Int.{ints, clamps, by_lt_z}
use Rattle.std.specs.Int.{int_min, int_max}
use Rattle.intervals.specs.declared.Span.{Span}
use Rattle.intervals.specs.declared.Relation.{Relation}
use Rattle.intervals.specs.declared.Relation.TheVariants.{Gt, Ge, Eq, Ne, Le, Lt}
use Rattle.intervals.specs.Ends.{between}
use Rattle.intervals.specs.Cut.{int_same, left_between, low_without, high_without, without_end, cut_of}
use Rattle.intervals.specs.Members.{IsIn, IsInSome, IsOrdered, IsOfLint, lint, IsEnd, IsLeft, Stands, StandsToSome}
use Rattle.intervals.proofs.Sums.{low_in, high_in}
use Rattle.intervals.proofs.Magnitudes.{and_left, and_right, both_true, true_le, le_true}

pub same_out : (a b : ℤ) → int_same a b ≡ true → a ≡ b
same_out a b h = let p = true_le a b (and_left _ _ h) in let q = true_le b a (and_right (int_le a b) _ h) in omega (arith, ints)

pub same_in : (a b : ℤ) → a ≡ b → int_same a b ≡ true
same_in a b h = both_true _ _ (le_true a b (omega (arith, ints))) (le_true b a (omega (arith, ints)))

pub differ_out : (a b : ℤ) → int_same a b ≡ false → a ≢ b
differ_out a b h e = grind (arith, same_in a b e)

-- the members of what is left between two ends
left_out : (a b n : ℤ) → IsInSome (left_between a b) n → IsIn (between a b) n
left_out a b n = by (int_le a b)
  where
    by : (t : Bool) → IsInSome (if t then Some (between a b) else None) n → IsIn (between a b) n
    by true h = h
    by false h = absurd h

left_in : (a b n : ℤ) → IsIn (between a b) n → IsInSome (left_between a b) n
left_in a b n h = by (int_le a b) refl
  where
    by : (t : Bool) → int_le a b ≡ t → IsInSome (if t then Some (between a b) else None) n
    by true e = h
    by false e = absurd (omega (arith, ints, h.0, h.1))

pub stands_at : (o : Relation) (t : Span) (x y : ℤ) → IsIn t y → Stands o x y → StandsToSome o t x
stands_at o t x y p h = record { partner = y; in_other = p; stands = h }

gt_exact : (s t : Span) (x : ℤ) → IsOrdered t → IsInSome (cut_of Gt s t) x ↔ (IsIn s x × StandsToSome Gt t x)
gt_exact s t x o = (there, back)
  where
    there : IsInSome (cut_of Gt s t) x → IsIn s x × StandsToSome Gt t x
    there h =
        let k = left_out (int_max s.low (t.low +ℤ pos 1)) s.high x h in
        ((omega (arith, ints, clamps, k.0), k.1), stands_at Gt t x t.low (low_in t o) (omega (arith, ints, clamps, k.0)))

    back : IsIn s x × StandsToSome Gt t x → IsInSome (cut_of Gt s t) x
    back h = left_in (int_max s.low (t.low +ℤ pos 1)) s.high x (omega (arith, ints, clamps, h.0.0, h.1.in_other.0, h.1.stands), h.0.1)

ge_exact : (s t : Span) (x : ℤ) → IsOrdered t → IsInSome (cut_of Ge s t) x ↔ (IsIn s x × StandsToSome Ge t x)
ge_exact s t x o = (there, back)
  where
    there : IsInSome (cut_of Ge s t) x → IsIn s x × StandsToSome Ge t x
    there h =
        let k = left_out (int_max s.low t.low) s.high x h in
        ((omega (arith, ints, clamps, k.0), k.1), stands_at Ge t x t.low (low_in t o) (omega (arith, ints, clamps, k.0)))

    back : IsIn s x × StandsToSome Ge t x → IsInSome (cut_of Ge s t) x
    back h = left_in (int_max s.low t.low) s.high x (omega (arith, ints, clamps, h.0.0, h.1.in_other.0, h.1.stands), h.0.1)

eq_exact : (s t : Span) (x : ℤ) → IsInSome (cut_of Eq s t) x ↔ (IsIn s x × StandsToSome Eq t x)
eq_exact s t x = (there, back)
  where
    there : IsInSome (cut_of Eq s t) x → IsIn s x × StandsToSome Eq t x
    there h =
        let k = left_out (int_max s.low t.low) (int_min s.high t.high) x h in
        ((omega (arith, ints, clamps, k.0), omega (arith, ints, clamps, k.1)), stands_at Eq t x x (omega (arith, ints, clamps, k.0), omega (arith, ints, clamps, k.1)) refl)

    back : IsIn s x × StandsToSome Eq t x → IsInSome (cut_of Eq s t) x
    back h = left_in (int_max s.low t.low) (int_min s.high t.high) x (omega (arith, ints, clamps, h.0.0, h.1.in_other.0, h.1.stands), omega (arith, ints, clamps, h.0.1, h.1.in_other.1, h.1.stands))

le_exact : (s t : Span) (x : ℤ) → IsOrdered t → IsInSome (cut_of Le s t) x ↔ (IsIn s x × StandsToSome Le t x)
le_exact s t x o = (there, back)
  where
    there : IsInSome (cut_of Le s t) x → IsIn s x × StandsToSome Le t x
    there h =
        let k = left_out s.low (int_min s.high t.high) x h in
        ((k.0, omega (arith, ints, clamps, k.1)), stands_at Le t x t.high (high_in t o) (omega (arith, ints, clamps, k.1)))

    back : IsIn s x × StandsToSome Le t x → IsInSome (cut_of Le s t) x
    back h = left_in s.low (int_min s.high t.high) x (h.0.0, omega (arith, ints, clamps, h.0.1, h.1.in_other.1, h.1.stands))

lt_exact : (s t : Span) (x : ℤ) → IsOrdered t → IsInSome (cut_of Lt s t) x ↔ (IsIn s x × StandsToSome Lt t x)
lt_exact s t x o = (there, back)
  where
    there : IsInSome (cut_of Lt s t) x → IsIn s x × StandsToSome Lt t x
    there h =
        let k = left_out s.low (int_min s.high (t.high -ℤ pos 1)) x h in
        ((k.0, omega (arith, ints, clamps, k.1)), stands_at Lt t x t.high (high_in t o) (omega (arith, ints, clamps, k.1)))

    back : IsIn s x × StandsToSome Lt t x → IsInSome (cut_of Lt s t) x
    back h = left_in s.low (int_min s.high (t.high -ℤ pos 1)) x (h.0.0, omega (arith, ints, clamps, h.0.1, h.1.in_other.1, h.1.stands))

-- without an end n: the members of s, an end aside that is n
without_out : (s : Span) (n x : ℤ) → IsInSome (without_end s n) x → IsIn s x × (IsEnd s x → x ≢ n)
without_out s n x h = let k = left_out (low_without s n) (high_without s n) x h in by (int_same s.low n) (int_same s.high n) refl refl k
  where
    by : (t u : Bool) → int_same s.low n ≡ t → int_same s.high n ≡ u → IsIn (between (if t then s.low +ℤ pos 1 else s.low) (if u then s.high -ℤ pos 1 else s.high)) x → IsIn s x × (IsEnd s x → x ≢ n)
    by t u e f k = (in_s t u k, apart)
      where
        in_s : (t u : Bool) → IsIn (between (if t then s.low +ℤ pos 1 else s.low) (if u then s.high -ℤ pos 1 else s.high)) x → IsIn s x
        in_s true true k = (omega (arith, ints, k.0), omega (arith, ints, k.1))
        in_s true false k = (omega (arith, ints, k.0), k.1)
        in_s false true k = (k.0, omega (arith, ints, k.1))
        in_s false false k = k

        low_apart : (t : Bool) → int_same s.low n ≡ t → (if t then s.low +ℤ pos 1 else s.low) ≤ℤ x → x ≡ s.low → x ≢ n
        low_apart true e k p q = omega (arith, ints)
        low_apart false e k p q = differ_out s.low n e (omega (arith, ints))

        high_apart : (u : Bool) → int_same s.high n ≡ u → x ≤ℤ (if u then s.high -ℤ pos 1 else s.high) → x ≡ s.high → x ≢ n
        high_apart true f k p q = omega (arith, ints)
        high_apart false f k p q = differ_out s.high n f (omega (arith, ints))

        apart : IsEnd s x → x ≢ n
        apart (inl p) = low_apart t e k.0 p
        apart (inr p) = high_apart u f k.1 p

without_in : (s : Span) (n x : ℤ) → IsIn s x → (IsEnd s x → x ≢ n) → IsInSome (without_end s n) x
without_in s n x h apart = left_in (low_without s n) (high_without s n) x (low_end (int_same s.low n) refl, high_end (int_same s.high n) refl)
  where
    low_end : (t : Bool) → int_same s.low n ≡ t → (if t then s.low +ℤ pos 1 else s.low) ≤ℤ x
    low_end true e = let g = same_out s.low n e in by_lt_z s.low x (λ l. omega (arith, ints)) (λ l. let i : x ≡ s.low = omega (arith, ints, h.0) in absurd (apart (inl i) (omega (arith, ints))))
    low_end false e = h.0

    high_end : (t : Bool) → int_same s.high n ≡ t → x ≤ℤ (if t then s.high -ℤ pos 1 else s.high)
    high_end true e = let g = same_out s.high n e in by_lt_z x s.high (λ l. omega (arith, ints)) (λ l. let i : x ≡ s.high = omega (arith, ints, h.1) in absurd (apart (inr i) (omega (arith, ints))))
    high_end false e = h.1

-- a span of two or more numbers has one other than x
some_other : (t : Span) (x : ℤ) → IsOrdered t → t.low ≢ t.high → StandsToSome Ne t x
some_other t x o n = by (int_same x t.low) refl
  where
    by : (b : Bool) → int_same x t.low ≡ b → StandsToSome Ne t x
    by true e = let g = same_out x t.low e in stands_at Ne t x t.high (high_in t o) (λ q. n (omega (arith, ints)))
    by false e = stands_at Ne t x t.low (low_in t o) (differ_out x t.low e)

ne_exact : (s t : Span) (x : ℤ) → IsOrdered t → IsInSome (cut_of Ne s t) x ↔ (IsIn s x × (IsEnd s x → StandsToSome Ne t x))
ne_exact s t x o = by (int_same t.low t.high) refl
  where
    by : (b : Bool) → int_same t.low t.high ≡ b → IsInSome (if b then without_end s t.low else Some s) x ↔ (IsIn s x × (IsEnd s x → StandsToSome Ne t x))
    by false e = (λ h. (h, λ k. some_other t x o (differ_out t.low t.high e)), λ h. h.0)
    by true e = (there, back)
      where
        there : IsInSome (without_end s t.low) x → IsIn s x × (IsEnd s x → StandsToSome Ne t x)
        there h = let k = without_out s t.low x h in (k.0, λ i. stands_at Ne t x t.low (low_in t o) (k.1 i))

        back : IsIn s x × (IsEnd s x → StandsToSome Ne t x) → IsInSome (without_end s t.low) x
        back h = without_in s t.low x h.0 (λ i q. let k = h.1 i in let g = same_out t.low t.high e in k.stands (omega (arith, ints, k.in_other.0, k.in_other.1)))

pub cut_exact : (o : Relation) (s t : Span) (x : ℤ) → IsOrdered t → IsInSome (cut_of o s t) x ↔ (IsIn s x × IsLeft o s t x)
cut_exact Gt s t x p = gt_exact s t x p
cut_exact Ge s t x p = ge_exact s t x p
cut_exact Eq s t x p = eq_exact s t x
cut_exact Ne s t x p = ne_exact s t x p
cut_exact Le s t x p = le_exact s t x p
cut_exact Lt s t x p = lt_exact s t x p

pub cut_holds : (o : Relation) (s t : Span) (x : ℤ) → IsOrdered t → IsIn s x → StandsToSome o t x → IsInSome (cut_of o s t) x
cut_holds Gt s t x p h k = (cut_exact Gt s t x p).1 (h, k)
cut_holds Ge s t x p h k = (cut_exact Ge s t x p).1 (h, k)
cut_holds Eq s t x p h k = (cut_exact Eq s t x p).1 (h, k)
cut_holds Ne s t x p h k = (cut_exact Ne s t x p).1 (h, λ i. k)
cut_holds Le s t x p h k = (cut_exact Le s t x p).1 (h, k)
cut_holds Lt s t x p h k = (cut_exact Lt s t x p).1 (h, k)

-- what is left of a span of LINT is one
left_of_lint : (s : Span) (a b : ℤ) → IsOfLint s → s.low ≤ℤ a → b ≤ℤ s.high → IfSome (left_between a b) IsOfLint
left_of_lint s a b p h k = by (int_le a b) refl
  where
    in_lint : a ≤ℤ b → IsIn lint s.low → IsIn lint s.high → IsIn lint a × IsIn lint b
    in_lint o l r = ((omega (arith, ints, l.0, r.1), omega (arith, ints, l.0, r.1)), (omega (arith, ints, l.0, r.1), omega (arith, ints, l.0, r.1)))

    by : (t : Bool) → int_le a b ≡ t → IfSome (if t then Some (between a b) else None) IsOfLint
    by true e = let o = true_le a b e in record { ordered = o; in_range = in_lint o p.in_range.0 p.in_range.1 }
    by false e = tt

without_low : (s : Span) (n : ℤ) → s.low ≤ℤ low_without s n
without_low s n = by (int_same s.low n)
  where
    by : (t : Bool) → s.low ≤ℤ (if t then s.low +ℤ pos 1 else s.low)
    by true = omega (arith, ints)
    by false = omega (arith, ints)

without_high : (s : Span) (n : ℤ) → high_without s n ≤ℤ s.high
without_high s n = by (int_same s.high n)
  where
    by : (t : Bool) → (if t then s.high -ℤ pos 1 else s.high) ≤ℤ s.high
    by true = omega (arith, ints)
    by false = omega (arith, ints)

ne_of_lint : (s t : Span) → IsOfLint s → IfSome (cut_of Ne s t) IsOfLint
ne_of_lint s t p = by (int_same t.low t.high)
  where
    by : (b : Bool) → IfSome (if b then without_end s t.low else Some s) IsOfLint
    by true = left_of_lint s (low_without s t.low) (high_without s t.low) p (without_low s t.low) (without_high s t.low)
    by false = p

pub cut_of_lint : (o : Relation) (s t : Span) → IsOfLint s → IfSome (cut_of o s t) IsOfLint
cut_of_lint Gt s t p = left_of_lint s (int_max s.low (t.low +ℤ pos 1)) s.high p (omega (arith, ints, clamps)) (omega (arith, ints))
cut_of_lint Ge s t p = left_of_lint s (int_max s.low t.low) s.high p (omega (arith, ints, clamps)) (omega (arith, ints))
cut_of_lint Eq s t p = left_of_lint s (int_max s.low t.low) (int_min s.high t.high) p (omega (arith, ints, clamps)) (omega (arith, ints, clamps))
cut_of_lint Ne s t p = ne_of_lint s t p
cut_of_lint Le s t p = left_of_lint s s.low (int_min s.high t.high) p (omega (arith, ints)) (omega (arith, ints, clamps))
cut_of_lint Lt s t p = left_of_lint s s.low (int_min s.high (t.high -ℤ pos 1)) p (omega (arith, ints)) (omega (arith, ints, clamps))
