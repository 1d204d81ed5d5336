-- Counters that are numbered in order find their limits.
use Rattle.std.proofs.Common.{◌≡◌, ℕ, zero, suc, List, [], ◌∷◌, ◌++◌, length, Some, None, slice_get, refl, sym, ap, ◌∙◌, subst, append_assoc, length-append}
use Rattle.point_types.specs.declared.operator.Condition.{Condition}
use Rattle.il_assemble.specs.Meaning.{Line, Repeat}
use Rattle.il_assemble.specs.Correct.{limit_of, limits_of, HasNumber, AreNumbered, SizesDependOnTheFormAlone, NumberedCountersFindTheirLimits}
use Rattle.il_assemble.proofs.Lines.{same_size}

seam : (before : List ℕ) (n : ℕ) (rest : List ℕ) → slice_get (before ++ n ∷ rest) (length before) ≡ Some n
seam [] n rest = refl
seam (b ∷ before) n rest = seam before n rest

finds : (lines : List Line) (before : List ℕ) → AreNumbered (length before) lines → (i : ℕ) (line : Line) (c : Condition) (label k n : ℕ) → slice_get lines i ≡ Some line → line.action ≡ Some (Repeat c label k n) → slice_get (before ++ limits_of lines) k ≡ Some n
finds [] before h i line c label k n e f = absurd (differ e)
  where
    differ : None ≡ Some line → ⊥
    differ x = cc
finds (first ∷ lines) before h zero line c label k n e f =
    let g : first ≡ line = cc in
    let a : first.action ≡ Some (Repeat c label k n) = ap (λ (l : Line). l.action) g ∙ f in
    let number : HasNumber (length before) (Some (Repeat c label k n)) = subst (HasNumber (length before)) a h.0 in
    subst (λ m. slice_get (before ++ (limit_of m ++ limits_of lines)) k ≡ Some n) (sym a) (subst (λ j. slice_get (before ++ n ∷ limits_of lines) j ≡ Some n) (sym number) (seam before n (limits_of lines)))
finds (first ∷ lines) before h (suc i) line c label k n e f =
    let more = before ++ limit_of first.action in
    let numbers : AreNumbered (length more) lines = subst (λ m. AreNumbered m lines) (sym (length-append before (limit_of first.action))) h.1 in
    subst (λ l. slice_get l k ≡ Some n) (append_assoc before (limit_of first.action) (limits_of lines)) (finds lines more numbers i line c label k n e f)

pub numbered_counters_find_their_limits : NumberedCountersFindTheirLimits
numbered_counters_find_their_limits p e h i line c label k n at is = subst (λ l. slice_get l k ≡ Some n) (sym e) (finds p.body [] h i line c label k n at is)

pub sizes_depend_on_the_form_alone : SizesDependOnTheFormAlone
sizes_depend_on_the_form_alone = same_size
