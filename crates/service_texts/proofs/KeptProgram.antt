-- A kept program's first line ends where it ends.
use Rattle.std.proofs.Common.{◌≡◌, ◌≢◌, ◌∙◌, ◌/◌, ◌%◌, ℕ, zero, suc, Bool, true, not, eqb, List, [], ◌∷◌, ◌++◌, get_or, take, slice_index, refl, sym, ap, append_assoc, arith, Option, None, Some, MatchOption, Bor, tests}
use Rattle.std.specs.Prelude.{codes}
use Rattle.std.specs.List.{list_all}
use Rattle.std.proofs.lemmas.Bool.{and_parts}
use Rattle.std.proofs.lemmas.Str.Pattern.{IsSplitOnceResult, split_after, split_parts}
use Rattle.hex.specs.Hex.{encode_with, lower_digits}
use Rattle.sha2.specs.Sha256.{sha256}
use Rattle.service_texts.specs.Starting.{digits}
use Rattle.service_texts.specs.Keeping.{KeepsAlone, KeepsNone, first_line, kept_program}

-- no byte of these ends a line
abbrev IsOneLine : List ℕ → Type 0
IsOneLine bytes = (i : ℕ) → get_or bytes i 0 ≢ 10

none_ends : IsOneLine []
none_ends i e = absurd (omega arith)

one_more : (b : ℕ) (bs : List ℕ) → b ≢ 10 → IsOneLine bs → IsOneLine (b ∷ bs)
one_more b bs h k zero = h
one_more b bs h k (suc i) = k i

both : (xs ys : List ℕ) → IsOneLine xs → IsOneLine ys → IsOneLine (xs ++ ys)
both [] ys h k = k
both (x ∷ xs) ys h k = one_more x (xs ++ ys) (h zero) (both xs ys (λ i. h (suc i)) k)

front : (n : ℕ) (xs : List ℕ) → IsOneLine xs → IsOneLine (take n xs)
front zero xs h = none_ends
front (suc n) [] h = none_ends
front (suc n) (x ∷ xs) h = one_more x (take n xs) (h zero) (front n xs (λ i. h (suc i)))

spelled : (table xs : List ℕ) → IsOneLine table → IsOneLine (encode_with table xs)
unfolding encode_with
spelled table [] h = none_ends
spelled table (x ∷ xs) h =
    one_more (slice_index table (x / 16)) (slice_index table (x % 16) ∷ encode_with table xs) (h (x / 16))
    (one_more (slice_index table (x % 16)) (encode_with table xs) (h (x % 16)) (spelled table xs h))

-- a test of each byte, which computes
abbrev is_inner : ℕ → Bool
is_inner b = not (eqb b 10)

inner : (b : ℕ) → is_inner b ≡ true → b ≢ 10
inner b h e = grind (arith, tests)

tested : (xs : List ℕ) → list_all is_inner xs ≡ true → IsOneLine xs
tested [] h = none_ends
tested (x ∷ xs) h =
    let parts = and_parts (is_inner x) (list_all is_inner xs) h in
    one_more x xs (inner x parts.0) (tested xs parts.1)

head_line : (program : List ℕ) → IsOneLine (first_line program)
head_line program =
    both (codes "sunsite program 1 ") (digits program) (tested (codes "sunsite program 1 ") refl)
    (front 12 (encode_with lower_digits (sha256 program)) (spelled lower_digits (sha256 program) (tested lower_digits refl)))

-- where a text that keeps a program is split at its first line's end, there are that line and the program
pub kept_parts : (text program : List ℕ) (r : Option (Bor (List ℕ) × Bor (List ℕ))) → IsSplitOnceResult 10 text r → text ≡ kept_program program
    → MatchOption r ⊥ (λ x. (x.0.now ≡ first_line program) × (x.1.now ≡ program))
kept_parts text program r split e = split_after 10 text (first_line program) program r split (omega arith) (e ∙ append_assoc (first_line program) (10 ∷ []) program) (λ i inside. head_line program i)

pub keeps_alone : (text : List ℕ) (x : Bor (List ℕ) × Bor (List ℕ)) → IsSplitOnceResult 10 text (Some x) → x.0.now ≡ first_line x.1.now → KeepsAlone text x.1.now
keeps_alone text x split e = record {
  kept = (split_parts 10 text (Some x) split (omega arith)).0 ∙ ap (λ line. line ++ 10 ∷ x.1.now) e ∙ sym (append_assoc (first_line x.1.now) (10 ∷ []) x.1.now);
  alone = λ other is. sym (kept_parts text other (Some x) split is).1;
}

pub keeps_none : (text : List ℕ) (x : Bor (List ℕ) × Bor (List ℕ)) → IsSplitOnceResult 10 text (Some x) → x.0.now ≢ first_line x.1.now → KeepsNone text
keeps_none text x split other program is =
    let parts = kept_parts text program (Some x) split is in
    other (parts.0 ∙ ap first_line (sym parts.1))

pub keeps_nothing : (text : List ℕ) → IsSplitOnceResult 10 text None → KeepsNone text
keeps_nothing text split program is = kept_parts text program None split is
