-- The letters that stand for those of a text.
use Rattle.std.proofs.Common.{◌≡◌, ℕ, Bool, true, false, List, [], ◌∷◌, ◌++◌, ◌==◌, flat_map, chars, codes, if◌then◌else◌, refl}
use Rattle.run_report.specs.Shown.{HaveNoMarks, TextsHaveNoMarks, html_letter, is_control, is_mark}

joined : (xs ys : List ℕ) → HaveNoMarks xs → HaveNoMarks ys → HaveNoMarks (xs ++ ys)
joined [] ys p q = q
joined (x ∷ xs) ys p q = (p.0, joined xs ys p.1 q)

alone : (c : ℕ) → (c == 0x3c) ≡ false → (c == 0x3e) ≡ false → (c == 0x22) ≡ false → (c == 0x27) ≡ false → is_mark c ≡ false
alone c less greater quote apostrophe = rw (less, greater, quote, apostrophe)

by_cases : (less greater and quote apostrophe control : Bool) (c : ℕ) → (c == 0x3c) ≡ less → (c == 0x3e) ≡ greater → (c == 0x22) ≡ quote → (c == 0x27) ≡ apostrophe
    → HaveNoMarks (if less then codes "&lt;" else if greater then codes "&gt;" else if and then codes "&amp;" else if quote then codes "&quot;" else if apostrophe then codes "&#39;" else if control then codes "?" else c ∷ [])
by_cases true greater and quote apostrophe control c l g q a = (refl, (refl, (refl, (refl, tt))))
by_cases false true and quote apostrophe control c l g q a = (refl, (refl, (refl, (refl, tt))))
by_cases false false true quote apostrophe control c l g q a = (refl, (refl, (refl, (refl, (refl, tt)))))
by_cases false false false true apostrophe control c l g q a = (refl, (refl, (refl, (refl, (refl, (refl, tt))))))
by_cases false false false false true control c l g q a = (refl, (refl, (refl, (refl, (refl, tt)))))
by_cases false false false false false true c l g q a = (refl, tt)
by_cases false false false false false false c l g q a = (alone c l g q a, tt)

letter_has_none : (c : ℕ) → HaveNoMarks (html_letter c)
letter_has_none c = by_cases (c == 0x3c) (c == 0x3e) (c == 0x26) (c == 0x22) (c == 0x27) (is_control c) c refl refl refl refl

letters_have_none : (letters : List ℕ) → HaveNoMarks (flat_map html_letter letters)
letters_have_none [] = tt
letters_have_none (c ∷ cs) = joined (html_letter c) (flat_map html_letter cs) (letter_has_none c) (letters_have_none cs)

pub texts_have_no_marks : TextsHaveNoMarks
texts_have_no_marks text = letters_have_none (chars text)
