-- The letters of an escaped text.
use Rattle.std.proofs.Common.{◌≡◌, ◌≤◌, ◌<◌, ◌+◌, ◌/◌, ◌%◌, ℕ, nat_lt, Bool, true, false, List, [], ◌∷◌, ◌++◌, map, flat_map, chars, cond, if◌then◌else◌, arith, refl}
use Rattle.std.specs.Char.Escape.{escape_unicode, hex_digit_at}
use Rattle.std.proofs.lemmas.Nat.{mod_below}
use Rattle.note_text.specs.Escaping.{ArePlain, EscapedTextsArePlain, escaped_letter, is_control}

printable : (c : ℕ) → 32 ≤ c → c < 127 → is_control c ≡ false
printable c low high = grind arith

digit_is_plain : (d : ℕ) → d < 16 → (small : Bool) → is_control (cond small (48 + d) (87 + d)) ≡ false
digit_is_plain d h true = printable (48 + d) (omega arith) (omega arith)
digit_is_plain d h false = printable (87 + d) (omega arith) (omega arith)

hex_is_plain : (p c : ℕ) → is_control (hex_digit_at p c) ≡ false
hex_is_plain p c = digit_is_plain (c / p % 16) (mod_below (c / p) 16 (omega arith)) (nat_lt (c / p % 16) 10)

either : (small : Bool) (xs ys : List ℕ) → ArePlain xs → ArePlain ys → ArePlain (cond small xs ys)
either true xs ys p q = p
either false xs ys p q = q

joined : (xs ys : List ℕ) → ArePlain xs → ArePlain ys → ArePlain (xs ++ ys)
joined [] ys p q = q
joined (x ∷ xs) ys p q = (p.0, joined xs ys p.1 q)

digits_are_plain : (c : ℕ) (places : List ℕ) → ArePlain (map (λ p. hex_digit_at p c) places)
digits_are_plain c [] = tt
digits_are_plain c (p ∷ ps) = (hex_is_plain p c, digits_are_plain c ps)

framed : (digits : List ℕ) → ArePlain digits → ArePlain (92 ∷ 117 ∷ 123 ∷ digits ++ 125 ∷ [])
framed digits plain = (refl, (refl, (refl, joined digits (125 ∷ []) plain (refl, tt))))

record Shown : Type 0 where
  letters : List ℕ
  plain : ArePlain letters

one_of : Bool → Shown → Shown → Shown
one_of small x y = record { letters = cond small x.letters y.letters; plain = either small x.letters y.letters x.plain y.plain }

-- an escape with digits at these places
by_places : ℕ → List ℕ → Shown
by_places c places = record { letters = 92 ∷ 117 ∷ 123 ∷ map (λ p. hex_digit_at p c) places ++ 125 ∷ []; plain = framed (map (λ p. hex_digit_at p c) places) (digits_are_plain c places) }

escaping : ℕ → Shown
escaping c =
    one_of (nat_lt c 0x10) (by_places c (1 ∷ []))
    (one_of (nat_lt c 0x100) (by_places c (0x10 ∷ 1 ∷ []))
    (one_of (nat_lt c 0x1000) (by_places c (0x100 ∷ 0x10 ∷ 1 ∷ []))
    (one_of (nat_lt c 0x1_0000) (by_places c (0x1000 ∷ 0x100 ∷ 0x10 ∷ 1 ∷ []))
    (one_of (nat_lt c 0x10_0000) (by_places c (0x1_0000 ∷ 0x1000 ∷ 0x100 ∷ 0x10 ∷ 1 ∷ []))
    (by_places c (0x10_0000 ∷ 0x1_0000 ∷ 0x1000 ∷ 0x100 ∷ 0x10 ∷ 1 ∷ []))))))

escape_is_plain : (c : ℕ) → ArePlain (escape_unicode c)
unfolding escaping one_of by_places
escape_is_plain c = (escaping c).plain

letter_is_plain : (control : Bool) (c : ℕ) → is_control c ≡ control → ArePlain (if control then escape_unicode c else c ∷ [])
letter_is_plain true c is = escape_is_plain c
letter_is_plain false c is = (is, tt)

letters_are_plain : (letters : List ℕ) → ArePlain (flat_map escaped_letter letters)
letters_are_plain [] = tt
letters_are_plain (c ∷ cs) = joined (escaped_letter c) (flat_map escaped_letter cs) (letter_is_plain (is_control c) c refl) (letters_are_plain cs)

pub escaped_texts_are_plain : EscapedTextsArePlain
escaped_texts_are_plain text = letters_are_plain (chars text)
