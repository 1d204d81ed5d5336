-- Texts in HTML (WHATWG, HTML, 13.1.4 and 13.1.2.3): in what stands for a text no letter begins a tag or ends a value in quotes.
use Rattle.std.specs.Prelude.{◌≡◌, false, ℕ, nat_le, Bool, ◌&&◌, ◌||◌, ◌==◌, List, [], ◌∷◌, flat_map, if◌then◌else◌, chars, codes, encode_utf8_all}
use Rattle.std.specs.List.{AllByRecursion}

abbrev pub is_control : ℕ → Bool
is_control code = nat_le code 0x1f || nat_le 0x7f code && nat_le code 0x9f

-- what stands for a letter: its name, where it would be read as more than a letter, and `?` for a control character
abbrev pub html_letter : ℕ → List ℕ
html_letter code =
    if code == 0x3c then codes "&lt;"
    else if code == 0x3e then codes "&gt;"
    else if code == 0x26 then codes "&amp;"
    else if code == 0x22 then codes "&quot;"
    else if code == 0x27 then codes "&#39;"
    else if is_control code then codes "?"
    else code ∷ []

-- what stands for a text
unfoldable pub html : List ℕ → List ℕ
html text = encode_utf8_all (flat_map html_letter (chars text))

-- a letter by which a tag begins or ends, or a value in quotes ends
abbrev pub is_mark : ℕ → Bool
is_mark code = code == 0x3c || code == 0x3e || code == 0x22 || code == 0x27

-- letters of which none is such a letter
abbrev pub HaveNoMarks : List ℕ → Type 0
HaveNoMarks letters = AllByRecursion (λ code. is_mark code ≡ false) letters

-- Among the letters that stand for those of a text there is no such letter, whatever the text.
abbrev pub TextsHaveNoMarks : Type 0
TextsHaveNoMarks = (text : List ℕ) → HaveNoMarks (flat_map html_letter (chars text))
