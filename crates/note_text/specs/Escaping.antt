-- Texts in which no letter can pass for another line.
-- The Unicode Standard: the control characters, the separators of lines and paragraphs, and Bidi_Control.
use Rattle.std.specs.Prelude.{◌≡◌, false, ℕ, nat_lt, nat_le, Bool, ◌&&◌, ◌||◌, ◌==◌, List, [], ◌∷◌, flat_map, if◌then◌else◌, chars, encode_utf8_all}
use Rattle.std.specs.Char.Escape.{escape_unicode}
use Rattle.std.specs.List.{AllByRecursion}

abbrev pub is_within : ℕ → ℕ → ℕ → Bool
is_within code low high = nat_le low code && nat_le code high

-- A letter without a shape of its own, which may move or turn what stands beside it: the control characters, the separators
-- of lines and paragraphs, and those that turn the direction of writing or have no width.
abbrev pub is_control : ℕ → Bool
is_control code = nat_lt code 0x20 || is_within code 0x7f 0x9f || code == 0x61c || is_within code 0x200b 0x200f || is_within code 0x2028 0x202e || is_within code 0x2060 0x206f

-- a letter of an escaped text: a control character by its number, as `\u{a}`
abbrev pub escaped_letter : ℕ → List ℕ
escaped_letter code = if is_control code then escape_unicode code else code ∷ []

-- a letter of a line that moves nothing after it: a blank for a tab, and `?` for another control character
abbrev pub plain_letter : ℕ → ℕ
plain_letter code = if code == 9 then 32 else if is_control code then 63 else code

-- a text with its control characters escaped
unfoldable pub escaped : List ℕ → List ℕ
escaped text = encode_utf8_all (flat_map escaped_letter (chars text))

-- letters of which none is a control character
abbrev pub ArePlain : List ℕ → Type 0
ArePlain letters = AllByRecursion (λ code. is_control code ≡ false) letters

-- The letters that stand for those of a text are plain, whatever the text.
abbrev pub EscapedTextsArePlain : Type 0
EscapedTextsArePlain = (text : List ℕ) → ArePlain (flat_map escaped_letter (chars text))
