-- Values of labels in Prometheus' text format (version 0.0.4): within its quotes no letter ends one.
use Rattle.std.specs.Prelude.{◌≡◌, false, ℕ, nat_le, Bool, ◌&&◌, ◌||◌, ◌==◌, List, ◌∷◌, flat_map, if◌then◌else◌, chars, codes, encode_utf8_all, []}

abbrev pub is_control : ℕ → Bool
is_control code = nat_le code 0x1f || nat_le 0x7f code && nat_le code 0x9f

-- what stands for a letter: after a backslash where it would end the value or begin such a pair, and `?` for a control character
abbrev pub label_letter : ℕ → List ℕ
label_letter code =
    if code == 0x22 then codes "\\\""
    else if code == 0x5c then codes "\\\\"
    else if is_control code then codes "?"
    else code ∷ []

-- what stands for a text
unfoldable pub label : List ℕ → List ℕ
label text = encode_utf8_all (flat_map label_letter (chars text))
