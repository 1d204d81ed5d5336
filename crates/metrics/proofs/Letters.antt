-- The value of a label, letter by letter.
use Rattle.std.proofs.Common.{◌≡◌, ℕ, List, [], ◌++◌, length, chars, encode_utf8, encode_utf8_all, IsUtf8, ap, ◌∙◌}
use Rattle.std.proofs.lemmas.Str.{chars_past_char, chars-nil, encodes-append}
use Rattle.std.proofs.lemmas.List.{nil_from_length}
use Rattle.metrics.specs.Labels.{label, label_letter}

pub label_empty : (text : List ℕ) → length text ≡ 0 → label text ≡ []
unfolding label
label_empty text none = rw (ap chars (nil_from_length text none) ∙ chars-nil)

pub label_step : (text rest : List ℕ) (c : ℕ) → IsUtf8 text → text ≡ encode_utf8 c ++ rest
    → label text ≡ encode_utf8_all (label_letter c) ++ label rest
unfolding label
label_step text rest c utf8 parts = rw (chars_past_char text rest c utf8 parts, encodes-append)
