-- A text in HTML, letter by letter.
use Rattle.std.proofs.Common.{◌≡◌, ℕ, List, [], ◌++◌, length, chars, encode_utf8, encode_utf8_all, IsUtf8, ap, ◌∙◌}
use Rattle.std.proofs.lemmas.Str.{chars_past_char, chars-nil, encodes-append}
use Rattle.std.proofs.lemmas.List.{nil_from_length}
use Rattle.run_report.specs.Shown.{html, html_letter}

pub html_empty : (text : List ℕ) → length text ≡ 0 → html text ≡ []
unfolding html
html_empty text none = rw (ap chars (nil_from_length text none) ∙ chars-nil)

pub html_step : (text rest : List ℕ) (c : ℕ) → IsUtf8 text → text ≡ encode_utf8 c ++ rest
    → html text ≡ encode_utf8_all (html_letter c) ++ html rest
unfolding html
html_step text rest c utf8 parts = rw (chars_past_char text rest c utf8 parts, encodes-append)
