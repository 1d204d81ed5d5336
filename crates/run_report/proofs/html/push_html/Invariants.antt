use Rattle.std.proofs.Common.{◌≡◌, ◌++◌, IsUtf8, string_bytes}
use Rattle.std.specs.Str.Iter.{chars_rest}
use Rattle.run_report.specs.Shown.{html}
use Rattle.run_report.proofs.html.push_html.Given as goal

abbrev pub invariant-loop-letter : goal.invariant-loop-letter
invariant-loop-letter l = IsUtf8 (chars_rest l.letter-iterator) × (string_bytes l.page ++ html (chars_rest l.letter-iterator) ≡ string_bytes l.initial.page ++ html l.fn.text)
