use Rattle.std.proofs.Common.{◌≡◌, ◌++◌, IsUtf8, string_bytes}
use Rattle.std.specs.Str.Iter.{chars_rest}
use Rattle.note_text.specs.Escaping.{escaped}
use Rattle.note_text.proofs.escaping.push_escaped.Given as goal

abbrev pub invariant-loop-letter : goal.invariant-loop-letter
invariant-loop-letter l = IsUtf8 (chars_rest l.letter-iterator) × (string_bytes l.lines ++ escaped (chars_rest l.letter-iterator) ≡ string_bytes l.initial.lines ++ escaped l.fn.text)
