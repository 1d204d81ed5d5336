use Rattle.std.proofs.Common.{◌≡◌, ◌++◌, string_bytes, encode_utf8_all}
use Rattle.std.specs.Char.Escape.{escape_unicode}
use Rattle.std.specs.Char.Iter.{escape_rest}
use Rattle.note_text.proofs.escaping.push_code.Given as goal

abbrev pub invariant-loop-part : goal.invariant-loop-part
invariant-loop-part l = string_bytes l.lines ++ encode_utf8_all (escape_rest l.part-iterator) ≡ string_bytes l.initial.lines ++ encode_utf8_all (escape_unicode l.fn.letter)
