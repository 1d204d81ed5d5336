use Rattle.std.proofs.Common.{◌≡◌, ◌++◌, IsUtf8, string_bytes}
use Rattle.std.specs.Str.Iter.{chars_rest}
use Rattle.metrics.specs.Labels.{label}
use Rattle.metrics.proofs.labels.push_label.Given as goal

abbrev pub invariant-loop-letter : goal.invariant-loop-letter
invariant-loop-letter l = IsUtf8 (chars_rest l.letter-iterator) × (string_bytes l.text ++ label (chars_rest l.letter-iterator) ≡ string_bytes l.initial.text ++ label l.fn.value)
