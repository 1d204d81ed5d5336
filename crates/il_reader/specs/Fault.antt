-- The words by which refusals of a text are named.
-- IEC 61131-3 edition 2, 3.2 leaves diagnostics open; these words are this project's.
use Rattle.std.specs.Prelude.{ℕ, List, codes}
use Rattle.il_reader.specs.declared.fault.ReadFaultKind.{ReadFaultKind}
use Rattle.il_reader.specs.declared.fault.ReadFaultKind.TheVariants as fault

abbrev pub word_of : ReadFaultKind → List ℕ
word_of fault.Word = codes "Word"
word_of fault.Header = codes "Header"
word_of fault.Declaration = codes "Declaration"
word_of fault.Operator = codes "Operator"
word_of fault.Operand = codes "Operand"
word_of fault.Label = codes "Label"
word_of fault.Parenthesis = codes "Parenthesis"
word_of fault.Literal = codes "Literal"
word_of fault.Duplicate = codes "Duplicate"
word_of fault.TooLong = codes "TooLong"
word_of fault.OutOfMemory = codes "OutOfMemory"
