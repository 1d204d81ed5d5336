-- An instruction as it is written, in a form to recurse over, as the reader has it.
-- IEC 61131-3 (edition 2), 3.2.2 operators, modifiers and operands.
pub use Rattle.il_reader.specs.Written.{Written, Load, Apply, Defer, Limit, Select, Invert, Absolute, Convert, Inner, Close, Then}
pub use Rattle.il_reader.specs.Writing.{written, written_inner}
