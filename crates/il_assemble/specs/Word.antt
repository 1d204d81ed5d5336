-- The words of the assembler's faults, as they are printed.
-- IEC 61131-3 edition 2, 3.2 leaves diagnostics open; these words are this project's.
use Rattle.std.specs.Prelude.{ℕ, List, codes}
use Rattle.il_assemble.specs.declared.fault.AsmFault.{AsmFault}
use Rattle.il_assemble.specs.declared.fault.AsmFaultKind.{AsmFaultKind}
use Rattle.il_assemble.specs.declared.fault.AsmFaultKind.TheVariants as kind

abbrev pub word_of : AsmFaultKind → List ℕ
word_of kind.UnknownName = codes "UnknownName"
word_of kind.UnknownLabel = codes "UnknownLabel"
word_of kind.BackwardJump = codes "BackwardJump"
word_of kind.LoadAndStore = codes "LoadAndStore"
word_of kind.LiteralType = codes "LiteralType"
word_of kind.TooLong = codes "TooLong"
word_of kind.OutOfMemory = codes "OutOfMemory"
word_of kind.ForwardLoop = codes "ForwardLoop"

abbrev pub out_of_memory : AsmFault
out_of_memory = record { line = 0; kind = kind.OutOfMemory }
