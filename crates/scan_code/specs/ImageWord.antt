-- The words of the faults of an image, as they are printed.
-- IEC 61131-3 edition 2, 3.2 leaves diagnostics open; these words are this project's.
use Rattle.std.specs.Prelude.{ℕ, List, codes}
use Rattle.scan_code.specs.declared.image_fault.ImageFault.{ImageFault}
use Rattle.scan_code.specs.declared.image_fault.ImageFault.TheVariants as fault

abbrev pub word_of : ImageFault → List ℕ
word_of fault.Mark = codes "Mark"
word_of fault.Version = codes "Version"
word_of fault.Cut = codes "Cut"
word_of fault.Rest = codes "Rest"
word_of fault.Field = codes "Field"
word_of fault.OutOfMemory = codes "OutOfMemory"

abbrev pub out_of_memory : ImageFault
out_of_memory = fault.OutOfMemory
