-- The words by which the faults of reads and of maps are named.
-- No standard says what is printed; these words are this project's.
use Rattle.std.specs.Prelude.{ℕ, List, codes}
use Rattle.register_map.specs.declared.access.ReadFault.{ReadFault}
use Rattle.register_map.specs.declared.access.ReadFault.TheVariants.{Refused, Failed}
use Rattle.register_map.specs.declared.layout.MapFault.{MapFault}
use Rattle.register_map.specs.declared.layout.MapFault.TheVariants.{NoMark, NotCommon, PastEnd, TooMany, Read}

abbrev pub read_fault_word : ReadFault → List ℕ
read_fault_word Refused = codes "Refused"
read_fault_word Failed = codes "Failed"

abbrev pub map_fault_word : MapFault → List ℕ
map_fault_word NoMark = codes "NoMark"
map_fault_word NotCommon = codes "NotCommon"
map_fault_word PastEnd = codes "PastEnd"
map_fault_word TooMany = codes "TooMany"
map_fault_word Read = codes "Read"
