-- The words by which the faults of a model definition are printed.
-- No standard says what is printed; these words are this project's.
use Rattle.std.specs.Prelude.{ℕ, List, codes}
use Rattle.model_defs.specs.declared.fault.DefFault.{DefFault}
use Rattle.model_defs.specs.declared.fault.DefFault.TheVariants as fault

abbrev pub fault_word : DefFault → List ℕ
fault_word fault.NotJson = codes "NotJson"
fault_word fault.MissingKey = codes "MissingKey"
fault_word fault.BadType = codes "BadType"
fault_word fault.BadSize = codes "BadSize"
fault_word fault.DuplicateName = codes "DuplicateName"
fault_word fault.BadScalePoint = codes "BadScalePoint"
fault_word fault.Repeating = codes "Repeating"
fault_word fault.TooLong = codes "TooLong"
fault_word fault.BadHeader = codes "BadHeader"
fault_word fault.OutOfMemory = codes "OutOfMemory"
