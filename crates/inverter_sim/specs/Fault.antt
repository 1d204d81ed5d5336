-- The words by which the faults of a plant file are printed.
-- No standard says what a plant file is; these words are this project's.
use Rattle.std.specs.Prelude.{ℕ, List, codes}
use Rattle.inverter_sim.specs.declared.fault.PlantFault.{PlantFault}
use Rattle.inverter_sim.specs.declared.fault.PlantFault.TheVariants as fault

abbrev pub fault_word : PlantFault → List ℕ
fault_word fault.NotToml = codes "NotToml"
fault_word fault.MissingKey = codes "MissingKey"
fault_word fault.UnknownModel = codes "UnknownModel"
fault_word fault.UnknownPoint = codes "UnknownPoint"
fault_word fault.BadRange = codes "BadRange"
fault_word fault.Duplicate = codes "Duplicate"
fault_word fault.TooMany = codes "TooMany"
fault_word fault.OutOfMemory = codes "OutOfMemory"
