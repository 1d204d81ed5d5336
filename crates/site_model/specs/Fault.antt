-- The words by which the faults of a site file are printed.
-- No standard says what is printed; these words are this project's.
use Rattle.std.specs.Prelude.{ℕ, List, codes}
use Rattle.site_model.specs.declared.fault.SiteFault.{SiteFault}
use Rattle.site_model.specs.declared.fault.SiteFault.TheVariants as fault

abbrev pub fault_word : SiteFault → List ℕ
fault_word fault.NotToml = codes "NotToml"
fault_word fault.MissingKey = codes "MissingKey"
fault_word fault.UnknownDevice = codes "UnknownDevice"
fault_word fault.UnknownModel = codes "UnknownModel"
fault_word fault.UnknownPoint = codes "UnknownPoint"
fault_word fault.NotWritable = codes "NotWritable"
fault_word fault.BadRange = codes "BadRange"
fault_word fault.BadType = codes "BadType"
fault_word fault.Duplicate = codes "Duplicate"
fault_word fault.TooMany = codes "TooMany"
fault_word fault.OutOfMemory = codes "OutOfMemory"
