-- The words by which it is printed why there is no core.
-- No standard says what is printed; these words are this project's.
use Rattle.std.specs.Prelude.{ℕ, List, codes}
use Rattle.gateway.specs.declared.event_core.fault.CoreFault.{CoreFault}
use Rattle.gateway.specs.declared.event_core.fault.CoreFault.TheVariants as fault

abbrev pub core_fault_word : CoreFault → List ℕ
core_fault_word fault.Foreign = codes "Foreign"
core_fault_word fault.OutOfMemory = codes "OutOfMemory"
