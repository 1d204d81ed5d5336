-- What the simulator serves, or what is told of a plant file that is refused.
-- SunSpec Device Information Model Specification, device modbus maps.
use Rattle.std.specs.Prelude.{◌≡◌, ◌⊎◌, ℕ, List, Option, Result, Ok, Err}
use Rattle.inverter_sim.specs.File.{Breaks, StandsFor}
use Rattle.inverter_sim.specs.Fault.{fault_word}
use Rattle.inverter_sim.specs.State.{PlantState}
use Rattle.inverter_sim.specs.declared.fault.PlantFault.{PlantFault}
use Rattle.model_defs.specs.declared.model.ModelDef.{ModelDef}
use Rattle.commands.specs.Accepted.{TellsUndefined}
use Rattle.commands.specs.Defined.{AreDefined}
use Rattle.commands.specs.Report.{bad_plant_line, no_memory_line}
use Rattle.commands.specs.Told.{IsTold, Told, refused_with}

-- the plant that a file stands for, or the line of the first rule that it breaks
abbrev pub GivesPlant : List ModelDef → List ℕ → Result PlantState Told → Type 0
GivesPlant models plant (Ok p) = StandsFor models plant p
GivesPlant models plant (Err told) = (fault : PlantFault) × Breaks models plant fault × (told ≡ refused_with (bad_plant_line (fault_word fault)))

-- by the definitions that are shipped, and after them those of the texts
abbrev pub GivesDefined : List ℕ → List (List ℕ) → Result PlantState Told → Type 0
GivesDefined plant texts given = (models : List ModelDef) × AreDefined texts models × GivesPlant models plant given

-- the line of the first text that is no definition
abbrev pub GivesUndefined : List (List ℕ) → Result PlantState Told → Type 0
GivesUndefined texts (Ok p) = ⊥
GivesUndefined texts (Err told) = TellsUndefined texts told

-- first the definitions are looked at, then the plant file
abbrev pub TellsPlant : List ℕ → List (List ℕ) → Result PlantState Told → Type 0
TellsPlant plant texts given = GivesDefined plant texts given ⊎ GivesUndefined texts given

-- what is printed where there is no plant, or no memory for one
abbrev pub TellsNoPlant : List ℕ → List (List ℕ) → Option (List ℕ) → Option (List ℕ) → ℕ → Type 0
TellsNoPlant plant texts old new status = (told : Told) × (TellsPlant plant texts (Err told) ⊎ (told ≡ refused_with no_memory_line)) × IsTold old new told status
