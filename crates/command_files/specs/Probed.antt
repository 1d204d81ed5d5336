-- What `probe` prints of a device to which it connects.
-- SunSpec Device Information Model Specification, models in Modbus registers.
use Rattle.std.specs.Prelude.{◌≡◌, ◌⊎◌, ℕ, List, Option}
use Rattle.modbus_frame.specs.Link.{LinkState}
use Rattle.modbus_frame.specs.declared.link.LinkFault.TheVariants.{Read}
use Rattle.model_defs.specs.declared.model.ModelDef.{ModelDef}
use Rattle.gateway.specs.poller.Polling.{Polling}
use Rattle.commands.specs.Defined.{AreDefined}
use Rattle.commands.specs.Obeyed.{TellsNoModels}
use Rattle.commands.specs.Printed.{IsUnlinked}
use Rattle.commands.specs.Probe.{IsProbe}
use Rattle.command_files.specs.Opened.{left_of, opened}

-- a unit is probed over a link, from its first state to its last, and nothing else goes over it
pub record ProbesLink (unit : ℕ) (models : List ModelDef) (a b : LinkState) (old new : Option (List ℕ)) (status : ℕ) : Type 0 where
  pub behind : Polling
  pub probes : IsProbe unit models (opened a) old behind new status
  pub left : b ≡ left_of behind

-- over a link that was opened for it, or it is told that there is none
abbrev pub ProbesLinked : ℕ → List ModelDef → Option (List ℕ) → Option (List ℕ) → ℕ → Type 0
ProbesLinked unit models old new status =
    ((a b : LinkState) × ProbesLink unit models a b old new status) ⊎ IsUnlinked Read old new status

-- by the shipped definitions and those of the texts; where these are none, that is told
abbrev pub ProbesOnce : ℕ → List (List ℕ) → Option (List ℕ) → Option (List ℕ) → ℕ → Type 0
ProbesOnce unit texts old new status =
    ((models : List ModelDef) × AreDefined texts models × ProbesLinked unit models old new status)
    ⊎ TellsNoModels texts old new status
