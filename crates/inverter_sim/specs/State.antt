-- The state of a simulated plant: its devices with their registers, and what it does wrong at which frame.
-- SunSpec Device Information Model Specification, device modbus maps.
use Rattle.std.specs.Prelude.{ℕ, List, Option}
use Rattle.inverter_sim.specs.declared.misbehaviour.Fault.{Fault}
use Rattle.inverter_sim.specs.declared.place.RegisterPlace.{RegisterPlace}
use Rattle.inverter_sim.specs.declared.works.Works.{Works}

-- a device: its registers from the base on with the place of each, and what it works as: an inverter with the watts that
-- are available at the ticks to come, or a meter with the load at the ticks to come; the last of these watts stay; and how
-- many milliseconds late it answers where time goes by
pub record DeviceState : Type 0 where
  pub unit : ℕ
  pub base : ℕ
  pub works : Works
  pub registers : List ℕ
  pub places : List RegisterPlace
  pub slow : ℕ

-- a plant: its devices, its faults, how many frames it was sent, and the unit whose requests tick it; none where that is
-- still open
pub record PlantState : Type 0 where
  pub devices : List DeviceState
  pub faults : List Fault
  pub frames : ℕ
  pub pace : Option ℕ
