-- inner: what the reader's own values stand for.
-- No standard says what a plant file is; it is this project's, written in TOML 1.0.
use Rattle.std.specs.Prelude.{List, map}
use denote.Ref.{Bor}
use Rattle.model_defs.specs.declared.model.ModelDef.{ModelDef}
use Rattle.inverter_sim.specs.File as told
use Rattle.inverter_sim.specs.Image as lies
use Rattle.inverter_sim.specs.declared.reader.faults.FaultKeys.{FaultKeys}
use Rattle.inverter_sim.specs.declared.reader.values.ValueKeys.{ValueKeys}
use Rattle.inverter_sim.specs.declared.reader.device_entry.PlantDeviceKeys.{PlantDeviceKeys}
use Rattle.inverter_sim.specs.declared.reader.device_entry.WorksKeys.{WorksKeys}
use Rattle.inverter_sim.specs.declared.reader.device_entry.WorksKeys.TheVariants as keys
use Rattle.inverter_sim.specs.declared.reader.layout.PlacedModel.{PlacedModel}

abbrev pub fault_keys_view : FaultKeys → told.FaultKeys
fault_keys_view k = record { request = k.request; kind = k.kind.now; number = k.number }

abbrev pub value_keys_view : ValueKeys → told.ValueKeys
value_keys_view k = record { model = k.model; point = k.point.now; raw = k.raw }

abbrev pub works_keys_view : WorksKeys → told.WorksKeys
works_keys_view (keys.Inverter k) = told.inverter k.wmax k.available.items k.ramp
works_keys_view (keys.Meter k) = told.meter k.load.items k.behind.items

abbrev pub device_keys_view : PlantDeviceKeys → told.PlantDeviceKeys
device_keys_view k = record { unit = k.unit; models = k.models.items; works = works_keys_view k.works; base = k.base; slow = k.slow }

abbrev pub placed_view : PlacedModel → lies.PlacedModel
placed_view p = record { at = p.at; model = p.model.now }

abbrev pub models_view : List (Bor ModelDef) → List ModelDef
models_view models = map (λ m. m.now) models
