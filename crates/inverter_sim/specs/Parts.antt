-- Which part of a plant file breaks the first rule: all that is before it is read, and it is refused after that.
-- No standard says what a plant file is; it is this project's, written in TOML 1.0.
use Rattle.std.specs.Prelude.{◌≡◌, ◌⊎◌, ℕ, nat_lt, Bool, true, false, List, [], None, Some, Result, Ok, Err, codes}
use Rattle.std.specs.Option.{ok_or}
use Rattle.toml.specs.Data.{Data, table, Items, Members, get_item}
use Rattle.toml.specs.Parse.{parse_document}
use Rattle.file_keys.specs.Keys.{count, has_over, list_at, section_at}
use Rattle.file_keys.specs.Refusals.{before, IsRefusedIn}
use Rattle.point_types.specs.Value.{◌>>=◌}
use Rattle.model_defs.specs.declared.model.ModelDef.{ModelDef}
use Rattle.inverter_sim.specs.State.{DeviceState}
use Rattle.inverter_sim.specs.File.{any_of, checked, definitions_of, device_has_too_many, device_keys, devices_from, devices_of, fault_of, faults_from, has_too_many, valued, valued_all, Valued}
use Rattle.inverter_sim.specs.declared.part.PlantPart.{PlantPart}
use Rattle.inverter_sim.specs.declared.part.PlantPart.TheVariants as parts
use Rattle.inverter_sim.specs.declared.fault.PlantFault.{PlantFault}
use Rattle.inverter_sim.specs.declared.fault.PlantFault.TheVariants as fault

-- ---- lists that are too long

-- entry n is the first for which the test holds
pub record IsFirst (test : Data → Bool) (n : ℕ) (entries : Items) : Type 0 where
  pub entry : Data
  pub stands : get_item n entries ≡ Some entry
  pub holds : test entry ≡ true
  pub none_before : any_of test (before n entries) ≡ false

-- too many devices, or else the first device with too many models, watts or units
abbrev pub IsTooLong : Data → PlantPart → Type 0
IsTooLong doc part =
    ((part ≡ parts.File) × (has_over 64 (codes "device") doc ≡ true)) ⊎
    ((n : ℕ) × (entries : Items) × (part ≡ parts.Device n) × (has_over 64 (codes "device") doc ≡ false) ×
    (list_at (codes "device") doc ≡ Some entries) × IsFirst device_has_too_many n entries)

-- ---- one of the devices

-- a device apart from its values: its models, its registers, and the entries of the values
pub record Valueless : Type 0 where
  pub models : List ModelDef
  pub registers : List ℕ
  pub values : Items

abbrev pub valueless : List ModelDef → List DeviceState → Data → Result Valueless PlantFault
valueless defs seen tree =
    device_keys tree >>= λ keys.
    ok_or (definitions_of defs keys.models) fault.UnknownModel >>= λ models.
    checked seen keys models >>= λ d.
    ok_or (section_at (codes "value") tree) fault.MissingKey >>= λ values.
    Ok (record { models = models; registers = d.registers; values = values })

abbrev pub unvalued : Valueless → Valued
unvalued v = record { registers = v.registers; seen = [] }

-- of device n, the values are no list, which is its own fault, or else one of them is refused
abbrev pub IsInValues : List ModelDef → List ℕ → ℕ → Data → PlantPart → PlantPart → PlantFault → Type 0
IsInValues models registers n tree own part e =
    ((part ≡ own) × (e ≡ fault.MissingKey) × (section_at (codes "value") tree ≡ None)) ⊎
    ((entries : Items) × (section_at (codes "value") tree ≡ Some entries) ×
    IsRefusedIn (parts.Value n) (valued_all models (record { registers = registers; seen = [] })) (valued models) entries part e)

-- device n is refused apart from its values, or else one of its values is
abbrev pub IsInDevice : List ModelDef → List DeviceState → ℕ → Data → PlantPart → PlantFault → Type 0
IsInDevice defs seen n tree part e =
    ((part ≡ parts.Device n) × (valueless defs seen tree ≡ Err e)) ⊎
    ((v : Valueless) × (valueless defs seen tree ≡ Ok v) ×
    IsRefusedIn (parts.Value n) (valued_all v.models (unvalued v)) (valued v.models) v.values part e)

-- the devices before number n are read, and the one there is refused after them
pub record IsDeviceRefused (defs : List ModelDef) (entries : Items) (part : PlantPart) (e : PlantFault) : Type 0 where
  pub number : ℕ
  pub seen : List DeviceState
  pub entry : Data
  pub are_read : devices_from defs [] (before number entries) ≡ Ok seen
  pub stands : get_item number entries ≡ Some entry
  pub refused : IsInDevice defs seen number entry part e

-- ---- one of the faults

-- too many faults, or else one of them
abbrev pub IsFaultRefused : Items → PlantPart → PlantFault → Type 0
IsFaultRefused entries part e =
    ((part ≡ parts.File) × (e ≡ fault.TooMany) × (nat_lt 256 (count entries) ≡ true)) ⊎
    ((nat_lt 256 (count entries) ≡ false) × IsRefusedIn parts.Fault (faults_from []) fault_of entries part e)

-- ---- the file

-- a section that is no list is a fault of the file
abbrev pub IsInSection : List ℕ → (Items → PlantPart → PlantFault → Type 0) → Data → PlantPart → PlantFault → Type 0
IsInSection key is_refused doc part e =
    ((part ≡ parts.File) × (e ≡ fault.MissingKey) × (section_at key doc ≡ None)) ⊎
    ((entries : Items) × (section_at key doc ≡ Some entries) × is_refused entries part e)

-- what is too long is told before anything is read; the faults are read after the devices
pub data IsTreeFault (defs : List ModelDef) (doc : Data) (part : PlantPart) (e : PlantFault) : Type 0 where
  too_long : e ≡ fault.TooMany → IsTooLong doc part → IsTreeFault defs doc part e
  in_devices : has_too_many doc ≡ false → IsInSection (codes "device") (IsDeviceRefused defs) doc part e → IsTreeFault defs doc part e
  in_faults :
      (devices : List DeviceState) → has_too_many doc ≡ false → devices_of defs doc ≡ Ok devices →
      IsInSection (codes "fault") IsFaultRefused doc part e → IsTreeFault defs doc part e

-- the part of the text that breaks the first rule, by this fault
abbrev pub IsAtFault : List ModelDef → List ℕ → PlantPart → PlantFault → Type 0
IsAtFault defs text part e =
    ((part ≡ parts.File) × (e ≡ fault.NotToml) × (parse_document text ≡ None)) ⊎
    ((members : Members) × (parse_document text ≡ Some members) × IsTreeFault defs (table members) part e)
