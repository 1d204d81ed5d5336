-- Which devices the entries of the section `device` of a site file stand for.
-- SunSpec Device Information Model Specification, device modbus maps.
use Rattle.std.specs.Prelude.{ℕ, ℤ, pos, nat_eq, Bool, ◌||◌, List, [], ◌∷◌, ◌++◌, Option, None, Some, option_map, option_and_then, if◌then◌else◌, Result, Ok, Err, codes}
use Rattle.std.specs.List.{list_any}
use Rattle.std.specs.Option.{ok_or}
use Rattle.std.specs.Str.{bytes_eq}
use Rattle.toml.specs.Data.{Data, Items, no_items, item}
use Rattle.point_types.specs.Value.{◌>>=◌, int_eq}
use Rattle.file_keys.specs.Keys.{text_at, number_at, number_or, optional_number_at, natural_within}
use Rattle.site_model.specs.declared.device.SiteDevice.{SiteDevice}
use Rattle.site_model.specs.declared.device.WriteFunction.{WriteFunction}
use Rattle.site_model.specs.declared.device.WriteFunction.TheVariants as write
use Rattle.site_model.specs.declared.fault.SiteFault.{SiteFault}
use Rattle.site_model.specs.declared.fault.SiteFault.TheVariants as fault

pub record DeviceKeys : Type 0 where
  pub name : List ℕ
  pub unit : ℤ
  pub base : Option ℤ
  pub write : Option ℤ
  pub rewrite : ℤ

-- nothing where a key is missing or of another kind
abbrev pub device_keys : Data → Option DeviceKeys
device_keys tree =
    option_and_then (λ name.
    option_and_then (λ unit.
    option_and_then (λ base.
    option_and_then (λ write.
    option_map (λ rewrite. record { name = name; unit = unit; base = base; write = write; rewrite = rewrite })
    (number_or (codes "rewrite") (pos 0) tree))
    (optional_number_at (codes "write") tree))
    (optional_number_at (codes "base") tree))
    (number_at (codes "unit") tree))
    (text_at (codes "name") tree)

-- function 16 where nothing is said
abbrev pub write_of : Option ℤ → Option WriteFunction
write_of None = Some write.Multiple
write_of (Some n) = if int_eq n (pos 16) then Some write.Multiple else (if int_eq n (pos 6) then Some write.Single else None)

abbrev pub optional_base : Option ℤ → Option (Option ℕ)
optional_base None = Some None
optional_base (Some n) = option_map Some (natural_within 65534 n)

abbrev pub device_within : DeviceKeys → Option SiteDevice
device_within keys =
    option_and_then (λ unit.
    option_and_then (λ base.
    option_and_then (λ write.
    option_map (λ rewrite. record { name = keys.name; unit = unit; base = base; write = write; rewrite = rewrite })
    (natural_within 3600 keys.rewrite))
    (write_of keys.write))
    (optional_base keys.base))
    (natural_within 255 keys.unit)

-- it has the name or the unit
abbrev pub has_name_or_unit : List ℕ → ℕ → SiteDevice → Bool
has_name_or_unit name unit d = bytes_eq d.name name || nat_eq d.unit unit

-- a device after those before it, or the first rule that is broken
abbrev pub device_of : List SiteDevice → Data → Result SiteDevice SiteFault
device_of seen tree =
    ok_or (device_keys tree) fault.MissingKey >>= λ keys.
    ok_or (device_within keys) fault.BadRange >>= λ d.
    (if list_any (has_name_or_unit d.name d.unit) seen then Err fault.Duplicate else Ok d)

-- the devices in order
abbrev pub devices_behind : List SiteDevice → Items → Result (List SiteDevice) SiteFault
devices_behind seen no_items = Ok seen
devices_behind seen (item tree trees) = device_of seen tree >>= λ d. devices_behind (seen ++ d ∷ []) trees
