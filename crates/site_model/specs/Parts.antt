-- Which part of a site file breaks the first rule: all that is before it is read, and it is refused after that.
-- No standard says what a site file is; it is this project's, written in TOML 1.0.
use Rattle.std.specs.Prelude.{◌≡◌, ◌⊎◌, ℕ, true, false, List, [], None, Some, Ok, Err, codes}
use Rattle.toml.specs.Data.{Data, table, Items, Members}
use Rattle.toml.specs.Parse.{parse_document}
use Rattle.model_defs.specs.declared.model.ModelDef.{ModelDef}
use Rattle.file_keys.specs.Refusals.{IsRefusedIn}
use Rattle.site_model.specs.Gateway.{Gateway, gateway_of}
use Rattle.site_model.specs.Devices.{device_of, devices_behind}
use Rattle.site_model.specs.Companions.{first_unpaired}
use Rattle.site_model.specs.Tagging.{Tag, tag_of, tags_behind}
use Rattle.site_model.specs.Serving.{served_of, served_behind}
use Rattle.site_model.specs.File.{section_in, devices_in, tags_in, served_in, has_many_models, has_long_section, has_too_many}
use Rattle.site_model.specs.declared.device.SiteDevice.{SiteDevice}
use Rattle.site_model.specs.declared.part.SitePart.{SitePart}
use Rattle.site_model.specs.declared.served.Served.{Served}
use Rattle.site_model.specs.declared.part.SitePart.TheVariants as parts
use Rattle.site_model.specs.declared.fault.SiteFault.{SiteFault}
use Rattle.site_model.specs.declared.fault.SiteFault.TheVariants as fault

-- ---- one of some entries

abbrev pub IsDeviceRefused : Items → SitePart → SiteFault → Type 0
IsDeviceRefused entries part e = IsRefusedIn parts.Device (devices_behind []) device_of entries part e

abbrev pub IsTagRefused : List SiteDevice → List ModelDef → List ModelDef → Items → SitePart → SiteFault → Type 0
IsTagRefused devices own defs entries part e = IsRefusedIn parts.Tag (tags_behind devices own defs []) (tag_of devices own defs) entries part e

abbrev pub IsServedRefused : List ModelDef → List Tag → Items → SitePart → SiteFault → Type 0
IsServedRefused own tags entries part e = IsRefusedIn parts.Served (served_behind own tags []) (served_of own tags) entries part e

-- the first tag that goes with none that it may
abbrev pub IsUnpaired : List Tag → SitePart → SiteFault → Type 0
IsUnpaired tags part e = (number : ℕ) × (first_unpaired tags ≡ Some number) × (part ≡ parts.Tag number) × (e ≡ fault.BadType)

-- ---- one of the sections

-- a section that is no list is a fault of the file
abbrev pub IsInSection : List ℕ → (Items → SitePart → SiteFault → Type 0) → Data → SitePart → SiteFault → Type 0
IsInSection key is_refused doc part e =
    ((part ≡ parts.File) × (section_in key doc ≡ Err e)) ⊎
    ((entries : Items) × (section_in key doc ≡ Ok entries) × is_refused entries part e)

-- The first section that breaks a rule, where each before it is read: the gateway, the devices, the tags, what is served;
-- then the first tag that goes with none that it may.
pub data IsUnread (defs : List ModelDef) (doc : Data) (part : SitePart) (e : SiteFault) : Type 0 where
  at_gateway : part ≡ parts.Gateway → gateway_of defs doc ≡ Err e → IsUnread defs doc part e
  in_devices :
      (g : Gateway) → gateway_of defs doc ≡ Ok g →
      IsInSection (codes "device") IsDeviceRefused doc part e → IsUnread defs doc part e
  in_tags :
      (g : Gateway) (devices : List SiteDevice) → gateway_of defs doc ≡ Ok g → devices_in doc ≡ Ok devices →
      IsInSection (codes "tag") (IsTagRefused devices g.models defs) doc part e → IsUnread defs doc part e
  in_served :
      (g : Gateway) (devices : List SiteDevice) (tags : List Tag) →
      gateway_of defs doc ≡ Ok g → devices_in doc ≡ Ok devices → tags_in defs g devices doc ≡ Ok tags →
      IsInSection (codes "served") (IsServedRefused g.models tags) doc part e → IsUnread defs doc part e
  in_companions :
      (g : Gateway) (devices : List SiteDevice) (tags : List Tag) (served : List Served) →
      gateway_of defs doc ≡ Ok g → devices_in doc ≡ Ok devices → tags_in defs g devices doc ≡ Ok tags → served_in g tags doc ≡ Ok served →
      IsUnpaired tags part e → IsUnread defs doc part e

-- ---- the file

-- the gateway has too many models, or else a section is too long
abbrev pub IsTooLong : Data → SitePart → Type 0
IsTooLong doc part =
    ((part ≡ parts.Gateway) × (has_many_models doc ≡ true)) ⊎
    ((part ≡ parts.File) × (has_many_models doc ≡ false) × (has_long_section doc ≡ true))

-- what is too long is told before anything is read
abbrev pub IsTreeFault : List ModelDef → Data → SitePart → SiteFault → Type 0
IsTreeFault defs doc part e =
    ((e ≡ fault.TooMany) × IsTooLong doc part) ⊎
    ((has_too_many doc ≡ false) × IsUnread defs doc part e)

-- the part of the text that breaks the first rule, by this fault
abbrev pub IsAtFault : List ModelDef → List ℕ → SitePart → SiteFault → Type 0
IsAtFault defs text part e =
    ((part ≡ parts.File) × (e ≡ fault.NotToml) × (parse_document text ≡ None)) ⊎
    ((members : Members) × (parse_document text ≡ Some members) × IsTreeFault defs (table members) part e)
