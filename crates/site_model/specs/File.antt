-- Which site a site file stands for, over given model definitions.
-- SunSpec Device Information Model Specification, device modbus maps; site files are this project's.
use Rattle.std.specs.Prelude.{ℕ, Bool, false, ◌||◌, List, [], Option, option_map, if◌then◌else◌, Result, Ok, Err, codes}
use Rattle.std.specs.Option.{ok_or, option_map_or}
use Rattle.toml.specs.Data.{Data, table, Items, get}
use Rattle.toml.specs.Parse.{parse_document}
use Rattle.point_types.specs.Value.{◌>>=◌}
use Rattle.model_defs.specs.declared.model.ModelDef.{ModelDef}
use Rattle.file_keys.specs.Keys.{section_at, has_over}
use Rattle.site_model.specs.Gateway.{Gateway, gateway_of}
use Rattle.site_model.specs.Lengths.{lengths_of}
use Rattle.site_model.specs.Devices.{devices_behind}
use Rattle.site_model.specs.Tagging.{Tag, tags_behind}
use Rattle.site_model.specs.Companions.{paired}
use Rattle.site_model.specs.Serving.{served_behind}
use Rattle.site_model.specs.declared.device.SiteDevice.{SiteDevice}
use Rattle.site_model.specs.declared.served.Served.{Served}
use Rattle.site_model.specs.declared.fault.SiteFault.{SiteFault}
use Rattle.site_model.specs.declared.fault.SiteFault.TheVariants as fault

-- a site, with each tag without what it proves of itself
pub record Layout : Type 0 where
  pub unit : ℕ
  pub base : ℕ
  pub models : List ModelDef
  pub devices : List SiteDevice
  pub tags : List Tag
  pub served : List Served
  pub companions : List (Option ℕ)
  pub lengths : List (ℕ × ℕ)

-- ---- lists that are too long

-- more than 16 models of the gateway
abbrev pub has_many_models : Data → Bool
has_many_models doc = option_map_or (has_over 16 (codes "models")) (get (codes "gateway") doc) false

-- more than 64 devices, 1,024 tags or 256 served points
abbrev pub has_long_section : Data → Bool
has_long_section doc = has_over 64 (codes "device") doc || (has_over 1024 (codes "tag") doc || has_over 256 (codes "served") doc)

abbrev pub has_too_many : Data → Bool
has_too_many doc = has_many_models doc || has_long_section doc

-- ---- the site

abbrev pub layout_over : List ModelDef → Gateway → List SiteDevice → List Tag → List (Option ℕ) → List Served → Layout
layout_over defs g devices tags companions served = record {
  unit = g.unit;
  base = g.base;
  models = g.models;
  devices = devices;
  tags = tags;
  served = served;
  companions = companions;
  lengths = lengths_of g.models defs tags;
}

-- the entries of a section, which is a list where it is there
abbrev pub section_in : List ℕ → Data → Result Items SiteFault
section_in key doc = ok_or (section_at key doc) fault.MissingKey

abbrev pub devices_in : Data → Result (List SiteDevice) SiteFault
devices_in doc = section_in (codes "device") doc >>= devices_behind []

-- the tags over a gateway and devices
abbrev pub tags_in : List ModelDef → Gateway → List SiteDevice → Data → Result (List Tag) SiteFault
tags_in defs g devices doc = section_in (codes "tag") doc >>= tags_behind devices g.models defs []

-- what is served over a gateway and tags
abbrev pub served_in : Gateway → List Tag → Data → Result (List Served) SiteFault
served_in g tags doc = section_in (codes "served") doc >>= served_behind g.models tags []

abbrev pub layout_of : List ModelDef → Data → Result Layout SiteFault
layout_of defs doc =
    gateway_of defs doc >>= λ g.
    devices_in doc >>= λ devices.
    tags_in defs g devices doc >>= λ tags.
    served_in g tags doc >>= λ served.
    paired tags >>= λ companions.
    Ok (layout_over defs g devices tags companions served)

-- the site of a tree, or the first rule that it breaks: lists that are too long, the gateway, devices, tags, served points, which tags go with which
abbrev pub site_of : List ModelDef → Data → Result Layout SiteFault
site_of defs doc = if has_too_many doc then Err fault.TooMany else layout_of defs doc

-- the same of a text: its first rule is to be TOML
abbrev pub site_in : List ModelDef → List ℕ → Result Layout SiteFault
site_in defs text = ok_or (option_map table (parse_document text)) fault.NotToml >>= site_of defs
