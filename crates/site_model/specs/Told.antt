-- What a site file says of a site: its gateway, its devices and its tags, entry by entry.
-- The rules that a file may break are those of File: a site that was read breaks none of them.
-- SunSpec Device Information Model Specification, points and scale factors; site files are this project's, written in TOML 1.0.
use Rattle.std.specs.Prelude.{◌≡◌, ◌⊎◌, ℕ, ℤ, pos, ◌≤ℤ◌, true, false, List, [], ◌∷◌, map, slice_get, Option, None, Some, option_map, option_and_then, if◌then◌else◌, Ok, codes}
use Rattle.toml.specs.Data.{Data, table, Items, no_items, item, get, as_integer}
use Rattle.toml.specs.Parse.{parse_document}
use Rattle.model_defs.specs.declared.model.ModelDef.{ModelDef}
use Rattle.model_defs.specs.declared.point.Point.{Point}
use Rattle.file_keys.specs.Keys.{list_at, number_at, number_or, optional_number_at, section_at, text_at}
use Rattle.site_model.specs.Companions.{first_unpaired}
use Rattle.site_model.specs.Devices.{write_of}
use Rattle.site_model.specs.File.{site_in}
use Rattle.site_model.specs.Gateway.{definition_of}
use Rattle.point_types.specs.Value.{is_bool}
use Rattle.site_model.specs.Tagging.{access_of, factor_in, has_point_words, type_of}
use Rattle.site_model.specs.Views.{site_view}
use Rattle.site_model.specs.TagView.{tag_view}
use Rattle.site_model.specs.Wants.{is_of_device, length_of}
use Rattle.site_model.specs.declared.access.Access.{Access}
use Rattle.site_model.specs.declared.access.Access.TheVariants as access
use Rattle.site_model.specs.declared.device.SiteDevice.{SiteDevice}
use Rattle.site_model.specs.declared.fit.Fit.{Fit}
use Rattle.site_model.specs.declared.fit.Fit.TheVariants as fits
use Rattle.site_model.specs.declared.site.Site.{Site}
use Rattle.site_model.specs.declared.tag.SiteTag.{SiteTag}

-- the entries of a list stand for these, one for each, in order
abbrev pub AreTold : {T : Type 0} → (Data → T → Type 0) → Items → List T → Type 0
AreTold Is no_items [] = Unit {0}
AreTold Is no_items (x ∷ xs) = ⊥
AreTold Is (item entry entries) [] = ⊥
AreTold Is (item entry entries) (x ∷ xs) = Is entry x × AreTold Is entries xs

-- those of a list that is there, and those of a section, which may be missing
abbrev pub AreIn : {T : Type 0} → (Data → T → Type 0) → Option Items → List T → Type 0
AreIn Is None xs = ⊥
AreIn Is (Some entries) xs = AreTold Is entries xs

-- ---- the gateway

-- the last definition of an ID counts
abbrev pub IsDefined : List ModelDef → Option ℤ → ModelDef → Type 0
IsDefined defs id model = option_and_then (definition_of defs) id ≡ Some model

-- its map begins at 40000 where nothing is said
pub record IsGateway (defs : List ModelDef) (entry : Data) (site : Site) : Type 0 where
  pub unit : number_at (codes "unit") entry ≡ Some (pos site.unit)
  pub base : number_or (codes "base") (pos 40000) entry ≡ Some (pos site.base)
  pub models : AreIn (λ id. IsDefined defs (as_integer id)) (list_at (codes "models") entry) site.models

-- ---- a device

pub record IsDevice (entry : Data) (d : SiteDevice) : Type 0 where
  pub name : text_at (codes "name") entry ≡ Some d.name
  pub unit : number_at (codes "unit") entry ≡ Some (pos d.unit)
  pub base : optional_number_at (codes "base") entry ≡ Some (option_map pos d.base)
  pub write : option_and_then write_of (optional_number_at (codes "write") entry) ≡ Some d.write
  pub rewrite : number_or (codes "rewrite") (pos 0) entry ≡ Some (pos d.rewrite)

-- ---- a tag

-- its point lies in the device of the name that is said, or in the gateway's own registers
abbrev pub IsPlaced : List SiteDevice → Option (List ℕ) → Access → Option ℕ → Type 0
IsPlaced devices name a None = is_of_device a ≡ false
IsPlaced devices name a (Some n) = (is_of_device a ≡ true) × (d : SiteDevice) × (slice_get devices n ≡ Some d) × (name ≡ Some d.name)

-- the point of a model, by the names that are said
pub record IsPoint (defs : List ModelDef) (lengths : List (ℕ × ℕ)) (entry : Data) (t : SiteTag) : Type 0 where
  pub model : ModelDef
  pub defined : IsDefined defs (number_at (codes "model") entry) model
  pub id : t.model ≡ model.id
  pub measured : length_of lengths t.model ≡ Some model.length
  pub number : ℕ
  pub point : Point
  pub there : slice_get model.points number ≡ Some point
  pub named : text_at (codes "point") entry ≡ Some point.name
  pub kind : t.point ≡ point.kind
  pub offset : t.offset ≡ point.offset
  pub scaled : t.sf ≡ factor_in model point.sf
  pub writable : t.writable ≡ point.writable

abbrev pub word_of_fit : Fit → Option (List ℕ)
word_of_fit fits.Exact = None
word_of_fit fits.Down = Some (codes "down")
word_of_fit fits.Up = Some (codes "up")

-- a tag over a point
pub record IsPointTag (defs : List ModelDef) (site : Site) (entry : Data) (t : SiteTag) : Type 0 where
  pub name : text_at (codes "name") entry ≡ Some t.name
  pub access : option_and_then access_of (text_at (codes "access") entry) ≡ Some t.access
  pub kind : option_and_then type_of (text_at (codes "type") entry) ≡ Some t.kind
  pub low : number_at (codes "low") entry ≡ Some t.low
  pub high : number_at (codes "high") entry ≡ Some t.high
  pub default : optional_number_at (codes "default") entry ≡ Some t.default
  pub exponent : number_at (codes "exponent") entry ≡ Some t.exponent
  pub bit : optional_number_at (codes "bit") entry ≡ Some (option_map pos t.bit)
  pub round : text_at (codes "round") entry ≡ (if t.down then Some (codes "down") else None)
  pub lapse : optional_number_at (codes "lapse") entry ≡ Some (option_map pos t.lapse)
  pub fit : text_at (codes "fit") entry ≡ word_of_fit t.fit
  pub companion : text_at (codes "with") entry ≡ t.companion
  pub device : IsPlaced site.devices (text_at (codes "device") entry) t.access t.device
  pub point : IsPoint defs site.lengths entry t

-- a tag that is the time since the scan before; such an entry says nothing of a point
pub record IsTimeTag (entry : Data) (t : SiteTag) : Type 0 where
  pub said : text_at (codes "access") entry ≡ Some (codes "time")
  pub timed : t.access ≡ access.Time
  pub name : text_at (codes "name") entry ≡ Some t.name
  pub kind : option_and_then type_of (text_at (codes "type") entry) ≡ Some t.kind
  pub whole : is_bool t.kind ≡ false
  pub low : number_at (codes "low") entry ≡ Some t.low
  pub positive : pos 0 ≤ℤ t.low
  pub high : number_at (codes "high") entry ≡ Some t.high
  pub pointless : has_point_words entry ≡ false

abbrev pub IsTag : List ModelDef → Site → Data → SiteTag → Type 0
IsTag defs site entry t = IsPointTag defs site entry t ⊎ IsTimeTag entry t

-- ---- the site

-- of what is served with a value of the file's, only `site_in` speaks
pub record IsTold (defs : List ModelDef) (text : List ℕ) (site : Site) : Type 0 where
  pub file : Data
  pub toml : option_map table (parse_document text) ≡ Some file
  pub gateway : (entry : Data) × (get (codes "gateway") file ≡ Some entry) × IsGateway defs entry site
  pub devices : AreIn IsDevice (section_at (codes "device") file) site.devices
  pub tags : AreIn (IsTag defs site) (section_at (codes "tag") file) site.tags
  pub pairs : first_unpaired (map tag_view site.tags) ≡ None

-- a site that is read is the one that the file says
abbrev pub SitesAreTold : Type 0
SitesAreTold = (defs : List ModelDef) (text : List ℕ) (site : Site) → site_in defs text ≡ Ok (site_view site) → IsTold defs text site
