-- What a tag is without what it proves of itself, and which tag one goes with.
-- No standard says what a site file is; it is this project's, written in TOML 1.0.
use Rattle.std.specs.Prelude.{ℕ, List, Option, map}
use Rattle.site_model.specs.Companions.{companions_of}
use Rattle.site_model.specs.Readings.{known_at}
use Rattle.site_model.specs.Tagging as tagging
use Rattle.site_model.specs.declared.tag.SiteTag.{SiteTag}

abbrev pub tag_view : SiteTag → tagging.Tag
tag_view t = record {
  name = t.name;
  access = t.access;
  kind = t.kind;
  low = t.low;
  high = t.high;
  default = t.default;
  exponent = t.exponent;
  bit = t.bit;
  down = t.down;
  lapse = t.lapse;
  fit = t.fit;
  companion = t.companion;
  device = t.device;
  model = t.model;
  point = t.point;
  writable = t.writable;
  offset = t.offset;
  sf = t.sf;
}

-- the number of the tag that the one with this number goes with, if any
abbrev pub companion_at : List SiteTag → ℕ → Option ℕ
companion_at tags number = known_at (companions_of (map tag_view tags)) number
