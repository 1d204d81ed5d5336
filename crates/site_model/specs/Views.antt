-- What the reader's own values stand for: the keys of an entry, the gateway, a tag, and the whole site.
-- No standard says what a site file is; it is this project's, written in TOML 1.0.
use Rattle.std.specs.Prelude.{option_map, map}
use Rattle.toml.specs.View.{items_view}
use Rattle.site_model.specs.Gateway as told
use Rattle.site_model.specs.Devices as devices
use Rattle.site_model.specs.Tagging as tagging
use Rattle.site_model.specs.Serving as serving
use Rattle.site_model.specs.File as file
use Rattle.site_model.specs.declared.serving.Given.{Given}
use Rattle.site_model.specs.declared.serving.ServedKeys.{ServedKeys}
use Rattle.site_model.specs.declared.site.Site.{Site}
use Rattle.site_model.specs.declared.tag_keys.Numbers.{Numbers}
use Rattle.site_model.specs.declared.tag_keys.TagPlace.{TagPlace}
use Rattle.site_model.specs.declared.tag_keys.TagKeys.{TagKeys}
use Rattle.site_model.specs.declared.time_tag.TimeKeys.{TimeKeys}
use Rattle.site_model.specs.declared.measures.Measures.{Measures}
use Rattle.site_model.specs.TagView.{tag_view}
use Rattle.site_model.specs.declared.gateway.GatewayKeys.{GatewayKeys}
use Rattle.site_model.specs.declared.gateway.Gateway.{Gateway}
use Rattle.site_model.specs.declared.devices.DeviceKeys.{DeviceKeys}

abbrev pub gateway_keys_view : GatewayKeys → told.GatewayKeys
gateway_keys_view keys = record { unit = keys.unit; base = keys.base; models = items_view keys.models.now }

abbrev pub gateway_view : Gateway → told.Gateway
gateway_view g = record { unit = g.unit; base = g.base; models = g.models }

abbrev pub device_keys_view : DeviceKeys → devices.DeviceKeys
device_keys_view keys = record { name = keys.name.now; unit = keys.unit; base = keys.base; write = keys.write; rewrite = keys.rewrite }

abbrev pub numbers_view : Numbers → tagging.Numbers
numbers_view n = record { exponent = n.exponent; low = n.low; high = n.high; default = n.default }

abbrev pub place_view : TagPlace → tagging.TagPlace
place_view p = record { device = option_map (λ s. s.now) p.device; model = p.model; point = p.point.now }

abbrev pub tag_keys_view : TagKeys → tagging.TagKeys
tag_keys_view keys = record {
  name = keys.name.now;
  access = keys.access.now;
  kind = keys.kind.now;
  place = place_view keys.place;
  numbers = numbers_view keys.numbers;
  bit = keys.bit;
  round = option_map (λ s. s.now) keys.round;
  lapse = keys.lapse;
  fit = option_map (λ s. s.now) keys.fit;
  companion = option_map (λ s. s.now) keys.companion;
}

abbrev pub time_keys_view : TimeKeys → tagging.TimeKeys
time_keys_view keys = record { name = keys.name.now; kind = keys.kind.now; low = keys.low; high = keys.high }

abbrev pub measures_view : Measures → tagging.Measures
measures_view m = record { exponent = m.exponent; bit = m.bit; lapse = m.lapse }

abbrev pub given_view : Given → serving.Given
given_view g = record { value = g.value; text = option_map (λ s. s.now) g.text; sum = option_map (λ s. items_view s.now) g.sum; partial = g.partial }

abbrev pub served_keys_view : ServedKeys → serving.ServedKeys
served_keys_view keys = record { model = keys.model; point = keys.point.now; given = given_view keys.given }

-- a site without what its tags prove of themselves
abbrev pub site_view : Site → file.Layout
site_view s = record { unit = s.unit; base = s.base; models = s.models; devices = s.devices; tags = map tag_view s.tags; served = s.served; companions = s.companions; lengths = s.lengths }
