-- What a round asks of a device (Modbus Application Protocol V1.1b3, sections 6.3, 6.6 and 6.12).
use Rattle.std.specs.Prelude.{◌≡◌, ◌==◌, ℕ, List, Option, None, Some, Result, Ok, Err, slice_get, if◌then◌else◌}
use Rattle.site_model.specs.declared.device.SiteDevice.{SiteDevice}
use Rattle.site_model.specs.declared.want.Want.{Want}
use Rattle.point_writer.specs.declared.write.Write.{Write}
use Rattle.point_writer.specs.declared.write.NoWrite.{NoWrite}
use Rattle.gateway.specs.declared.poller.cycle.Call.{Call}
use Rattle.gateway.specs.event_core.Control.{SetsItsTag}
use Rattle.gateway.specs.event_core.Core.{Gateway}
use Rattle.gateway.specs.poller.Cycle.{read_of, write_of}
use Rattle.service_parts.specs.declared.asked.Aim.{Aim}
use Rattle.service_parts.specs.declared.asked.Aim.TheVariants as aim

-- what is to be written to the device by a plan
abbrev pub write_to : ℕ → List SiteDevice → Result Write NoWrite → Option Call
write_to device devices (Ok w) = if w.device == device then write_of devices (Ok w) else None
write_to device devices (Err cause) = None

-- It reads the wanted block of this number, which is one of the device, by the map that this has now.
pub record IsRead (g : Gateway) (place device : ℕ) (call : Call) : Type 0 where
  pub want : Want
  pub wanted : slice_get g.site.wants place ≡ Some want
  pub own : want.device ≡ device
  pub read : read_of g.site g.maps want ≡ Some call

-- It writes to the device the set point of the site's output of this number, for the number that the program stored in the
-- last scan.
pub record IsWrite (g : Gateway) (output device : ℕ) (call : Call) : Type 0 where
  pub write : Write
  pub sets : SetsItsTag g output write
  pub written : write_to device g.site.devices (Ok write) ≡ Some call

-- It is made for that: a wanted block, or an output.
abbrev pub IsCallFor : Gateway → Aim → ℕ → Call → Type 0
IsCallFor g (aim.Block want) device call = IsRead g want device call
IsCallFor g (aim.Output output) device call = IsWrite g output device call
IsCallFor g aim.Map device call = ⊥
