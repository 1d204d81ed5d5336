-- What a scan over a link makes of a core, and what it answers to the frames of clients.
-- IEC 61131-3 edition 2, 3.2 (one scan after another); Modbus Application Protocol V1.1b3, section 7.
use Rattle.std.specs.Prelude.{◌≡◌, ◌≤ℤ◌, ℕ, ℤ, Bool, true, List, slice_get, Some, None, Result, Ok, Err}
use Rattle.point_types.specs.declared.reading.Reading.{Reading}
use Rattle.modbus_frame.specs.declared.frame.Frame.{Frame}
use Rattle.modbus_frame.specs.Frame.{frame_bytes}
use Rattle.modbus_frame.specs.Served.{reply_to, unknown_unit_pdu}
use Rattle.scan_code.specs.Machine.{State}
use Rattle.site_model.specs.declared.tag.SiteTag.{SiteTag}
use Rattle.site_model.specs.Readings.{AreSettings, known_at}
use Rattle.point_writer.specs.declared.write.Write.{Write}
use Rattle.point_writer.specs.declared.write.NoWrite.{NoWrite}
use Rattle.point_writer.specs.Going.{AreCompanionsOf, IsPlanFor}
use Rattle.point_writer.specs.SetPoint.{IsSetPoint, WritesASetPoint}
use Rattle.gateway.specs.declared.event_core.event.Event.{Event}
use Rattle.gateway.specs.declared.event_core.event.Event.TheVariants as event
use Rattle.gateway.specs.declared.event_core.event.Answer.{Answer}
use Rattle.gateway.specs.declared.event_core.event.Answer.TheVariants as answer
use Rattle.gateway.specs.event_core.Core.{Gateway, IsSame, StepsOn, numbers_of}
use Rattle.gateway.specs.event_core.SiteRun.{after_block, after_time, scanned, told}

-- one event of the site run, and nothing else changes
abbrev pub Advances : Gateway → Event → Answer → Gateway → Type 0
Advances old e a new = StepsOn old e a new × IsSame old new

-- so many milliseconds went by, and nothing else changes
abbrev pub after_wait : ℕ → Gateway → Gateway
after_wait ms g = record g { standing = after_time g.site ms g.standing }

-- A block that came or was lost: what is known of it is that from now on. Time that went by. Nothing else changes.
abbrev pub Notes : Gateway → Event → Answer → Gateway → Type 0
Notes old (event.Block want words) a new = new ≡ record old { standing = after_block old.site want (told want.model words) old.standing }
Notes old (event.Lost want) a new = new ≡ record old { standing = after_block old.site want None old.standing }
Notes old (event.Time ms) a new = new ≡ after_wait ms old
Notes old event.Scan a new = ⊥
Notes old (event.Client pdu) a new = ⊥

-- after a scan that ended so: the machine has the new variables and outputs, and nothing else changes
abbrev pub after_scan : Gateway → List Reading → (steps : ℕ) → State → Gateway
after_scan old readings steps end = record old {
  machine = record { accepted = old.machine.accepted; variables = end.variables; outputs = end.outputs };
  standing = scanned old.site (numbers_of old.machine.accepted) old.standing readings steps end;
}

-- What is to be written for the i-th output after the last scan, or why nothing is: a set point of its tag for the number
-- that the program stored, and each stored number lies in the range of its tag.
pub record IsPlanned (g : Gateway) (i : ℕ) (r : Result Write NoWrite) : Type 0 where
  pub plan : IsPlanFor g.site.tags g.site.outs g.site.wants g.maps (g.standing.last).blocks (g.standing.last).outputs i r
  pub set_point : WritesASetPoint g.site.tags g.site.outs g.site.wants g.maps (g.standing.last).blocks (g.standing.last).outputs i r
  pub ranged : AreSettings g.site.tags (g.standing.last).outputs

-- What is written for the i-th output sets the site's tag of that output, by the blocks that were known at the scan, to the
-- number that the program stored, which lies in the tag's range.
pub record SetsItsTag (g : Gateway) (i : ℕ) (w : Write) : Type 0 where
  pub number : ℕ
  pub output : slice_get g.site.outs i ≡ Some number
  pub tag : SiteTag
  pub named : slice_get g.site.tags number ≡ Some tag
  pub value : ℤ
  pub stored : known_at (g.standing.last).outputs number ≡ Some value
  pub sets : IsSetPoint g.maps g.site.wants (g.standing.last).blocks tag value w
  pub low : tag.low ≤ℤ value
  pub high : value ≤ℤ tag.high

-- Each tag that the one of the i-th output goes with has a set point, by the same scan.
abbrev pub HasItsCompanions : Gateway → ℕ → Type 0
HasItsCompanions g i = AreCompanionsOf g.site.tags g.site.outs g.site.wants g.maps (g.standing.last).blocks (g.standing.last).outputs i

-- What is due for the i-th output: its tag's set point, where those that it goes with have one; or nothing, for this cause.
abbrev pub IsDue : Gateway → ℕ → Result Write NoWrite → Type 0
IsDue g i (Ok w) = SetsItsTag g i w × HasItsCompanions g i
IsDue g i (Err cause) = IsPlanFor g.site.tags g.site.outs g.site.wants g.maps (g.standing.last).blocks (g.standing.last).outputs i (Err cause)

abbrev pub steps_of : Gateway → ℕ
steps_of g = (g.standing.last).steps

-- A frame for the gateway's unit is answered by the site run, and the machine stays as it was; one for another unit is
-- answered by the exception that no such unit is served.
pub record AnswersOn (old : Gateway) (frame : Frame) (pdu : List ℕ) (new : Gateway) : Type 0 where
  pub own : frame.unit ≡ old.site.unit → Advances old (event.Client frame.pdu) (answer.Reply pdu) new × (new.machine ≡ old.machine)
  pub other : (frame.unit ≡ old.site.unit → ⊥) → (pdu ≡ unknown_unit_pdu frame) × (new ≡ old)

-- These bytes go back for a frame: a reply with its transaction and unit. More frames may always be answered.
pub record AnswersFrame (old : Gateway) (frame : Frame) (bytes : List ℕ) (goes_on : Bool) (new : Gateway) : Type 0 where
  pub pdu : List ℕ
  pub answers : AnswersOn old frame pdu new
  pub spelled : bytes ≡ frame_bytes (reply_to frame pdu)
  pub more : goes_on ≡ true
