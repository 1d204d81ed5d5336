-- What goes out to the devices of a service, from the texts of its site and its programs: reads, and set points of the site's
-- outputs (Modbus Application Protocol V1.1b3, sections 6.3, 6.6 and 6.12).
use Rattle.std.specs.Prelude.{◌≡◌, ◌⊎◌, ℕ, List, [], ◌++◌, Some, Ok, slice_get}
use Rattle.modbus_frame.specs.Frame.{frame_bytes}
use Rattle.site_model.specs.declared.site.Site.{Site}
use Rattle.point_writer.specs.declared.write.Write.{Write}
use Rattle.il_assemble.specs.Meaning.{Program}
use Rattle.verifier.specs.Verified.{Acceptance}
use Rattle.gateway.specs.event_core.Control.{SetsItsTag}
use Rattle.gateway.specs.event_core.Core.{Gateway}
use Rattle.gateway.specs.poller.Cycle.{write_of}
use Rattle.gateway.specs.poller.LinkRun.{Asked, frame_of}
use Rattle.service_parts.specs.declared.connections.Connections.{Connections}
use Rattle.service_parts.specs.Course.{AreRuns}
use Rattle.service_parts.specs.Requests.{IsRightfulOn}
use Rattle.service.specs.Stages.{Stage}
use Rattle.served_site.specs.Surveying.{IsRestOfRead}
use Rattle.served_site.specs.Serving.{Serves}

-- These bytes are the rest of the frame of a write: the set point of an `out` tag of the site, on a point that can be written,
-- for the number that the program stored for it in the last scan of a state of the service, in the tag's range. From that state
-- its own site runs led to the one of now: the program was the one of now, unless another was put in since.
pub record IsRestOfSetPoint (site : Site) (now : Gateway) (bytes : List ℕ) : Type 0 where
  pub state : Gateway
  pub same_site : state.site ≡ site
  pub led : AreRuns state now
  pub output : ℕ
  pub write : Write
  pub sets : SetsItsTag state output write
  pub frame : Asked
  pub unit : ℕ
  pub written : write_of site.devices (Ok write) ≡ Some (record { unit = unit; request = frame.request })
  pub gone : List ℕ
  pub whole : gone ++ bytes ≡ frame_bytes (frame_of frame)

abbrev pub IsOfTheSite : Site → Gateway → List ℕ → Type 0
IsOfTheSite site now bytes = (bytes ≡ []) ⊎ IsRestOfRead bytes ⊎ IsRestOfSetPoint site now bytes

-- Whatever a service of accepted programs does, what is to be written to any of its connections, as `to_link` of a service gives
-- it (`IsRightfulOn`), is the rest of a read, or of a set point of one of the site's outputs, or nothing.
abbrev pub SetPointsAloneAreWritten : Type 0
SetPointsAloneAreWritten = (site_text : List ℕ) (texts : List (List ℕ)) (site : Site) (p : Program) (a : Acceptance) (now : Stage) → Serves site_text texts site p a now
    → (lines : Connections) (link number : ℕ) (bytes : List ℕ) → slice_get lines.links.numbers.items link ≡ Some number → IsRightfulOn now.core lines link bytes
    → ∥ IsOfTheSite site now.core bytes ∥₁
