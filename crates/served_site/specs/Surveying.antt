-- What goes out to the devices of a site without outputs: reads, and nothing else
-- (Modbus Application Protocol V1.1b3, section 6.3).
use Rattle.std.specs.Prelude.{◌≡◌, ◌⊎◌, ℕ, List, [], ◌++◌, Some, slice_get}
use Rattle.modbus_frame.specs.declared.message.Request.TheVariants.{Read}
use Rattle.modbus_frame.specs.Frame.{frame_bytes}
use Rattle.site_model.specs.declared.site.Site.{Site}
use Rattle.gateway.specs.poller.LinkRun.{Asked, frame_of}
use Rattle.service_parts.specs.declared.connections.Connections.{Connections}
use Rattle.service_parts.specs.Requests.{IsRightfulOn}
use Rattle.service.specs.Stages.{AnyStep, CourseBy, IsFirst, Stage}

-- These bytes are the rest of the frame of a read of so many registers.
pub record IsRestOfRead (bytes : List ℕ) : Type 0 where
  pub frame : Asked
  pub address : ℕ
  pub count : ℕ
  pub reads : frame.request ≡ Read address count
  pub gone : List ℕ
  pub whole : gone ++ bytes ≡ frame_bytes (frame_of frame)

abbrev pub IsOfReads : List ℕ → Type 0
IsOfReads bytes = (bytes ≡ []) ⊎ IsRestOfRead bytes

-- Before its first round: nothing is known or set, and the site has no outputs.
pub record IsSurveyStart (site : Site) (s : Stage) : Type 0 where
  pub first : IsFirst s
  pub own : s.core.site ≡ site
  pub none : site.outs ≡ []

-- Whatever steps a service makes that was begun so, what is to be written to any of its connections, as `to_link` of a service
-- gives it (`IsRightfulOn`), is the rest of a read, or nothing.
abbrev pub SurveysAskForReadsAlone : Type 0
SurveysAskForReadsAlone = (site : Site) (first now : Stage) → IsSurveyStart site first → CourseBy AnyStep first now
    → (lines : Connections) (link number : ℕ) (bytes : List ℕ) → slice_get lines.links.numbers.items link ≡ Some number → IsRightfulOn now.core lines link bytes → ∥ IsOfReads bytes ∥₁
