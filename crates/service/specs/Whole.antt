-- What a service does, whatever its connections, its clients and the clock do: its parts by name.
--
-- Each call of a service leads its core on by events of the site run and by maps that searches find or that are forgotten,
-- and by nothing else (`LeadsOnBy`; `LeadsOn` where no client asks), except the one by which another program is put in
-- (`Adopts`). What is to be written over a connection is the rest of one frame that a device there may be asked (`IsRest`).
-- Over a connection whole frames go out, one after another (`FramesGoOutWhole`).
-- What is to be written to a client answers its frames (`IsServed`).
use Rattle.std.specs.Prelude.{ℕ, Bool, List, Option}
use Rattle.modbus_frame.specs.declared.frame.Frame.{Frame}
use Rattle.gateway.specs.event_core.Core.{Gateway}
use Rattle.service_parts.specs.declared.limits.Station.{Station}
use Rattle.service_parts.specs.Clients.{ClientsAreAnswered}
use Rattle.service_parts.specs.Course.{AreRuns, CoursesAreSiteRuns}
use Rattle.service_parts.specs.Requests.{IsRest}

-- A device is asked only what a state of the service's own site runs asks of it.
abbrev pub RestsAreOfTheRun : Type 0
RestsAreOfTheRun = (now : Gateway) (stations : List Station) (found_on : List (Option ℕ)) (link number : ℕ) (bytes : List ℕ) →
    (rest : IsRest now stations found_on link number bytes) → AreRuns rest.made.core now

-- `Answers` says which bytes answer a frame of a client.
pub record SiteIsServed {S : Type 0} (Answers : S → Frame → List ℕ → Bool → S → Type 0) : Type 0 where
  pub course : CoursesAreSiteRuns
  pub devices : RestsAreOfTheRun
  pub clients : ClientsAreAnswered Answers
