-- What devices have to say of themselves, and what they said, over all calls (SunSpec Device Information Model Specification, model 1).
use Rattle.std.specs.Prelude.{◌≡◌, ◌⊎◌, ◌==◌, nat_eq, ⊤, ℕ, Bool, true, false, ◌&&◌, List, drop, take, length, Option, None, Some, is_some, if◌then◌else◌}
use Rattle.std.specs.Option.{option_map_or}
use Rattle.modbus_frame.specs.declared.message.Request.{Request}
use Rattle.modbus_frame.specs.declared.message.Request.TheVariants as request
use Rattle.site_model.specs.Readings.{known_at}
use Rattle.gateway.specs.declared.poller.outcome.Outcome.{Outcome}
use Rattle.gateway.specs.declared.poller.outcome.Outcome.TheVariants as outcome
use Rattle.gateway.specs.event_core.Core.{Gateway}
use Rattle.gateway.specs.poller.LinkRun.{Asked as FrameRequest}
use Rattle.service_requests.specs.declared.identity.Identity.{Identity}
use Rattle.service_requests.specs.declared.request_end.RequestEnd.{RequestEnd}
use Rattle.service_requests.specs.declared.request_end.RequestEnd.TheVariants as fate
use Rattle.service_requests.specs.Identity.{is_said_by}
use Rattle.service_parts.specs.declared.asked.Aim.{Aim}
use Rattle.service_parts.specs.declared.asked.Aim.TheVariants as aim
use Rattle.service_parts.specs.declared.asked.Asked.{Asked}
use Rattle.service_parts.specs.declared.limits.Station.{Station}
use Rattle.service_parts.specs.Requests.{IsFoundOn, IsMade}
use Rattle.service.specs.declared.identities.Identities.{Identities}
use Rattle.service.specs.declared.identities.Said.{Said}

-- ---- what is known of a device

-- what it has to say, if anything
abbrev pub wanted_of : Identities → ℕ → Option Identity
wanted_of ids device = known_at ids.wanted.items device

abbrev pub wants : Identities → ℕ → Bool
wants ids device = is_some (wanted_of ids device)

-- what it said last
abbrev pub said_of : Identities → ℕ → Option Said
said_of ids device = known_at ids.last.items device

-- what it had said last when its map was found
abbrev pub found_of : Identities → ℕ → Option Said
found_of ids device = known_at ids.found.items device

-- its 64 registers from the maker on, as it said them last
abbrev pub words_of : Identities → ℕ → Option (List ℕ)
words_of ids device = option_map_or (λ (said : Said). Some (take 64 (drop 2 said.words))) (said_of ids device) None

-- No device said anything.
abbrev pub SaysNothing : Identities → Type 0
SaysNothing ids = (device : ℕ) → (said_of ids device ≡ None) × (found_of ids device ≡ None)

-- This was said over the connection with this number, and says that it is this device.
abbrev pub is_said : Identity → (number : ℕ) → Said → Bool
is_said identity number said = nat_eq said.number number && is_said_by identity said.words

-- A device said so last.
abbrev pub says : Identities → (device number : ℕ) → Identity → Bool
says ids device number identity = option_map_or (is_said identity number) (said_of ids device) false

-- The device is the one that it has to be, by what it said last: it said so over the connection with this number; or it has to
-- say nothing.
abbrev pub is_right : Identities → (device number : ℕ) → Bool
is_right ids device number = option_map_or (says ids device number) (wanted_of ids device) true

-- ---- by an answer

-- 66 registers that came over the connection with this number
abbrev pub said_by : List ℕ → (number : ℕ) → Option Said
said_by words number = if length words == 66 then Some (record { number = number; words = words }) else None

-- as the answer to a request of a search
abbrev pub said_for : Aim → List ℕ → (number : ℕ) → Option Said
said_for aim.Map words number = said_by words number
said_for (aim.Block want) words number = None
said_for (aim.Output output) words number = None

abbrev pub said_in : Outcome → Asked → Option Said
said_in (outcome.Words words) asked = said_for asked.aim words asked.number
said_in (outcome.Exception e) asked = None
said_in outcome.Wrote asked = None
said_in outcome.Mismatch asked = None
said_in outcome.Stale asked = None

-- The device whose request is answered says this, by the words of the answer, over the connection over which it was asked.
abbrev pub IsSaidBy : Outcome → Asked → ℕ → Said → Type 0
IsSaidBy o asked device said = (device ≡ asked.device) × (said_in o asked ≡ Some said)

abbrev pub IsSaidAt : RequestEnd → Asked → ℕ → Said → Type 0
IsSaidAt (fate.Told o) asked device said = IsSaidBy o asked device said
IsSaidAt fate.Lost asked device said = ⊥

-- by what became of the request that was under way, if one was; or by nothing yet
abbrev pub IsSaidIf : Option Asked → Option RequestEnd → ℕ → Said → Type 0
IsSaidIf None f device said = ⊥
IsSaidIf (Some asked) None device said = ⊥
IsSaidIf (Some asked) (Some f) device said = IsSaidAt f asked device said

-- ---- over all calls

-- A device said this: last, or last before its map was found.
abbrev pub IsKept : Identities → ℕ → Said → Type 0
IsKept ids device said = (said_of ids device ≡ Some said) ⊎ (found_of ids device ≡ Some said)

-- What devices have to say stays; what is kept of what they said now was so then too.
pub record IsWithin (first ids : Identities) : Type 0 where
  pub wanted : ids.wanted ≡ first.wanted
  pub each : (device : ℕ) (said : Said) → IsKept ids device said → IsKept first device said

-- What is kept of what they said was so before; or it is just what this says that is said now.
pub record SaysMoreBy (Says : ℕ → Said → Type 0) (old new : Identities) : Type 0 where
  pub wanted : new.wanted ≡ old.wanted
  pub each : (device : ℕ) (said : Said) → IsKept new device said → IsKept old device said ⊎ Says device said

-- The device said over the connection with this number that it is the one that it has to be, if it has to say so.
abbrev pub IsIdentified : Identities → (device number : ℕ) → Type 0
IsIdentified ids device number = (identity : Identity) → wanted_of ids device ≡ Some identity
    → (said : Said) × IsKept ids device said × (said.number ≡ number) × (is_said_by identity said.words ≡ true)

-- A device had said so when its map was found.
abbrev pub had_said : Identities → (device number : ℕ) → Identity → Bool
had_said ids device number identity = option_map_or (is_said identity number) (found_of ids device) false

-- Each device whose map was found over a connection had said so over that very connection.
abbrev pub AreRight : Identities → List (Option ℕ) → Type 0
AreRight ids found_on = (device number : ℕ) → IsFoundOn found_on number device → (identity : Identity) → wanted_of ids device ≡ Some identity → had_said ids device number identity ≡ true

-- ---- what is written

abbrev pub IsWriteRequest : Request → Type 0
IsWriteRequest (request.Read addr qty) = ⊥
IsWriteRequest (request.WriteOne addr value) = ⊤
IsWriteRequest (request.WriteMany addr words) = ⊤

-- What goes out as a write over a connection, by any state that a service comes to, goes to a device that said over this very
-- connection that it is the one that the site file says, where that says which one it is.
abbrev pub WritesGoToTheRightDevice : Type 0
WritesGoToTheRightDevice = (core : Gateway) (stations : List Station) (found_on : List (Option ℕ)) (ids : Identities) (link number : ℕ) (made_for : Aim) (device : ℕ) (frame : FrameRequest)
    → AreRight ids found_on → IsMade core stations found_on link number made_for device frame → IsWriteRequest frame.request → IsIdentified ids device number
