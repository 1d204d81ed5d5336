-- What goes out to a device: frames of the requests that it may be asked, and nothing else
-- (MODBUS Messaging on TCP/IP Implementation Guide, sections 3.1.3 and 4.4.1).
use Rattle.std.specs.Prelude.{◌≡◌, ◌⊎◌, ℕ, List, [], ◌∷◌, ◌++◌, ⊤, Option, None, Some, slice_get}
use Rattle.modbus_frame.specs.declared.message.Request.{Request}
use Rattle.modbus_frame.specs.declared.message.Request.TheVariants as request
use Rattle.modbus_frame.specs.Message.{address_of}
use Rattle.modbus_frame.specs.Frame.{frame_bytes}
use Rattle.gateway.specs.event_core.Core.{Gateway}
use Rattle.gateway.specs.poller.LinkRun.{Asked as FrameRequest, frame_of}
use Rattle.service_requests.specs.declared.search.SearchStep.TheVariants as step
use Rattle.service_requests.specs.Hearing.{Wait}
use Rattle.service_parts.specs.declared.limits.Station.{Station}
use Rattle.service_parts.specs.declared.device_connection.DeviceConnection.{DeviceConnection}
use Rattle.service_parts.specs.declared.connections.Connections.{Connections}
use Rattle.service_parts.specs.declared.asked.Aim.{Aim}
use Rattle.service_parts.specs.declared.asked.Aim.TheVariants as aim
use Rattle.service_parts.specs.declared.asked.Asked.{Asked}
use Rattle.service_parts.specs.Calls.{IsCallFor}
use Rattle.service_parts.specs.Course.{GoesOn, Reached}
use Rattle.service_parts.specs.Seeking.{IsSought}

-- It reads that wanted block of the device, or writes the set point of that output to it, by this state of the core.
pub record IsOfRound (core : Gateway) (made_for : Aim) (device : ℕ) (request : Request) : Type 0 where
  pub unit : ℕ
  pub call : IsCallFor core made_for device (record { unit = unit; request = request })

-- The device's map was found over the connection with this number.
abbrev pub IsFoundOn : List (Option ℕ) → ℕ → ℕ → Type 0
IsFoundOn found_on number device = slice_get found_on device ≡ Some (Some number)

-- Over the connection with this number: a request of a round, where the device's map was found over this very connection,
-- or the next read of a search for the device's map.
abbrev pub MayBeAsked : Gateway → List (Option ℕ) → ℕ → Aim → ℕ → Request → Type 0
MayBeAsked core found_on number made_for device request = (IsOfRound core made_for device request × IsFoundOn found_on number device) ⊎ ((made_for ≡ aim.Map) × IsSought core.site device (step.Ask request))

-- A request that the device may be asked over the connection with this number, by a state of the core from which events,
-- learned maps and programs that were put in led to the one of now. The device's station is on this link, and the request is for its unit there.
pub record IsMade (now : Gateway) (stations : List Station) (found_on : List (Option ℕ)) (link number : ℕ) (made_for : Aim) (device : ℕ) (frame : FrameRequest) : Type 0 where
  pub station : slice_get stations device ≡ Some (record { link = link; unit = frame.unit })
  pub core : Gateway
  pub reached : Reached core
  pub since : GoesOn core now
  pub asked : MayBeAsked core found_on number made_for device frame.request

-- These bytes are the rest of the frame of such a request.
pub record IsRest (now : Gateway) (stations : List Station) (found_on : List (Option ℕ)) (link number : ℕ) (bytes : List ℕ) : Type 0 where
  pub device : ℕ
  pub made_for : Aim
  pub frame : FrameRequest
  pub made : IsMade now stations found_on link number made_for device frame
  pub gone : List ℕ
  pub whole : gone ++ bytes ≡ frame_bytes (frame_of frame)

abbrev pub IsRightful : Gateway → List Station → List (Option ℕ) → ℕ → ℕ → List ℕ → Type 0
IsRightful now stations found_on link number bytes = (bytes ≡ []) ⊎ IsRest now stations found_on link number bytes

-- the words that a request writes; none where it reads
abbrev pub words_of : Request → List ℕ
words_of (request.Read addr qty) = []
words_of (request.WriteOne addr value) = value ∷ []
words_of (request.WriteMany addr words) = words

-- The request that is under way on a line is such a one, of the device, for the wanted block or the output, and of the registers
-- from the address on that it is noted with, and writes the words that it is noted with. Its connection is that with this number,
-- and what waits is the rest of its frame.
pub record IsNoted (now : Gateway) (stations : List Station) (found_on : List (Option ℕ)) (link number : ℕ) (asked : Asked) (line : DeviceConnection) : Type 0 where
  pub over : asked.number ≡ number
  pub wait : Wait
  pub waits : line.pending.wait ≡ Some wait
  pub made : IsMade now stations found_on link number asked.aim asked.device wait.asked
  pub address : asked.address ≡ address_of wait.asked.request
  pub words : asked.words ≡ words_of wait.asked.request
  pub gone : List ℕ
  pub whole : gone ++ line.out.items ≡ frame_bytes (frame_of wait.asked)

abbrev pub IsNotedIf : Gateway → List Station → List (Option ℕ) → ℕ → ℕ → Option Asked → DeviceConnection → Type 0
IsNotedIf now stations found_on link number None line = ⊤
IsNotedIf now stations found_on link number (Some asked) line = IsNoted now stations found_on link number asked line

-- What waits on a line is the rest of a rightful frame, and what is noted of the request that is under way is so.
pub record IsRightfulLine (now : Gateway) (stations : List Station) (found_on : List (Option ℕ)) (link number : ℕ) (line : DeviceConnection) : Type 0 where
  pub waits : IsRightful now stations found_on link number line.out.items
  pub noted : IsNotedIf now stations found_on link number line.asked line

-- Each link's line is so, by the number of the connection that it has now.
abbrev pub AreRightful : Gateway → List Station → List ℕ → List (Option ℕ) → List DeviceConnection → Type 0
AreRightful now stations numbers found_on lines =
    (link number : ℕ) (line : DeviceConnection) → slice_get numbers link ≡ Some number → slice_get lines link ≡ Some line → ∥ IsRightfulLine now stations found_on link number line ∥₁

abbrev pub IsRightfulOn : Gateway → Connections → ℕ → List ℕ → Type 0
IsRightfulOn now lines link bytes =
    (number : ℕ) → slice_get lines.links.numbers.items link ≡ Some number → ∥ IsRightful now lines.links.stations.items lines.found_on.items link number bytes ∥₁

abbrev pub AreRightfulBy : Gateway → Connections → Type 0
AreRightfulBy now lines = AreRightful now lines.links.stations.items lines.links.numbers.items lines.found_on.items lines.lines.items

-- What was rightful, by whatever state, stays so.
abbrev pub StayRightful : Connections → Connections → Type 0
StayRightful old new = (now : Gateway) → AreRightfulBy now old → AreRightfulBy now new

-- It may be asked over the connection that a link has now.
abbrev pub MayGoOver : Gateway → List ℕ → List (Option ℕ) → ℕ → Aim → ℕ → Request → Type 0
MayGoOver core numbers found_on link made_for device request = (number : ℕ) → slice_get numbers link ≡ Some number → ∥ MayBeAsked core found_on number made_for device request ∥₁
