-- A request over a link: what comes of it for the frames that come back, and several requests one after another (MODBUS
-- Messaging on TCP/IP Implementation Guide, sections 3.1.3 and 4.4.1; Modbus Application Protocol V1.1b3, section 4.1).
use Rattle.std.specs.Prelude.{◌≡◌, ℕ, zero, suc, ◌+◌, ◌==◌, Bool, ◌&&◌, List, [], ◌∷◌, ◌++◌, ⊤, Option, None, Some, Result, Ok, Err, if◌then◌else◌}
use Rattle.std.specs.List.{flat_map, AllByRecursion}
use Rattle.modbus_frame.specs.declared.frame.Frame.{Frame}
use Rattle.modbus_frame.specs.declared.message.Request.{Request}
use Rattle.modbus_frame.specs.declared.message.Response.{Response}
use Rattle.modbus_frame.specs.declared.message.Response.TheVariants as response
use Rattle.modbus_frame.specs.declared.message.ReplyFault.{ReplyFault}
use Rattle.modbus_frame.specs.declared.message.ReplyFault.TheVariants as fault
use Rattle.modbus_frame.specs.Frame.{frame_bytes, IsFrame}
use Rattle.modbus_frame.specs.Message.{request_bytes, response_of, IsResponseTo}
use Rattle.gateway.specs.declared.poller.outcome.Outcome.{Outcome}
use Rattle.gateway.specs.declared.poller.outcome.Outcome.TheVariants as outcome

-- ---- one request

-- A request as it goes out: its transaction, the unit that it asks.
pub record Asked : Type 0 where
  pub id : ℕ
  pub unit : ℕ
  pub request : Request

-- its frame
abbrev pub frame_of : Asked → Frame
frame_of asked = record { transaction = asked.id; unit = asked.unit; pdu = request_bytes asked.request }

-- A frame with the transaction and the unit of the request is its reply; any other one is dropped.
abbrev pub is_reply : Asked → Frame → Bool
is_reply asked frame = frame.transaction == asked.id && frame.unit == asked.unit

-- what a reply says
abbrev pub outcome_by : Result Response ReplyFault → Outcome
outcome_by (Ok (response.Words words)) = outcome.Words words
outcome_by (Ok response.Wrote) = outcome.Wrote
outcome_by (Err (fault.Exception e)) = outcome.Exception e
outcome_by (Err fault.Mismatch) = outcome.Mismatch

-- Words come for a request that reads as many, and an acknowledgement for one that writes.
abbrev pub Suits : Request → Outcome → Type 0
Suits request (outcome.Words words) = IsResponseTo request (response.Words words)
Suits request outcome.Wrote = IsResponseTo request response.Wrote
Suits request (outcome.Exception e) = ⊤
Suits request outcome.Mismatch = ⊤
Suits request outcome.Stale = ⊤

-- an outcome, and the frames that came after the one that decided it
pub record Decided : Type 0 where
  pub outcome : Outcome
  pub behind : List Frame

-- The outcome of a request over a list of frames, where so many dropped ones make it stale; none where no frame decides it.
abbrev pub decided_within : Asked → ℕ → List Frame → Option Decided
decided_within asked zero frames = Some (record { outcome = outcome.Stale; behind = frames })
decided_within asked (suc more) [] = None
decided_within asked (suc more) (frame ∷ frames) =
    if is_reply asked frame then Some (record { outcome = outcome_by (response_of asked.request frame.pdu); behind = frames }) else decided_within asked more frames

-- The 17th dropped frame makes a request stale.
abbrev pub most_dropped : ℕ
most_dropped = 17

abbrev pub decided_by : Asked → List Frame → Option Decided
decided_by asked frames = decided_within asked most_dropped frames

-- These frames, and none after them, give the request this outcome.
abbrev pub IsDecided : Asked → List Frame → Outcome → Type 0
IsDecided asked frames o = AllByRecursion IsFrame frames × (decided_by asked frames ≡ Some (record { outcome = o; behind = [] }))

-- These frames don't decide it yet.
abbrev pub IsOpen : Asked → List Frame → Type 0
IsOpen asked frames = AllByRecursion IsFrame frames × (decided_by asked frames ≡ None)

-- ---- one request after another

-- The transaction of the next request: 65535 is followed by 0.
abbrev pub next_id : ℕ → ℕ
next_id id = if id == 65535 then 0 else id + 1

-- a request to a unit, the frames that came for it, and its outcome
pub record Exchange : Type 0 where
  pub unit : ℕ
  pub request : Request
  pub frames : List Frame
  pub outcome : Outcome

-- its request, with this transaction
abbrev pub asked_in : ℕ → Exchange → Asked
asked_in id e = record { id = id; unit = e.unit; request = e.request }

-- From this transaction on, each request has its outcome by its frames.
abbrev pub AreDecided : ℕ → List Exchange → Type 0
AreDecided id [] = ⊤
AreDecided id (e ∷ es) = IsDecided (asked_in id e) e.frames e.outcome × AreDecided (next_id id) es

-- what goes out for them
abbrev pub bytes_out : ℕ → List Exchange → List ℕ
bytes_out id [] = []
bytes_out id (e ∷ es) = frame_bytes (frame_of (asked_in id e)) ++ bytes_out (next_id id) es

-- what comes in for them
abbrev pub bytes_in : List Exchange → List ℕ
bytes_in es = flat_map (λ e. flat_map frame_bytes e.frames) es

-- the transaction of the request after them
abbrev pub id_after : ℕ → List Exchange → ℕ
id_after id [] = id
id_after id (e ∷ es) = id_after (next_id id) es
