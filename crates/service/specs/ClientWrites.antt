-- What clients' frames ask to be written, and what becomes of it (Modbus Application Protocol V1.1b3, sections 6.6, 6.12 and 7).
use Rattle.std.specs.Prelude.{◌≡◌, ℕ, nat_le, nat_lt, Bool, List, [], ◌∷◌, ◌++◌, drop, length, slice_index, Option, None, Some, Result, Ok, Err, if◌then◌else◌}
use Rattle.modbus_frame.specs.declared.frame.Frame.{Frame}
use Rattle.modbus_frame.specs.declared.message.Exception.{Exception}
use Rattle.modbus_frame.specs.declared.message.Request.{Request}
use Rattle.modbus_frame.specs.Bytes.{number}
use Rattle.modbus_frame.specs.Message.{request_of}
use Rattle.service_requests.specs.Guarding.{is_write}
use Rattle.service_requests.specs.Sessions.{Turn}
use Rattle.service_parts.specs.declared.client_place.ClientPlace.{ClientPlace}
use Rattle.service_parts.specs.Clients.{Hears}
use Rattle.service.specs.declared.client_writes.ClientWrite.{ClientWrite}
use Rattle.service.specs.declared.client_writes.WriteOutcome.{WriteOutcome}
use Rattle.service.specs.declared.client_writes.WriteOutcome.TheVariants.{Done, Refused}

-- ---- one write

-- what became of a write, by the message that answers it: an exception is a function with 0x80 added, and a code after it
abbrev pub outcome_by : List ℕ → WriteOutcome
outcome_by (function ∷ code ∷ rest) = if nat_le 128 function then Refused (record { 0 = code }) else Done
outcome_by (function ∷ []) = Done
outcome_by [] = Done

-- the first register that a message is for: the two bytes after its function
abbrev pub address_in : List ℕ → Option ℕ
address_in (function ∷ high ∷ low ∷ rest) = Some (number high low)
address_in (function ∷ high ∷ []) = None
address_in (function ∷ []) = None
address_in [] = None

abbrev pub request_by : Result Request Exception → Option Request
request_by (Ok request) = Some request
request_by (Err exception) = None

-- the request that a message is
abbrev pub request_in : List ℕ → Option Request
request_in asked = request_by (request_of asked)

-- the write that a message asks for, of which this became
abbrev pub write_of : (asked : List ℕ) → WriteOutcome → ClientWrite
write_of asked outcome = record {
  function = slice_index asked 0;
  address = address_in asked;
  request = request_in asked;
  outcome = outcome;
}

-- the write that a message asks for and another one answers
abbrev pub write_by : (asked reply : List ℕ) → ClientWrite
write_by asked reply = write_of asked (outcome_by reply)

-- ---- the writes of a turn

-- one more, where there is room for it
abbrev pub with_write : ClientWrite → List ClientWrite → List ClientWrite
with_write write writes = if nat_lt (length writes) 8 then writes ++ write ∷ [] else writes

-- the message in the bytes of a frame, after the seven of its header
abbrev pub message_in : List ℕ → List ℕ
message_in bytes = drop 7 bytes

-- The writes so far after a frame that was answered by these bytes: where it asks for a write that is told, and else nothing is.
abbrev pub writes_after : Frame → List ℕ → List ClientWrite → List ClientWrite
writes_after frame bytes writes = if is_write frame.pdu then with_write (write_by frame.pdu (message_in bytes)) writes else writes

-- what is told of a frame that was answered by these bytes
abbrev pub told_of : Frame → List ℕ → List ClientWrite
told_of frame bytes = if is_write frame.pdu then write_by frame.pdu (message_in bytes) ∷ [] else []

-- `Answers` says which bytes answer a frame, whether more may be answered after them, and what that leaves.
module _ {S : Type 0} (Answers : S → Frame → List ℕ → Bool → S → Type 0) where
  -- These are the writes that the frames of these turns asked for, in order, each with what became of it.
  abbrev pub AreWrites : List (Turn S) → List ClientWrite → Type 0
  AreWrites [] writes = writes ≡ []
  AreWrites (turn ∷ turns) writes = (bytes : List ℕ) × (goes_on : Bool) × (more : List ClientWrite) × Answers turn.before turn.frame bytes goes_on turn.after × (writes ≡ told_of turn.frame bytes ++ more) × AreWrites turns more

  -- A client's bytes are taken, and its frames answered; and these are the writes that they asked for.
  pub record HearsWrites (now : ℕ) (s : S) (old : ClientPlace) (bytes : List ℕ) (t : S) (new : ClientPlace) (writes : List ClientWrite) : Type 0 where
    pub hears : Hears Answers now s old bytes t new
    pub told : AreWrites hears.turns writes
