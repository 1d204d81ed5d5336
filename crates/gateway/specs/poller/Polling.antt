-- What requests over a link do to it (MODBUS Messaging on TCP/IP Implementation Guide, section 4.2).
use Rattle.std.specs.Prelude.{◌≡◌, ◌⊎◌, ℕ, ◌<◌, List, length, take, Option, None, Some, Result, Ok, Err}
use Rattle.std.specs.Io.KnownBytes.{Keeps, Appends, Consumes, IsAtEnd, prepend_known}
use Rattle.std.specs.List.{flat_map}
use Rattle.modbus_frame.specs.declared.frame.Frame.{Frame}
use Rattle.modbus_frame.specs.declared.link.LinkFault.{LinkFault}
use Rattle.modbus_frame.specs.declared.link.LinkFault.TheVariants as link
use Rattle.modbus_frame.specs.declared.message.Request.{Request}
use Rattle.modbus_frame.specs.Exchange.{KnownIsFaulty, KnownIsCut}
use Rattle.modbus_frame.specs.Frame.{frame_bytes}
use Rattle.modbus_frame.specs.Link.{Failures, FailsBy, FailsWith}
use Rattle.modbus_frame.specs.Serving.{IsInPart}
use Rattle.gateway.specs.declared.poller.outcome.Outcome.{Outcome}
use Rattle.gateway.specs.poller.LinkRun.{Asked, frame_of, next_id, IsDecided, IsOpen, Exchange, AreDecided, bytes_out, bytes_in, id_after}

-- What contracts see of a poller: the bytes that it read ahead, after the last frame. Of its link, where that tells
-- them: the bytes that it has still to give, the bytes sent, what went wrong and how many calls were made. Then the
-- transaction of the next request, and the fault that ended its work.
pub record Polling : Type 0 where
  pub ahead : List ℕ
  pub coming : Option (List ℕ)
  pub sent : Option (List ℕ)
  pub failures : Failures
  pub calls : Option ℕ
  pub id : ℕ
  pub fault : Option LinkFault

-- the bytes after the last frame: those that were read ahead, and those to come
abbrev pub stream : Polling → Option (List ℕ)
stream p = prepend_known p.ahead p.coming

-- the next request
abbrev pub asked_next : Polling → ℕ → Request → Asked
asked_next p unit request = record { id = p.id; unit = unit; request = request }

-- ---- one request

-- The request went out, and the frames that came gave it this outcome; bytes after them stay.
pub record Decides (p : Polling) (unit : ℕ) (request : Request) (outcome : Outcome) (q : Polling) : Type 0 where
  pub frames : List Frame
  pub decided : IsDecided (asked_next p unit request) frames outcome
  pub came : Consumes (stream p) (stream q) (flat_map frame_bytes frames)
  pub went : Appends p.sent q.sent (frame_bytes (frame_of (asked_next p unit request)))
  pub failures : FailsBy 0 0 0 p.failures q.failures
  pub id : q.id ≡ next_id p.id
  pub fault : q.fault ≡ None

-- A front of the request went out, not all, and nothing was read for it.
pub record BreaksOff (p : Polling) (unit : ℕ) (request : Request) (q : Polling) : Type 0 where
  pub len : ℕ
  pub front : len < length (frame_bytes (frame_of (asked_next p unit request)))
  pub went : Appends p.sent q.sent (take len (frame_bytes (frame_of (asked_next p unit request))))
  pub ahead : q.ahead ≡ p.ahead
  pub coming : Keeps p.coming q.coming

-- Why no frame more was read: what is left of the stream is no frame, it ended inside one or before the reply, or what
-- came of it is less than a frame.
abbrev pub EndsWaiting : LinkFault → Option (List ℕ) → List ℕ → Option (List ℕ) → Type 0
EndsWaiting (link.Frame f) left ahead coming = KnownIsFaulty f left
EndsWaiting link.End left ahead coming = KnownIsCut left ⊎ IsAtEnd left
EndsWaiting link.Read left ahead coming = IsInPart left ahead coming
EndsWaiting link.Turns left ahead coming = IsInPart left ahead coming
EndsWaiting link.Write left ahead coming = ⊥
EndsWaiting link.OutOfMemory left ahead coming = ⊥

-- The request went out, the frames that came don't decide it, and no other one came.
pub record StaysOpen (p : Polling) (unit : ℕ) (request : Request) (fault : LinkFault) (q : Polling) : Type 0 where
  pub frames : List Frame
  pub left : Option (List ℕ)
  pub undecided : IsOpen (asked_next p unit request) frames
  pub came : Consumes (stream p) left (flat_map frame_bytes frames)
  pub went : Appends p.sent q.sent (frame_bytes (frame_of (asked_next p unit request)))
  pub ends : EndsWaiting fault left q.ahead q.coming

-- A write fails before all went out, a read after that, and turns run out before or after.
abbrev pub FailsAt : LinkFault → Polling → ℕ → Request → Polling → Type 0
FailsAt link.Write p unit request q = BreaksOff p unit request q
FailsAt link.Turns p unit request q = BreaksOff p unit request q ⊎ StaysOpen p unit request link.Turns q
FailsAt link.Read p unit request q = StaysOpen p unit request link.Read q
FailsAt (link.Frame f) p unit request q = StaysOpen p unit request (link.Frame f) q
FailsAt link.End p unit request q = StaysOpen p unit request link.End q
FailsAt link.OutOfMemory p unit request q = ⊥

-- The link failed at the request, and the fault is kept.
pub record Fails (p : Polling) (unit : ℕ) (request : Request) (fault : LinkFault) (q : Polling) : Type 0 where
  pub cause : FailsAt fault p unit request q
  pub failures : FailsWith fault p.failures q.failures
  pub kept : q.fault ≡ Some fault

-- the fault that a request leaves
abbrev pub fault_of : {T : Type 0} → Result T LinkFault → Option LinkFault
fault_of (Ok _) = None
fault_of (Err fault) = Some fault

-- One request: its outcome, or the fault.
abbrev pub Asks : Polling → ℕ → Request → Result Outcome LinkFault → Polling → Type 0
Asks p unit request (Ok outcome) q = Decides p unit request outcome q
Asks p unit request (Err fault) q = Fails p unit request fault q

-- With `Turns` no read or write is left.
abbrev pub UsesUp : {T : Type 0} → Result T LinkFault → ℕ → Type 0
UsesUp result turns = result ≡ Err link.Turns → turns ≡ 0

-- ---- one request after another

-- These requests went out, one after another, each decided by the frames that came for it.
pub record Talks (p : Polling) (es : List Exchange) (q : Polling) : Type 0 where
  pub decided : AreDecided p.id es
  pub came : Consumes (stream p) (stream q) (bytes_in es)
  pub went : Appends p.sent q.sent (bytes_out p.id es)
  pub failures : FailsBy 0 0 0 p.failures q.failures
  pub id : q.id ≡ id_after p.id es
  pub fault : q.fault ≡ None
