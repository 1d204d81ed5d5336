-- Bytes that are sent over a link, and frames that come over it (MODBUS Messaging on TCP/IP Implementation Guide,
-- section 4.2).
use Rattle.std.specs.Prelude.{◌≡◌, ℕ, ◌<◌, ◌≤◌, List, [], ◌++◌, length, take, ⊤, Option, None, Some, Result, Ok, Err, MatchResult}
use Rattle.std.specs.Io.KnownBytes.{Appends, Keeps, Consumes, IsAtEnd, prepend_known}
use Rattle.modbus_frame.specs.declared.fault.FrameFault.{FrameFault}
use Rattle.modbus_frame.specs.declared.frame.Frame.{Frame}
use Rattle.modbus_frame.specs.declared.link.Down.{Down}
use Rattle.modbus_frame.specs.declared.link.LinkFault.{LinkFault}
use Rattle.modbus_frame.specs.declared.link.LinkFault.TheVariants as fault
use Rattle.modbus_frame.specs.Frame.{frame_bytes, IsFrame, IsRest, IsFaulty}
use Rattle.modbus_frame.specs.Framing.{empty}
use Rattle.modbus_frame.specs.Link.{Failures, FailsBy}
use Rattle.modbus_frame.specs.Reading.{Reading}

-- All of the bytes are sent, or with a fault a front of them, and some are left.
abbrev pub SendsFront : Option (List ℕ) → Option (List ℕ) → Result (Unit {0}) LinkFault → List ℕ → Type 0
SendsFront old new (Ok _) bytes = Appends old new bytes
SendsFront old new (Err _) bytes = (n : ℕ) × (n < length bytes) × Appends old new (take n bytes)

-- A write failed, or no turn was left; there is no other fault.
abbrev pub CountsSent : Failures → Failures → Result (Unit {0}) LinkFault → ℕ → Type 0
CountsSent old new (Ok _) turns = FailsBy 0 0 0 old new
CountsSent old new (Err fault.Read) turns = ⊥
CountsSent old new (Err fault.Write) turns = FailsBy 0 1 0 old new
CountsSent old new (Err (fault.Frame _)) turns = ⊥
CountsSent old new (Err fault.End) turns = ⊥
CountsSent old new (Err fault.Turns) turns = FailsBy 0 0 0 old new × (turns ≡ 0)
CountsSent old new (Err fault.OutOfMemory) turns = ⊥

-- What is left of the stream after its last frame, where the link tells what is to come.
abbrev pub left : Reading → Option (List ℕ) → Option (List ℕ)
left r coming = prepend_known (r.held.kept ++ r.unfed) coming

-- One feed of all that was read: a frame, less than one, or a fault.
abbrev pub FeedsUnfed : Reading → Result (Option Frame) FrameFault → Reading → Type 0
FeedsUnfed old (Ok (Some frame)) new = IsFrame frame × (old.held.kept ++ old.unfed ≡ frame_bytes frame ++ new.unfed) × (new.held ≡ empty) × (length new.unfed ≤ 260)
FeedsUnfed old (Ok None) new = IsRest (old.held.kept ++ old.unfed) × (new.held ≡ record { kept = old.held.kept ++ old.unfed; fault = None }) × (new.unfed ≡ [])
FeedsUnfed old (Err f) new = IsFaulty f (old.held.kept ++ old.unfed) × (new.held ≡ record { kept = []; fault = Some f })

-- One read where all that came before is fed: none only at the end of the stream.
abbrev pub Refills : Option (List ℕ) → Option (List ℕ) → Result ℕ Down → List ℕ → Type 0
Refills old new result unfed = MatchResult result (λ n. Consumes old new unfed × (n ≡ length unfed) × (n ≡ 0 → IsAtEnd new)) (λ _. Keeps old new × (unfed ≡ []))

-- What is known to be left begins as no frame does.
abbrev pub KnownIsFaulty : FrameFault → Option (List ℕ) → Type 0
KnownIsFaulty f None = ⊤
KnownIsFaulty f (Some bytes) = IsFaulty f bytes

-- What is known to be left ends inside a frame.
abbrev pub KnownIsCut : Option (List ℕ) → Type 0
KnownIsCut None = ⊤
KnownIsCut (Some bytes) = IsRest bytes × (0 < length bytes)

-- All that was read is fed: it is less than a frame, and may still become one.
abbrev pub HoldsRest : Reading → Type 0
HoldsRest r = IsRest r.held.kept × (r.held.fault ≡ None) × (r.unfed ≡ [])

-- The next frame of the stream, or none where nothing is left of it; at most a buffer of bytes is read ahead. A stream
-- that begins as no frame, or ends inside one, is told so; with any other fault nothing is lost, and no frame is in hand.
abbrev pub ReadsNext : Option (List ℕ) → Option (List ℕ) → Result (Option Frame) LinkFault → Reading → Type 0
ReadsNext old new (Ok (Some frame)) r = IsFrame frame × Consumes old new (frame_bytes frame) × (r.held ≡ empty) × (length r.unfed ≤ 260)
ReadsNext old new (Ok None) r = IsAtEnd old × IsAtEnd new × (r.held ≡ empty)
ReadsNext old new (Err fault.Read) r = Keeps old new × HoldsRest r
ReadsNext old new (Err fault.Write) r = ⊥
ReadsNext old new (Err (fault.Frame f)) r = KnownIsFaulty f old × (r.held ≡ record { kept = []; fault = Some f })
ReadsNext old new (Err fault.End) r = KnownIsCut old × Keeps old new × HoldsRest r
ReadsNext old new (Err fault.Turns) r = Keeps old new × HoldsRest r
ReadsNext old new (Err fault.OutOfMemory) r = ⊥

-- A read failed, or gave nothing, exactly where the result says so, and no turn is left where it says that.
abbrev pub CountsReceived : Failures → Failures → Result (Option Frame) LinkFault → ℕ → Type 0
CountsReceived old new (Ok (Some _)) turns = FailsBy 0 0 0 old new
CountsReceived old new (Ok None) turns = FailsBy 0 0 1 old new
CountsReceived old new (Err fault.Read) turns = FailsBy 1 0 0 old new
CountsReceived old new (Err fault.Write) turns = ⊥
CountsReceived old new (Err (fault.Frame _)) turns = FailsBy 0 0 0 old new
CountsReceived old new (Err fault.End) turns = FailsBy 0 0 1 old new
CountsReceived old new (Err fault.Turns) turns = FailsBy 0 0 0 old new × (turns ≡ 0)
CountsReceived old new (Err fault.OutOfMemory) turns = ⊥
