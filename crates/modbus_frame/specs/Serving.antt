-- Answering the frames that come over a link, one after another (MODBUS Messaging on TCP/IP Implementation Guide, section
-- 4.4.2).
use Rattle.std.specs.Prelude.{◌≡◌, ◌⊎◌, ℕ, zero, suc, ◌+◌, ◌-◌, ◌<◌, ◌≤◌, Bool, true, false, List, [], ◌++◌, length, take, ⊤, Option, Result, Ok, Err, OnOk, IfOk}
use Rattle.std.specs.Io.KnownBytes.{Keeps, Appends, Consumes, IsAtEnd, prepend_known}
use Rattle.std.specs.List.{flat_map, AllByRecursion}
use Rattle.modbus_frame.specs.declared.frame.Frame.{Frame}
use Rattle.modbus_frame.specs.declared.link.LinkFault.{LinkFault}
use Rattle.modbus_frame.specs.declared.link.LinkFault.TheVariants as link
use Rattle.modbus_frame.specs.Exchange.{SendsFront, CountsSent, KnownIsFaulty, KnownIsCut}
use Rattle.modbus_frame.specs.Frame.{frame_bytes, IsFrame, IsRest}
use Rattle.modbus_frame.specs.Link.{LinkState, CountsBy, FailsBy, FailsWith}
use Rattle.modbus_frame.specs.Served.{Answered}

-- ---- one answer

-- the bytes that go out for a frame, and whether more frames may be answered after it
pub record ReplyBytes : Type 0 where
  pub bytes : List ℕ
  pub goes_on : Bool

-- bytes, so many times
abbrev pub copies : ℕ → List ℕ → List ℕ
copies zero bytes = []
copies (suc n) bytes = bytes ++ copies n bytes

-- Bytes are sent by at most so many writes; some, if there are bytes. Nothing is read.
pub record Sends (a b : LinkState) (result : Result (Unit {0}) LinkFault) (bytes : List ℕ) (turns spare : ℕ) : Type 0 where
  pub sends : SendsFront a.sent b.sent result bytes
  pub keeps : Keeps a.coming b.coming
  pub failed : CountsSent a.failures b.failures result spare
  pub called : CountsBy (turns - spare) a.calls b.calls
  pub within : spare ≤ turns
  pub used : OnOk result (0 < length bytes → spare < turns)

-- ---- why nothing more is answered

-- Of what is left these bytes came, less than a frame, and all others the link has still to give.
abbrev pub IsInPart : Option (List ℕ) → List ℕ → Option (List ℕ) → Type 0
IsInPart left rest coming = IsRest rest × Keeps left (prepend_known rest coming)

abbrev pub CameInPart : Option (List ℕ) → Option (List ℕ) → Type 0
CameInPart left coming = (rest : List ℕ) × IsInPart left rest coming

-- What is left of the stream begins as no frame, or it ends inside one, or a read failed, or no turn was left for one.
abbrev pub EndsReading : LinkFault → Option (List ℕ) → Option (List ℕ) → Type 0
EndsReading (link.Frame f) left coming = KnownIsFaulty f left
EndsReading link.End left coming = KnownIsCut left × CameInPart left coming
EndsReading link.Read left coming = CameInPart left coming
EndsReading link.Turns left coming = CameInPart left coming
EndsReading link.Write left coming = ⊥
EndsReading link.OutOfMemory left coming = ⊥

-- Only these end a reply.
abbrev pub EndsReplying : LinkFault → Type 0
EndsReplying link.Write = ⊤
EndsReplying link.Turns = ⊤
EndsReplying other = ⊥

-- A frame is next in what is left, and at most a buffer of bytes was read ahead after it.
pub record ComesNext (left : Option (List ℕ)) (frame : Frame) (coming : Option (List ℕ)) : Type 0 where
  pub is_frame : IsFrame frame
  pub ahead : List ℕ
  pub few : length ahead ≤ 260
  pub came : Consumes left (prepend_known ahead coming) (frame_bytes frame)

-- ---- the answered stream

-- `Answers` says which bytes answer a frame, whether more may be answered after them, and what that leaves.
module _ {S : Type 0} (Answers : S → Frame → List ℕ → Bool → S → Type 0) where
  -- an answer after which more frames may be answered
  abbrev pub GoesOn : S → Frame → List ℕ → S → Type 0
  GoesOn s frame bytes t = Answers s frame bytes true t

  -- These frames came and were answered; so much is left of the stream.
  pub record HasServed (coming left sent now : Option (List ℕ)) (s t : S) : Type 0 where
    pub frames : List Frame
    pub out : List ℕ
    pub each : AllByRecursion IsFrame frames
    pub answered : Answered GoesOn s frames out t
    pub came : Consumes coming left (flat_map frame_bytes frames)
    pub went : Appends sent now out

  -- All frames of the stream were answered, and it ended.
  pub record ServesAll (a b : LinkState) (s t : S) (served : ℕ) : Type 0 where
    pub left : Option (List ℕ)
    pub done : HasServed a.coming left a.sent b.sent s t
    pub ended : IsAtEnd left
    pub failures : FailsBy 0 0 1 a.failures b.failures
    pub number : served ≡ length done.frames

  -- Frames were answered, and after the answer to the next one no more may be.
  pub record ServesLast (a b : LinkState) (s t : S) (served : ℕ) : Type 0 where
    pub left : Option (List ℕ)
    pub now : Option (List ℕ)
    pub middle : S
    pub done : HasServed a.coming left a.sent now s middle
    pub frame : Frame
    pub next : ComesNext left frame b.coming
    pub bytes : List ℕ
    pub answers : Answers middle frame bytes false t
    pub went : Appends now b.sent bytes
    pub failures : FailsBy 0 0 0 a.failures b.failures
    pub number : served ≡ length done.frames + 1

  -- Frames were answered, and no other one came.
  pub record StopsReading (a b : LinkState) (s t : S) (fault : LinkFault) : Type 0 where
    pub left : Option (List ℕ)
    pub done : HasServed a.coming left a.sent b.sent s t
    pub ends : EndsReading fault left b.coming
    pub failures : FailsWith fault a.failures b.failures

  -- Frames were answered, and of the answer to the next one a front went out, not all.
  pub record StopsReplying (a b : LinkState) (s t : S) (fault : LinkFault) : Type 0 where
    pub left : Option (List ℕ)
    pub now : Option (List ℕ)
    pub middle : S
    pub done : HasServed a.coming left a.sent now s middle
    pub frame : Frame
    pub next : ComesNext left frame b.coming
    pub bytes : List ℕ
    pub goes_on : Bool
    pub answers : Answers middle frame bytes goes_on t
    pub len : ℕ
    pub front : len < length bytes
    pub went : Appends now b.sent (take len bytes)
    pub cause : EndsReplying fault
    pub failures : FailsWith fault a.failures b.failures

  -- One call: the link before and after, and the state of what answers before and after.
  abbrev pub Serves : LinkState → LinkState → S → S → Result ℕ LinkFault → Type 0
  Serves a b s t (Ok served) = ServesAll a b s t served ⊎ ServesLast a b s t served
  Serves a b s t (Err fault) = StopsReading a b s t fault ⊎ StopsReplying a b s t fault

-- inner: what is told of one answer beside its sending
abbrev pub told : Result Bool LinkFault → Result (Unit {0}) LinkFault
told (Ok b) = Ok tt
told (Err fault) = Err fault

module _ {S : Type 0} (Answers : S → Frame → List ℕ → Bool → S → Type 0) where
  -- inner: One frame is answered: its bytes go out, and whether more may be answered is told.
  pub record Replies (a b : LinkState) (s : S) (frame : Frame) (t : S) (result : Result Bool LinkFault) (turns spare : ℕ) : Type 0 where
    pub bytes : List ℕ
    pub goes_on : Bool
    pub answers : Answers s frame bytes goes_on t
    pub some : goes_on ≡ true → 0 < length bytes
    pub sends : Sends a b (told result) bytes turns spare
    pub tells : IfOk result (λ more. more ≡ goes_on)
