-- What a framer does with the pieces of a stream (MODBUS Messaging on TCP/IP Implementation Guide, section 3.1.2).
use Rattle.std.specs.Prelude.{◌≡◌, ℕ, ◌+◌, ◌<◌, ◌≤◌, List, [], ◌++◌, length, take, Option, None, Some, Result, Ok, Err}
use Rattle.modbus_frame.specs.declared.fault.FrameFault.{FrameFault}
use Rattle.modbus_frame.specs.declared.frame.Frame.{Frame}
use Rattle.modbus_frame.specs.declared.framer.Fed.{Fed}
use Rattle.std.specs.Option.{option_to_list}
use Rattle.modbus_frame.specs.Frame.{frame_bytes, protocol_of, length_of, IsFrame, IsLength, IsRest, IsFaulty, Splits, Breaks}
use Rattle.modbus_frame.specs.Held.{Held}

-- at the start of a stream, and after each frame
abbrev pub empty : Held
empty = record { kept = []; fault = None }

-- The bytes kept and the used ones are a frame, and nothing is kept.
pub record GivesFrame (kept piece : List ℕ) (used : ℕ) (frame : Frame) (new : Held) : Type 0 where
  pub within : used ≤ length piece
  pub spelled : kept ++ take used piece ≡ frame_bytes frame
  pub is_frame : IsFrame frame
  pub after : new ≡ empty

-- All of the piece is used and kept: it is still less than a frame.
pub record KeepsAll (kept piece : List ℕ) (used : ℕ) (new : Held) : Type 0 where
  pub all : used ≡ length piece
  pub partial : IsRest (kept ++ piece)
  pub after : new ≡ record { kept = kept ++ piece; fault = None }

-- What begins here is no frame, and the fault stays.
pub record MeetsFault (kept piece : List ℕ) (fault : FrameFault) (new : Held) : Type 0 where
  pub faulty : IsFaulty fault (kept ++ piece)
  pub after : new ≡ record { kept = []; fault = Some fault }

abbrev pub GivesOrKeeps : List ℕ → List ℕ → ℕ → Option Frame → Held → Type 0
GivesOrKeeps kept piece used (Some frame) new = GivesFrame kept piece used frame new
GivesOrKeeps kept piece used None new = KeepsAll kept piece used new

abbrev pub FeedsFrom : List ℕ → List ℕ → Result Fed FrameFault → Held → Type 0
FeedsFrom kept piece (Ok fed) new = GivesOrKeeps kept piece fed.used fed.frame new
FeedsFrom kept piece (Err fault) new = MeetsFault kept piece fault new

-- A fault stays as it is.
abbrev pub FeedsUnless : Option FrameFault → Held → List ℕ → Result Fed FrameFault → Held → Type 0
FeedsUnless None old piece result new = FeedsFrom old.kept piece result new
FeedsUnless (Some fault) old piece result new = (result ≡ Err fault) × (new ≡ old)

-- one call of `feed`
abbrev pub Feeds : Held → List ℕ → Result Fed FrameFault → Held → Type 0
Feeds old piece result new = FeedsUnless old.fault old piece result new

-- what a call used of its piece, and the frame that it gave; a fault takes all of the piece
abbrev pub used_of : List ℕ → Result Fed FrameFault → List ℕ
used_of piece (Ok fed) = take fed.used piece
used_of piece (Err _) = piece

abbrev pub frames_of : Result Fed FrameFault → List Frame
frames_of (Ok fed) = option_to_list fed.frame
frames_of (Err _) = []

-- Calls of `feed` in a row, from the start of a stream: the bytes that they used, the frames that they gave, and what
-- the framer holds then.
pub data Run : List ℕ → List Frame → Held → Type 0 where
  start : Run [] [] empty
  call : {bytes : List ℕ} {frames : List Frame} {old : Held} → Run bytes frames old → (piece : List ℕ) (result : Result Fed FrameFault) (new : Held) → Feeds old piece result new → Run (bytes ++ used_of piece result) (frames ++ frames_of result) new

-- The stream so far is these frames, and then what a framer holds: less than a frame, or a fault.
abbrev pub IsReadUnless : Option FrameFault → List ℕ → List Frame → List ℕ → Type 0
IsReadUnless None stream frames kept = Splits stream frames kept
IsReadUnless (Some fault) stream frames kept = (kept ≡ []) × Breaks stream frames fault

abbrev pub IsRead : List ℕ → List Frame → Held → Type 0
IsRead stream frames held = IsReadUnless held.fault stream frames held.kept

-- However a stream is cut into pieces, the frames and the fault that a framer gives are those of the stream.
abbrev pub RunsReadTheStream : Type 0
RunsReadTheStream = (stream : List ℕ) (frames : List Frame) (held : Held) → Run stream frames held → IsRead stream frames held

-- A stream has one reading.
abbrev pub OneReading : Type 0
OneReading = (stream : List ℕ) (frames others : List Frame) (held ended : Held) → IsRead stream frames held → IsRead stream others ended → (frames ≡ others) × (held ≡ ended)

-- Two cuts of one stream give the same.
abbrev pub CutsGiveTheSame : Type 0
CutsGiveTheSame = (stream : List ℕ) (frames others : List Frame) (held ended : Held) → Run stream frames held → Run stream others ended → (frames ≡ others) × (held ≡ ended)

-- The number of bytes of the frame that begins so, once its length is there.
abbrev pub Announces : List ℕ → Result (Option ℕ) FrameFault → Type 0
Announces bytes (Ok None) = (length bytes < 6) × (4 ≤ length bytes → protocol_of bytes ≡ 0)
Announces bytes (Ok (Some len)) = (6 ≤ length bytes) × (protocol_of bytes ≡ 0) × IsLength (length_of bytes) × (len ≡ 6 + length_of bytes)
Announces bytes (Err fault) = IsFaulty fault bytes
