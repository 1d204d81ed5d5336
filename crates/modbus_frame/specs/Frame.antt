-- Frames, and a stream of them (MODBUS Messaging on TCP/IP Implementation Guide, section 3.1).
use Rattle.std.specs.Prelude.{◌≡◌, ◌≢◌, ℕ, ◌+◌, ◌<◌, ◌≤◌, List, ◌∷◌, ◌++◌, length, slice_index}
use Rattle.std.specs.List.{flat_map, AllByRecursion}
use Rattle.modbus_frame.specs.declared.frame.Frame.{Frame}
use Rattle.modbus_frame.specs.declared.fault.FrameFault.{FrameFault}
use Rattle.modbus_frame.specs.declared.fault.FrameFault.TheVariants.{BadProtocol, BadLength}
use Rattle.modbus_frame.specs.Bytes.{AreBytes, number, number_bytes}

-- The spelling of a frame: transaction, protocol 0, the length of unit and PDU, unit, PDU.
abbrev pub frame_bytes : Frame → List ℕ
frame_bytes f = number_bytes f.transaction ++ 0 ∷ 0 ∷ number_bytes (1 + length f.pdu) ++ f.unit ∷ f.pdu

-- A PDU has 1 to 253 bytes.
abbrev pub IsFrame : Frame → Type 0
IsFrame f = (1 ≤ length f.pdu) × (length f.pdu ≤ 253)

-- the protocol identifier, the third and fourth byte
abbrev pub protocol_of : List ℕ → ℕ
protocol_of bytes = number (slice_index bytes 2) (slice_index bytes 3)

-- the length field, the fifth and sixth byte
abbrev pub length_of : List ℕ → ℕ
length_of bytes = number (slice_index bytes 4) (slice_index bytes 5)

-- The length counts unit and PDU.
abbrev pub IsLength : ℕ → Type 0
IsLength n = (2 ≤ n) × (n ≤ 254)

-- Less than a frame that may still become one: its protocol, once it is there, is 0, its length, once it is there,
-- is one that frames have, and it has fewer bytes than its length says.
pub record IsRest (bytes : List ℕ) : Type 0 where
  pub protocol : 4 ≤ length bytes → protocol_of bytes ≡ 0
  pub announced : 6 ≤ length bytes → IsLength (length_of bytes)
  pub unfinished : 6 ≤ length bytes → length bytes < 6 + length_of bytes

-- What begins as no frame does, and why: seen at the fourth byte, or at the sixth.
abbrev pub IsFaulty : FrameFault → List ℕ → Type 0
IsFaulty BadProtocol bytes = (4 ≤ length bytes) × (protocol_of bytes ≢ 0)
IsFaulty BadLength bytes = (6 ≤ length bytes) × (protocol_of bytes ≡ 0) × (¬ (IsLength (length_of bytes)))

-- frames one after another, and what comes after them
abbrev pub stream_of : List Frame → List ℕ → List ℕ
stream_of frames rest = flat_map frame_bytes frames ++ rest

-- The stream is these frames, and then less than a frame.
pub record Splits (stream : List ℕ) (frames : List Frame) (rest : List ℕ) : Type 0 where
  pub whole : stream ≡ stream_of frames rest
  pub each : AllByRecursion IsFrame frames
  pub partial : IsRest rest

-- The stream is these frames, and then what begins as no frame does.
pub record Breaks (stream : List ℕ) (frames : List Frame) (fault : FrameFault) : Type 0 where
  pub rest : List ℕ
  pub whole : stream ≡ stream_of frames rest
  pub each : AllByRecursion IsFrame frames
  pub faulty : IsFaulty fault rest

-- these bytes and some more are a frame
abbrev pub BeginsFrame : List ℕ → Type 0
BeginsFrame bytes = (frame : Frame) × (more : List ℕ) × IsFrame frame × (0 < length more) × (frame_bytes frame ≡ bytes ++ more)

-- With a whole length field, what is less than a frame begins one, and what begins one is less than a frame.
abbrev pub RestsBeginFrames : Type 0
RestsBeginFrames = (bytes : List ℕ) → AreBytes bytes → 6 ≤ length bytes → IsRest bytes → BeginsFrame bytes

abbrev pub BeginningsAreRests : Type 0
BeginningsAreRests = (bytes : List ℕ) → BeginsFrame bytes → IsRest bytes
