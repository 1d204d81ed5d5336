-- What a session makes of a stream that comes in pieces (MODBUS Messaging on TCP/IP Implementation Guide, section 4.4.2).
use Rattle.std.specs.Prelude.{◌≡◌, ◌≢◌, ◌⊎◌, ℕ, Bool, true, false, List, [], ◌∷◌, ◌++◌, length, map, take, Option, None, Some, Result, Ok, Err}
use Rattle.modbus_frame.specs.declared.fault.FrameFault.{FrameFault}
use Rattle.modbus_frame.specs.declared.frame.Frame.{Frame}
use Rattle.modbus_frame.specs.declared.framer.Fed.{Fed}
use Rattle.modbus_frame.specs.Framing.{Feeds, IsRead, empty, used_of}
use Rattle.service_requests.specs.declared.session.PieceTaken.{PieceTaken}
use Rattle.service_requests.specs.Talk.{Talk}

-- at the start of a stream
abbrev pub fresh : Talk
fresh = record { held = empty; waiting = []; goes_on = true }

-- The next frame may be answered.
abbrev pub IsFree : Talk → Type 0
IsFree talk = (talk.waiting ≡ []) × (talk.goes_on ≡ true)

-- Nothing more will go out.
abbrev pub IsOver : Talk → Type 0
IsOver talk = (talk.waiting ≡ []) × ((talk.held.fault ≢ None) ⊎ (talk.goes_on ≡ false))

-- These bytes go out, and nothing else changes.
pub record Puts (old : Talk) (bytes : List ℕ) (new : Talk) : Type 0 where
  pub front : old.waiting ≡ bytes ++ new.waiting
  pub held : new.held ≡ old.held
  pub goes_on : new.goes_on ≡ old.goes_on

abbrev pub frame_of : Result Fed FrameFault → Option Frame
frame_of (Ok fed) = fed.frame
frame_of (Err _) = None

-- a frame that was answered: the state at its turn, and what that left
pub record Turn (S : Type 0) : Type 0 where
  pub before : S
  pub frame : Frame
  pub after : S

abbrev pub turns_of : {S : Type 0} → S → Option Frame → S → List (Turn S)
turns_of s None t = []
turns_of s (Some frame) t = record { before = s; frame = frame; after = t } ∷ []

abbrev pub frames_in : {S : Type 0} → List (Turn S) → List Frame
frames_in {S} turns = map (λ (turn : Turn S). turn.frame) turns

-- `Answers` says which bytes answer a frame, whether more may be answered after them, and what that leaves.
module _ {S : Type 0} (Answers : S → Frame → List ℕ → Bool → S → Type 0) where
  -- A whole frame is answered; without one nothing waits, and nothing changes.
  abbrev pub AnswersNext : S → Option Frame → List ℕ → Bool → S → Type 0
  AnswersNext s None bytes goes_on t = (bytes ≡ []) × (goes_on ≡ true) × (t ≡ s)
  AnswersNext s (Some frame) bytes goes_on t = Answers s frame bytes goes_on t

  -- So many bytes of a piece are fed; the frame that they end, where they end one, is answered, and its answer waits.
  pub record TakesPiece (s : S) (old : Talk) (piece : List ℕ) (taken : PieceTaken) (t : S) (new : Talk) : Type 0 where
    pub fed : Result Fed FrameFault
    pub feeds : Feeds old.held piece fed new.held
    pub uses : take taken.used piece ≡ used_of piece fed
    pub count : taken.frames ≡ length (turns_of s (frame_of fed) t)
    pub answers : AnswersNext s (frame_of fed) new.waiting new.goes_on t

  -- Calls in a row, from the start of a stream: the turns of its frames, the bytes that were used, the bytes that went
  -- out, what answers and the session then. Between two calls others may change what answers.
  pub data Serving : List (Turn S) → List ℕ → List ℕ → S → Talk → Type 0 where
    opened : (s : S) → Serving [] [] [] s fresh
    others : {turns : List (Turn S)} {stream sent : List ℕ} {t : S} {talk : Talk} → Serving turns stream sent t talk → (u : S) → Serving turns stream sent u talk
    takes : {turns : List (Turn S)} {stream sent : List ℕ} {t : S} {old : Talk} → Serving turns stream sent t old → (piece : List ℕ) (taken : PieceTaken) (u : S) (new : Talk) → IsFree old → (one : TakesPiece t old piece taken u new) → Serving (turns ++ turns_of t (frame_of one.fed) u) (stream ++ take taken.used piece) sent u new
    puts : {turns : List (Turn S)} {stream sent : List ℕ} {t : S} {old : Talk} → Serving turns stream sent t old → (bytes : List ℕ) (new : Talk) → Puts old bytes new → Serving turns stream (sent ++ bytes) t new

  -- These bytes answer the frames, in order, each at its turn.
  abbrev pub AnsweredEach : List (Turn S) → List ℕ → Type 0
  AnsweredEach [] bytes = bytes ≡ []
  AnsweredEach (turn ∷ turns) bytes = (own : List ℕ) × (more : List ℕ) × Answers turn.before turn.frame own true turn.after × (bytes ≡ own ++ more) × AnsweredEach turns more

  -- The same, and after the answer to the last one no more may be.
  pub record AnsweredLast (turns : List (Turn S)) (bytes : List ℕ) : Type 0 where
    pub before : List (Turn S)
    pub last : Turn S
    pub split : turns ≡ before ++ last ∷ []
    pub first : List ℕ
    pub more : List ℕ
    pub whole : bytes ≡ first ++ more
    pub answered : AnsweredEach before first
    pub ends : Answers last.before last.frame more false last.after

  abbrev pub AnsweredTo : Bool → List (Turn S) → List ℕ → Type 0
  AnsweredTo true turns bytes = AnsweredEach turns bytes
  AnsweredTo false turns bytes = AnsweredLast turns bytes

  -- However a stream is cut into pieces: what went out, and what waits, are the answers to its frames, in order, each at
  -- its turn. Frames after a fault are none.
  abbrev pub AnyCutIsAnswered : Type 0
  AnyCutIsAnswered = (turns : List (Turn S)) (stream sent : List ℕ) (t : S) (talk : Talk) → Serving turns stream sent t talk →
      IsRead stream (frames_in turns) talk.held × AnsweredTo talk.goes_on turns (sent ++ talk.waiting)

  abbrev pub IsAnswered : Turn S → Type 0
  IsAnswered turn = (bytes : List ℕ) × (goes_on : Bool) × Answers turn.before turn.frame bytes goes_on turn.after

  -- Frames in a row, each of them answered in the state that the one before it left.
  abbrev pub IsChain : S → List (Turn S) → S → Type 0
  IsChain s [] t = t ≡ s
  IsChain s (turn ∷ turns) t = (turn.before ≡ s) × IsAnswered turn × IsChain turn.after turns t

  -- So many frames are answered in a row. Whatever was served before is served on by their turns: these bytes more were
  -- used, and these went out.
  pub record ServesOn (frames : ℕ) (s : S) (old : Talk) (bytes out : List ℕ) (t : S) (new : Talk) : Type 0 where
    pub turns : List (Turn S)
    pub count : length turns ≡ frames
    pub chain : IsChain s turns t
    pub serves : (before : List (Turn S)) (stream sent : List ℕ) → Serving before stream sent s old → Serving (before ++ turns) (stream ++ bytes) (sent ++ out) t new
