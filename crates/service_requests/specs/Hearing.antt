-- A request on a connection whose bytes come in pieces (MODBUS Messaging on TCP/IP Implementation Guide, section 4.4.1).
use Rattle.std.specs.Prelude.{◌≡◌, ℕ, ◌+◌, ◌<◌, List, [], ◌∷◌, ◌++◌, length, Option, None, Some, Result, Ok, Err}
use Rattle.std.specs.List.{flat_map, AllByRecursion}
use Rattle.std.specs.Option.{option_to_list}
use Rattle.modbus_frame.specs.declared.fault.FrameFault.{FrameFault}
use Rattle.modbus_frame.specs.declared.frame.Frame.{Frame}
use Rattle.modbus_frame.specs.Frame.{frame_bytes, IsFrame, IsRest, IsFaulty, stream_of}
use Rattle.modbus_frame.specs.Framing.{empty}
use Rattle.modbus_frame.specs.Held.{Held}
use Rattle.modbus_frame.specs.Reading.{Reading}
use Rattle.gateway.specs.declared.poller.outcome.Outcome.{Outcome}
use Rattle.gateway.specs.poller.LinkRun.{Asked, IsDecided, decided_within, most_dropped}
use Rattle.service_requests.specs.declared.request_end.RequestEnd.{RequestEnd}
use Rattle.service_requests.specs.declared.request_end.RequestEnd.TheVariants as fate

-- A request that waits for its reply: with so many frames more that are dropped it is stale.
pub record Wait : Type 0 where
  pub asked : Asked
  pub may_drop : ℕ

-- What is kept of a connection: what came of a frame in part, and the request that is under way.
pub record Pending : Type 0 where
  pub held : Held
  pub wait : Option Wait

-- A connection: what came of its stream and wasn't used, which is what is kept of a frame in part and the bytes that whoever reads it
-- has left; and the request that is under way.
pub record Wire : Type 0 where
  pub reading : Reading
  pub wait : Option Wait

-- with these bytes left
abbrev pub with_rest : Pending → List ℕ → Wire
with_rest p rest = record { reading = record { held = p.held; unfed = rest }; wait = p.wait }

-- at its start
abbrev pub fresh : Pending
fresh = record { held = empty; wait = None }

-- with this request under way
abbrev pub asking : Pending → Asked → Pending
asking p asked = record p { wait = Some (record { asked = asked; may_drop = most_dropped }) }

-- the bytes that came and weren't used: those of a frame in part, and those that are left
abbrev pub unused : Reading → List ℕ
unused r = r.held.kept ++ r.unfed

-- with bytes after them
abbrev pub with_bytes : Reading → List ℕ → Reading
with_bytes r bytes = record r { unfed = r.unfed ++ bytes }

-- One feed of all that came: a frame, less than one, or a fault.
abbrev pub FeedsNext : Reading → Result (Option Frame) FrameFault → Reading → Type 0
FeedsNext old (Ok (Some frame)) new = IsFrame frame × (unused old ≡ frame_bytes frame ++ new.unfed) × (new.held ≡ empty)
FeedsNext old (Ok None) new = IsRest (unused old) × (new.held ≡ record { kept = unused old; fault = None }) × (new.unfed ≡ [])
FeedsNext old (Err fault) new = IsFaulty fault (unused old) × (new.held ≡ record { kept = []; fault = Some fault }) × (new.unfed ≡ [])

-- ---- what comes of bytes

-- Frames at their front decide the request; the bytes after these are left.
pub record Settles (old : Reading) (wait : Wait) (outcome : Outcome) (new : Reading) : Type 0 where
  pub frames : List Frame
  pub each : AllByRecursion IsFrame frames
  pub decided : decided_within wait.asked wait.may_drop frames ≡ Some (record { outcome = outcome; behind = [] })
  pub came : unused old ≡ stream_of frames (unused new)
  pub held : new.held ≡ empty

-- They are frames that were all dropped, and then less than one, which stays.
pub record StaysOpen (old : Reading) (wait : Wait) (more : ℕ) (new : Reading) : Type 0 where
  pub frames : List Frame
  pub each : AllByRecursion IsFrame frames
  pub dropped : wait.may_drop ≡ length frames + more
  pub undecided : (behind : List Frame) → decided_within wait.asked wait.may_drop (frames ++ behind) ≡ decided_within wait.asked more behind
  pub some : 0 < more
  pub came : unused old ≡ stream_of frames new.held.kept
  pub partial : IsRest new.held.kept
  pub good : new.held.fault ≡ None
  pub fed : new.unfed ≡ []

-- They are frames that were all dropped, and then what begins as no frame does. The fault stays.
pub record MeetsFault (old : Reading) (wait : Wait) (new : Reading) : Type 0 where
  pub frames : List Frame
  pub each : AllByRecursion IsFrame frames
  pub undecided : decided_within wait.asked wait.may_drop frames ≡ None
  pub rest : List ℕ
  pub came : unused old ≡ stream_of frames rest
  pub fault : FrameFault
  pub faulty : IsFaulty fault rest
  pub after : new ≡ record { held = record { kept = []; fault = Some fault }; unfed = [] }

-- What comes of all bytes that came, where the stream met no fault.
abbrev pub Hears : Wait → Reading → Option RequestEnd → Wire → Type 0
Hears wait old (Some (fate.Told outcome)) new = Settles old wait outcome new.reading × (new.wait ≡ None)
Hears wait old (Some fate.Lost) new = MeetsFault old wait new.reading × (new.wait ≡ None)
Hears wait old None new = (more : ℕ) × StaysOpen old wait more new.reading × (new.wait ≡ Some (record { asked = wait.asked; may_drop = more }))

-- inner: the request that is under way after a fate
abbrev pub waiting : Option RequestEnd → Wait → Option Wait
waiting None wait = Some wait
waiting (Some f) wait = None

-- Where nothing is asked all bytes are left, for the next request.
abbrev pub HearsFor : Option Wait → Reading → Option RequestEnd → Wire → Type 0
HearsFor None old result new = (result ≡ None) × (new ≡ record { reading = old; wait = None })
HearsFor (Some wait) old result new = Hears wait old result new

-- After a fault nothing is left, and a request is lost.
abbrev pub lost_by : Option Wait → Option RequestEnd
lost_by None = None
lost_by (Some wait) = Some fate.Lost

abbrev pub TakesUnless : Option FrameFault → Wire → List ℕ → Option RequestEnd → Wire → Type 0
TakesUnless None old bytes result new = HearsFor old.wait (with_bytes old.reading bytes) result new
TakesUnless (Some fault) old bytes result new = (result ≡ lost_by old.wait) × (new ≡ record old { wait = None })

-- One piece is taken, after the bytes that were left.
abbrev pub Takes : Wire → List ℕ → Option RequestEnd → Wire → Type 0
Takes old bytes result new = TakesUnless old.reading.held.fault old bytes result new

-- ---- pieces

-- Pieces are taken one after another; these fates come of them.
abbrev pub TakesAll : Wire → List (List ℕ) → List RequestEnd → Wire → Type 0
TakesAll old [] fates new = (fates ≡ []) × (new ≡ old)
TakesAll old (piece ∷ pieces) fates new =
    (first : Option RequestEnd) × (middle : Wire) × (others : List RequestEnd) × Takes old piece first middle × TakesAll middle pieces others new × (fates ≡ option_to_list first ++ others)

-- however bytes are cut into pieces, one or more, the same comes of them, and stays
abbrev pub CutsGiveTheSame : Type 0
CutsGiveTheSame = (old : Wire) (piece other : List ℕ) (pieces others : List (List ℕ)) (fates ends : List RequestEnd) (new end : Wire)
    → piece ++ flat_map (λ p. p) pieces ≡ other ++ flat_map (λ p. p) others
    → TakesAll old (piece ∷ pieces) fates new → TakesAll old (other ∷ others) ends end → (fates ≡ ends) × (new ≡ end)

-- What comes of a request by pieces is its outcome by the frames of the stream, and the bytes after these are left.
abbrev pub OutcomesAreDecided : Type 0
OutcomesAreDecided = (old : Pending) (rest : List ℕ) (asked : Asked) (piece : List ℕ) (pieces : List (List ℕ)) (outcome : Outcome) (new : Wire)
    → old.held.fault ≡ None → TakesAll (with_rest (asking old asked) rest) (piece ∷ pieces) (fate.Told outcome ∷ []) new
    → (frames : List Frame) × IsDecided asked frames outcome × ((old.held.kept ++ rest) ++ (piece ++ flat_map (λ p. p) pieces) ≡ stream_of frames (unused new.reading))
