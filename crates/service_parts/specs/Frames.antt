-- What goes out over a connection to devices, frame by frame: a request begins where none is under way, and its whole frame
-- is to be written (MODBUS Messaging on TCP/IP Implementation Guide, sections 3.1.3 and 4.4.1).
use Rattle.std.specs.Prelude.{◌≡◌, ◌⊎◌, ◌&&◌, not, is_none, ℕ, ◌+◌, ◌≤◌, ◌==◌, if◌then◌else◌, Bool, true, false, List, [], ◌∷◌, ◌++◌, drop, take, min, length, Option, None, Some, slice_get}
use Rattle.std.specs.List.{flat_map}
use Rattle.std.specs.Option.{option_map_or}
use Rattle.modbus_frame.specs.Frame.{frame_bytes}
use Rattle.gateway.specs.poller.LinkRun.{Asked as Request, frame_of, next_id}
use Rattle.service_requests.specs.declared.request_end.RequestEnd.{RequestEnd}
use Rattle.service_requests.specs.Hearing.{Pending, Takes, asking, fresh, with_rest}
use Rattle.service_requests.specs.declared.task.TaskMark.{TaskMark}
use Rattle.service_requests.specs.declared.task.TaskMark.TheVariants as mark
use Rattle.service_requests.specs.declared.task.Task.{Task}
use Rattle.service_parts.specs.declared.limits.Limits.{Limits}
use Rattle.service_parts.specs.declared.device_connection.DeviceConnection.{DeviceConnection}
use Rattle.service_parts.specs.declared.asked.Aim.{Aim}
use Rattle.service_parts.specs.declared.asked.Aim.TheVariants as aim
use Rattle.service_parts.specs.declared.asked.Asked.{Asked}
use Rattle.service_parts.specs.Answering.{answers}
use Rattle.service_parts.specs.Backing.{after, longer}
use Rattle.service_parts.specs.Overdue.{IsTimed, is_left, is_over}

-- ---- the connection itself

-- Whether it is up stays, whether a device answered since it came up, when it is made again, until when the dial that is under
-- way may take, and its back-off.
pub record StaysLinked (old new : DeviceConnection) : Type 0 where
  pub up : new.is_up ≡ old.is_up
  pub answered : new.is_heard ≡ old.is_heard
  pub until : new.dial_until ≡ old.dial_until
  pub dial : new.dial_at ≡ old.dial_at
  pub wait : new.wait ≡ old.wait

-- ---- one step

-- A request begins over a connection that is well, where none is under way and nothing waits: its frame is to be written. Its
-- transaction has the next number.
pub record Begins (old new : DeviceConnection) : Type 0 where
  pub up : old.is_up ≡ true
  pub well : old.is_bad ≡ false
  pub free : old.asked ≡ None
  pub quiet : old.out.items ≡ []
  pub asked : Asked
  pub request : Request
  pub numbered : request.id ≡ old.id
  pub next : new.id ≡ next_id old.id
  pub noted : new.asked ≡ Some asked
  pub under_way : new.pending ≡ asking old.pending request
  pub frame : new.out.items ≡ frame_bytes (frame_of request)
  pub linked : StaysLinked old new

-- The request that is under way is given up. Over a connection on which a part of a frame waits nothing more begins.
pub record GivesUp (old new : DeviceConnection) : Type 0 where
  pub over : new.asked ≡ None
  pub next : new.id ≡ old.id
  pub same : new.out.items ≡ old.out.items
  pub bad : old.is_bad ≡ true → new.is_bad ≡ true
  pub spoils : (old.out.items ≡ [] → ⊥) → new.is_bad ≡ true
  pub linked : StaysLinked old new

-- Nothing happens to the request that is under way.
pub record Keeps (old new : DeviceConnection) : Type 0 where
  pub still : new.asked ≡ old.asked
  pub heard : new.pending ≡ old.pending
  pub next : new.id ≡ old.id
  pub same : new.out.items ≡ old.out.items
  pub bad : old.is_bad ≡ true → new.is_bad ≡ true
  pub linked : StaysLinked old new

-- what is under way after a fate
abbrev pub left_under_way : Option RequestEnd → Option Asked → Option Asked
left_under_way None asked = asked
left_under_way (Some fate) asked = None

-- the request that a fate ends
abbrev pub ended_by : Option RequestEnd → Option Asked → Option Asked
ended_by None asked = None
ended_by (Some fate) asked = asked

-- Over a connection that is well they are taken, and some are left; over any other one they are lost, and nothing is heard.
abbrev pub TakesWhere : Bool → Pending → (bytes left : List ℕ) → Option RequestEnd → Pending → Type 0
TakesWhere true old bytes left fate new = Takes (with_rest old []) bytes fate (with_rest new left)
TakesWhere false old bytes left fate new = (left ≡ []) × (fate ≡ None) × (new ≡ old)

-- A dial begins while it is down, and may take until some time. All else stays.
pub record Dials (old new : DeviceConnection) : Type 0 where
  pub down : old.is_up ≡ false
  pub until : ℕ
  pub same : new ≡ record old { dial_until = Some until }

-- what a line is after a dial that may take until this time: one that is up has none
abbrev pub dialled : ℕ → DeviceConnection → DeviceConnection
dialled until line = if line.is_up then line else record line { dial_until = Some until }

-- These bytes are taken of its stream, except those that are left; what they tell became of the request ends it, and nothing else
-- does. An answer ends its back-off: a device answered since it came up.
pub record Hears (bytes left : List ℕ) (fate : Option RequestEnd) (old new : DeviceConnection) : Type 0 where
  pub takes : TakesWhere (old.is_up && not old.is_bad) old.pending bytes left fate new.pending
  pub asked : new.asked ≡ left_under_way fate old.asked
  pub next : new.id ≡ old.id
  pub same : new.out.items ≡ old.out.items
  pub bad : new.is_bad ≡ old.is_bad
  pub up : new.is_up ≡ old.is_up
  pub answered : new.is_heard ≡ (if answers fate then true else old.is_heard)
  pub dial : new.dial_at ≡ old.dial_at
  pub until : new.dial_until ≡ old.dial_until
  pub wait : new.wait ≡ (if answers fate then 0 else old.wait)

-- So many of the bytes that wait are written.
pub record Sends (n : ℕ) (old new : DeviceConnection) : Type 0 where
  pub same : new ≡ record old { out = new.out }
  pub left : new.out.items ≡ drop (min n (length old.out.items)) old.out.items

-- A stream that begins, or that is over: nothing waits, and nothing is under way.
pub record IsCut (line : DeviceConnection) : Type 0 where
  pub begins : line.pending ≡ fresh
  pub none : line.asked ≡ None
  pub quiet : line.out.items ≡ []

-- It comes up: a new stream begins, over which no device answered yet. No dial is under way.
pub record ComesUp (old new : DeviceConnection) : Type 0 where
  pub cut : IsCut new
  pub up : new.is_up ≡ true
  pub well : new.is_bad ≡ false
  pub answered : new.is_heard ≡ false
  pub until : new.dial_until ≡ None
  pub wait : new.wait ≡ old.wait

-- It does nothing and its devices answered.
abbrev pub is_idle : DeviceConnection → Bool
is_idle line = line.is_up && not line.is_bad && is_none line.asked && line.is_heard

-- It goes down: its stream is over, and so is a dial. One that ended while it did nothing is made again after its last back-off,
-- which is none (`AnsweredLinesHaveNoBackOff`); any other one after a longer one.
pub record GoesDown (now : ℕ) (limits : Limits) (old new : DeviceConnection) : Type 0 where
  pub cut : IsCut new
  pub down : new.is_up ≡ false
  pub until : new.dial_until ≡ None
  pub wait : new.wait ≡ (if is_idle old then old.wait else longer old.wait (min limits.period 1000) limits.back_off_most)
  pub dial : new.dial_at ≡ after now new.wait

-- ---- kinds of steps

-- What a service does by itself at this time. A request that begins has its time from now on, by the service's limits; only one
-- whose time is over is given up.
pub data OwnStep (now : ℕ) (limits : Limits) (old new : DeviceConnection) : Type 0 where
  begins : (step : Begins old new) → IsTimed now limits step.asked → OwnStep now limits old new
  gives_up : GivesUp old new → is_over now old.asked ≡ true → OwnStep now limits old new
  keeps : Keeps old new → OwnStep now limits old new
  dials : Dials old new → OwnStep now limits old new

-- That at some time, and what is heard over this connection.
abbrev pub HearingStep : DeviceConnection → DeviceConnection → Type 0
HearingStep old new =
    ((now : ℕ) × (limits : Limits) × OwnStep now limits old new) ⊎ ((bytes : List ℕ) × (left : List ℕ) × (fate : Option RequestEnd) × Hears bytes left fate old new)

-- ---- one step after another

-- From the one to the other by such steps alone.
pub data CourseBy (Step : DeviceConnection → DeviceConnection → Type 0) : DeviceConnection → DeviceConnection → Type 0 where
  stays : (line : DeviceConnection) → CourseBy Step line line
  goes : {old middle : DeviceConnection} → CourseBy Step old middle → (new : DeviceConnection) → Step middle new → CourseBy Step old new

-- ---- which writes begin on the way

-- the output that is written by a request that was made for this
abbrev pub outputs_of : Aim → List ℕ
outputs_of (aim.Output output) = output ∷ []
outputs_of (aim.Block want) = []
outputs_of aim.Map = []

abbrev pub begun_by : {now : ℕ} {limits : Limits} {old new : DeviceConnection} → OwnStep now limits old new → List ℕ
begun_by (begins step timed) = outputs_of step.asked.aim
begun_by (gives_up step waited) = []
begun_by (keeps step) = []
begun_by (dials step) = []

-- the outputs whose writes begin, the last one first
abbrev pub begun : {now : ℕ} {limits : Limits} {old new : DeviceConnection} → CourseBy (OwnStep now limits) old new → List ℕ
begun (stays line) = []
begun (goes course new step) = begun_by step ++ begun course

abbrev pub times_asked : ℕ → List ℕ → ℕ
times_asked i [] = 0
times_asked i (k ∷ asked) = (if k == i then 1 else 0) + times_asked i asked

abbrev pub due_by : TaskMark → ℕ
due_by mark.Due = 1
due_by mark.Asked = 0
due_by mark.Done = 0

-- 1 where the write of an output is still to be made, else 0
abbrev pub due_at : ℕ → List Task → ℕ
due_at output tasks = option_map_or (λ (t : Task). due_by t.mark) (slice_get tasks output) 0

-- What a service does by itself at this time led from the one line to that of a link. Of each output no more writes began on the
-- way than so many, and one less where its write is still to be made.
pub record IsLed (now : ℕ) (limits : Limits) (most : ℕ → ℕ) (from : DeviceConnection) (tasks : List Task) (lines : List DeviceConnection) (link : ℕ) : Type 0 where
  pub line : DeviceConnection
  pub there : slice_get lines link ≡ Some line
  pub course : CourseBy (OwnStep now limits) from line
  pub within : (output : ℕ) → times_asked output (begun course) + due_at output tasks ≤ most output

-- Whatever led to a link's line leads to what it is now. Each write that begins was still to be made, and isn't any more.
abbrev pub LinkGoes : (now : ℕ) → (limits : Limits) → (link : ℕ) → (tasks : List Task) → (lines : List DeviceConnection) → (left : List Task) → (new : List DeviceConnection) → Type 0
LinkGoes now limits link tasks lines left new = (most : ℕ → ℕ) (from : DeviceConnection) → ∥ IsLed now limits most from tasks lines link ∥₁ → ∥ IsLed now limits most from left new link ∥₁

-- Each link's line goes on so at this time, whatever is still to be written: no write begins.
abbrev pub LinesGoAt : ℕ → List DeviceConnection → List DeviceConnection → Type 0
LinesGoAt now old new = (limits : Limits) (link : ℕ) (tasks : List Task) → LinkGoes now limits link tasks old tasks new

-- at any time
abbrev pub LinesGo : List DeviceConnection → List DeviceConnection → Type 0
LinesGo old new = (now : ℕ) → LinesGoAt now old new

-- all but that of one link
abbrev pub OthersGo : ℕ → List DeviceConnection → List DeviceConnection → Type 0
OthersGo at old new = (now : ℕ) (limits : Limits) (link : ℕ) (tasks : List Task) → (link ≡ at → ⊥) → LinkGoes now limits link tasks old tasks new

-- The write of an output that a request was made for was still to be made, and isn't any more; nor is that of another one which
-- wasn't.
pub record TakesDue (made_for : Aim) (before after : List Task) : Type 0 where
  pub each : (output : ℕ) → times_asked output (outputs_of made_for) + due_at output after ≤ due_at output before

-- ---- how long a request has

-- From a line on, by what a service does by itself at this time: a request that is under way then was so before, or it begins now
-- and has its time from now on; one whose time isn't over stays under way; and where none is left whose time is over, none is
-- then.
pub record RequestsHaveTheirTime : Type 0 where
  pub under_way : (now : ℕ) (limits : Limits) (old new : DeviceConnection) → CourseBy (OwnStep now limits) old new
      → (asked : Asked) → new.asked ≡ Some asked → (old.asked ≡ Some asked) ⊎ IsTimed now limits asked
  pub waits : (now : ℕ) (limits : Limits) (old new : DeviceConnection) → CourseBy (OwnStep now limits) old new
      → (asked : Asked) → old.asked ≡ Some asked → is_over now old.asked ≡ false → new.asked ≡ Some asked
  pub ends : (now : ℕ) (limits : Limits) (old new : DeviceConnection) → CourseBy (OwnStep now limits) old new
      → is_left now old.asked ≡ false → is_left now new.asked ≡ false

-- ---- what went out

-- The frames of these requests began, one after another, and these bytes of them went out: the rest waits.
abbrev pub IsSending : List Request → List ℕ → DeviceConnection → Type 0
IsSending requests gone line = gone ++ line.out.items ≡ flat_map (λ (r : Request). frame_bytes (frame_of r)) requests

-- Their transactions have the numbers from the one on, one after another, and the other is the next: after 65535 comes 0.
abbrev pub AreNumbered : ℕ → List Request → ℕ → Type 0
AreNumbered id [] next = next ≡ id
AreNumbered id (r ∷ requests) next = (r.id ≡ id) × AreNumbered (next_id id) requests next

-- What goes out over a connection are whole frames, one after another, of transactions with numbers one after another: each begins
-- once the one before was written whole, and the request that it spells is over. Over a stream that a cut frame spoilt nothing more begins.
pub record FramesGoOutWhole : Type 0 where
  pub anew : (line : DeviceConnection) → IsCut line → IsSending [] [] line
  pub goes_on : (requests : List Request) (gone : List ℕ) (old new : DeviceConnection) → CourseBy HearingStep old new → IsSending requests gone old
      → (more : List Request) × IsSending (requests ++ more) gone new × AreNumbered old.id more new.id
  pub goes_out : (requests : List Request) (gone : List ℕ) (n : ℕ) (old new : DeviceConnection) → Sends n old new → IsSending requests gone old
      → IsSending requests (gone ++ take (min n (length old.out.items)) old.out.items) new
  pub one_at_a_time : (old new : DeviceConnection) → Begins old new → (old.asked ≡ None) × (old.out.items ≡ [])

-- ---- its back-off

-- Where it is up, and a device answered since, its back-off is over.
pub record IsUnwaited (line : DeviceConnection) : Type 0 where
  pub over : line.is_up ≡ true → line.is_heard ≡ true → line.wait ≡ 0

-- Whatever happens to a line, its back-off is over wherever it is up and a device answered since. So one that ends while it does
-- nothing is made again at once.
pub record AnsweredLinesHaveNoBackOff : Type 0 where
  pub own : (old new : DeviceConnection) → CourseBy HearingStep old new → IsUnwaited old → IsUnwaited new
  pub goes_out : (n : ℕ) (old new : DeviceConnection) → Sends n old new → IsUnwaited old → IsUnwaited new
  pub comes_up : (old new : DeviceConnection) → ComesUp old new → IsUnwaited new
  pub goes_down : (now : ℕ) (limits : Limits) (old new : DeviceConnection) → GoesDown now limits old new → IsUnwaited new
  pub at_once : (now : ℕ) (limits : Limits) (old new : DeviceConnection) → GoesDown now limits old new → IsUnwaited old → is_idle old ≡ true → new.wait ≡ 0
