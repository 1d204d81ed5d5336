-- How devices and outputs stand, by what was told of them: over all calls. No standard says what is told; it is this
-- project's.
use Rattle.std.specs.Prelude.{◌≡◌, ◌⊎◌, ⊤, All, ℕ, ◌==◌, ◌&&◌, ◌||◌, Bool, true, false, not, is_some, List, [], ◌∷◌, Option, Some, slice_get, if◌then◌else◌}
use Rattle.std.specs.List.{list_all}
use Rattle.std.specs.Option.{option_map_or}
use Rattle.gateway.specs.declared.poller.cycle.Report.{Report}
use Rattle.service.specs.declared.polled_device.PolledDevice.{PolledDevice}
use Rattle.service.specs.declared.device_side.DeviceSide.{DeviceSide}
use Rattle.service.specs.declared.last_scan.LastScan.{LastScan}
use Rattle.service.specs.declared.notice.Loss.{Loss}
use Rattle.service.specs.declared.notice.Notice.{Notice}
use Rattle.service.specs.declared.notice.Notice.TheVariants as note
use Rattle.service.specs.declared.notice.Unwritten.{Unwritten}
use Rattle.service.specs.declared.notice.Unwritten.TheVariants as unwritten
use Rattle.service.specs.declared.output.Output.{Output}
use Rattle.service.specs.declared.output.OutputState.{OutputState}
use Rattle.service.specs.declared.output.OutputState.TheVariants as state
use Rattle.service.specs.declared.read_back.Shown.{Shown}
use Rattle.service.specs.declared.read_back.Shown.TheVariants as shown
use Rattle.service.specs.Noting.{told}
use Rattle.service.specs.Telling.{told_at}

-- whether a device is lost
abbrev pub lost_at : DeviceSide → ℕ → Bool
lost_at side device = option_map_or (λ (own : PolledDevice). own.is_lost) (slice_get side.devices.items device) false

-- what became of an output last
abbrev pub state_at : DeviceSide → ℕ → Option OutputState
state_at side output = told_at side.outputs.items output

-- whether the write of an output is waited for
abbrev pub awaits_at : DeviceSide → ℕ → Bool
awaits_at side output = option_map_or (λ (o : Output). o.is_awaited) (slice_get side.outputs.items output) false

-- whether it was told that its device shows an output otherwise than it took it
abbrev pub differs_at : DeviceSide → ℕ → Bool
differs_at side output = option_map_or (λ (o : Output). is_some o.differs) (slice_get side.outputs.items output) false

-- whether what its device shows of an output is compared with what it took
abbrev pub compares_at : DeviceSide → ℕ → Bool
compares_at side output = option_map_or (λ (o : Output). o.is_read_back) (slice_get side.outputs.items output) false

-- ---- what a note says

-- whether a device is lost, by a note and by whether it was before
abbrev pub lost_then : Notice → ℕ → Bool → Bool
lost_then (note.Lost which cause) device was = if device == which then true else was
lost_then (note.Found which) device was = if device == which then false else was
lost_then (note.Back which) device was = if device == which then false else was
lost_then (note.NoMap which) device was = was
lost_then (note.Another which) device was = was
lost_then (note.Refused which refusal) device was = was
lost_then (note.Scanned report) device was = was
lost_then (note.Late by) device was = was
lost_then (note.Unwritten which cause) device was = was
lost_then (note.Written which) device was = was
lost_then (note.Differs which difference) device was = was
lost_then (note.Agrees which) device was = was

-- what became of an output last, by a note and by what had become of it before
abbrev pub state_then : Notice → ℕ → Option OutputState → Option OutputState
state_then (note.Unwritten which cause) output was = if output == which then Some (state.Unwritten cause) else was
state_then (note.Written which) output was = if output == which then Some state.Written else was
state_then (note.Found which) output was = was
state_then (note.NoMap which) output was = was
state_then (note.Another which) output was = was
state_then (note.Lost which cause) output was = was
state_then (note.Back which) output was = was
state_then (note.Refused which refusal) output was = was
state_then (note.Scanned report) output was = was
state_then (note.Late by) output was = was
state_then (note.Differs which difference) output was = was
state_then (note.Agrees which) output was = was

-- whether its write is waited for, by a note and by whether it was before: not once it is told what became of it
abbrev pub awaited_then : Notice → ℕ → Bool → Bool
awaited_then (note.Unwritten which cause) output was = if output == which then false else was
awaited_then (note.Written which) output was = if output == which then false else was
awaited_then (note.Found which) output was = was
awaited_then (note.NoMap which) output was = was
awaited_then (note.Another which) output was = was
awaited_then (note.Lost which cause) output was = was
awaited_then (note.Back which) output was = was
awaited_then (note.Refused which refusal) output was = was
awaited_then (note.Scanned report) output was = was
awaited_then (note.Late by) output was = was
awaited_then (note.Differs which difference) output was = was
awaited_then (note.Agrees which) output was = was

-- whether it is told that its device shows it otherwise than it took it, by a note and by whether it was before: not once it is told
-- that it agrees, or what became of it anew
abbrev pub differs_then : Notice → ℕ → Bool → Bool
differs_then (note.Differs which difference) output was = if output == which then true else was
differs_then (note.Agrees which) output was = if output == which then false else was
differs_then (note.Unwritten which cause) output was = if output == which then false else was
differs_then (note.Written which) output was = if output == which then false else was
differs_then (note.Found which) output was = was
differs_then (note.NoMap which) output was = was
differs_then (note.Another which) output was = was
differs_then (note.Lost which cause) output was = was
differs_then (note.Back which) output was = was
differs_then (note.Refused which refusal) output was = was
differs_then (note.Scanned report) output was = was
differs_then (note.Late by) output was = was

-- whether a note tells no output to differ that is told so already, and none to agree that isn't
abbrev pub is_turn : Notice → ℕ → (differed : Bool) → Bool
is_turn (note.Differs which difference) output differed = not (output == which && differed)
is_turn (note.Agrees which) output differed = not (output == which && not differed)
is_turn (note.Unwritten which cause) output differed = true
is_turn (note.Written which) output differed = true
is_turn (note.Found which) output differed = true
is_turn (note.NoMap which) output differed = true
is_turn (note.Another which) output differed = true
is_turn (note.Lost which cause) output differed = true
is_turn (note.Back which) output differed = true
is_turn (note.Refused which refusal) output differed = true
is_turn (note.Scanned report) output differed = true
is_turn (note.Late by) output differed = true

-- where it is told that nothing came of an output's write, that was waited for
abbrev pub WasAwaited : ℕ → Unwritten → DeviceSide → Type 0
WasAwaited which unwritten.Unanswered side = awaits_at side which ≡ true
WasAwaited which (unwritten.Refused code) side = ⊤
WasAwaited which (unwritten.NoSetPoint cause) side = ⊤

-- what the report of a scan says: what the last one came to, and what was counted of its writes
abbrev pub IsReportOf : DeviceSide → Report → Type 0
IsReportOf side report = (report.steps ≡ side.last_scan.steps) × (report.lost ≡ side.last_scan.lost) × (report.writes ≡ side.writes) × (report.refused ≡ side.refused)

-- What a note says is so, as far as it speaks of scans and writes: the report of a scan has what the last one came to, how many
-- writes went out of which something came, and how many of these weren't done; where nothing came of an output's write, that
-- was waited for; and an output that differs from now on, or agrees, is compared, and was told otherwise before.
abbrev pub IsSo : Notice → DeviceSide → Type 0
IsSo (note.Scanned report) side = IsReportOf side report
IsSo (note.Unwritten which cause) side = WasAwaited which cause side
IsSo (note.Written which) side = ⊤
IsSo (note.Differs which difference) side = (compares_at side which ≡ true) × (differs_at side which ≡ false)
IsSo (note.Agrees which) side = (compares_at side which ≡ true) × (differs_at side which ≡ true)
IsSo (note.Found which) side = ⊤
IsSo (note.NoMap which) side = ⊤
IsSo (note.Another which) side = ⊤
IsSo (note.Lost which cause) side = ⊤
IsSo (note.Back which) side = ⊤
IsSo (note.Refused which refusal) side = ⊤
IsSo (note.Late by) side = ⊤

-- what is told of an output that this became of
abbrev pub note_of : ℕ → OutputState → Notice
note_of output state.Written = note.Written output
note_of output (state.Unwritten cause) = note.Unwritten output cause

-- what is told of an output whose device shows this
abbrev pub note_by : ℕ → Shown → Notice
note_by output shown.Same = note.Agrees output
note_by output (shown.Other difference) = note.Differs output difference

-- ---- one step

-- This is told, which is so, where there is room for it, which stays; and devices and outputs stand by it.
pub record Tells (n : Notice) (old new : DeviceSide) : Type 0 where
  pub notes : new.notes.items.items ≡ told n old.notes
  pub room : new.notes.items.cap ≡ old.notes.items.cap
  pub devices : (device : ℕ) → lost_at new device ≡ lost_then n device (lost_at old device)
  pub outputs : (output : ℕ) → state_at new output ≡ state_then n output (state_at old output)
  pub awaited : (output : ℕ) → awaits_at new output ≡ awaited_then n output (awaits_at old output)
  pub differs : (output : ℕ) → differs_at new output ≡ differs_then n output (differs_at old output)
  pub compares : (output : ℕ) → compares_at new output ≡ compares_at old output
  pub last : new.last_scan ≡ old.last_scan
  pub so : IsSo n old

-- Nothing is told, the room for notes stays, no device is lost or back, nothing else becomes of an output, none differs or agrees
-- that didn't, and what the last scan came to stays.
pub record TellsNothing (old new : DeviceSide) : Type 0 where
  pub notes : new.notes.items.items ≡ old.notes.items.items
  pub room : new.notes.items.cap ≡ old.notes.items.cap
  pub devices : (device : ℕ) → lost_at new device ≡ lost_at old device
  pub outputs : (output : ℕ) → state_at new output ≡ state_at old output
  pub differs : (output : ℕ) → differs_at new output ≡ differs_at old output
  pub compares : (output : ℕ) → compares_at new output ≡ compares_at old output
  pub last : new.last_scan ≡ old.last_scan

-- No write is waited for that wasn't.
abbrev pub AwaitsNoMore : DeviceSide → DeviceSide → Type 0
AwaitsNoMore old new = (output : ℕ) → awaits_at new output ≡ true → awaits_at old output ≡ true

-- none but that of this output
abbrev pub AwaitsAlso : ℕ → DeviceSide → DeviceSide → Type 0
AwaitsAlso which old new = (output : ℕ) → awaits_at new output ≡ true → (output ≡ which) ⊎ (awaits_at old output ≡ true)

-- ---- one step after another

-- which losses may be told, by the number of the device; what may be told to have become of an output, by its number: that it is
-- written, or that it isn't, for this; what its device may be told to show of it; the writes of which outputs may be waited for from
-- now on; and what a scan may come to
pub record Allowed : Type 0 where
  pub lost : ℕ → Loss → Bool
  pub became : ℕ → OutputState → Bool
  pub shows : ℕ → Shown → Bool
  pub awaits : ℕ → Bool
  pub scanned : LastScan → Bool

abbrev pub allows : Allowed → Notice → Bool
allows may (note.Lost device why) = may.lost device why
allows may (note.Found device) = true
allows may (note.Back device) = true
allows may (note.NoMap device) = true
allows may (note.Another device) = true
allows may (note.Refused device refusal) = true
allows may (note.Scanned report) = true
allows may (note.Late by) = true
allows may (note.Unwritten output cause) = may.became output (state.Unwritten cause)
allows may (note.Written output) = may.became output state.Written
allows may (note.Differs output difference) = may.shows output (shown.Other difference)
allows may (note.Agrees output) = may.shows output shown.Same

-- From the one to the other by such steps, on which of losses and of outputs only this is told.
pub data Course (may : Allowed) : DeviceSide → DeviceSide → Type 0 where
  stays : (side : DeviceSide) → Course may side side
  tells : {old middle : DeviceSide} → Course may old middle → (n : Notice) (new : DeviceSide) → allows may n ≡ true → Tells n middle new → Course may old new
  goes : {old middle : DeviceSide} → Course may old middle → (new : DeviceSide) → TellsNothing middle new → AwaitsNoMore middle new → Course may old new
  awaits : {old middle : DeviceSide} → Course may old middle → (which : ℕ) (new : DeviceSide) → may.awaits which ≡ true → TellsNothing middle new → AwaitsAlso which middle new → Course may old new
  scans : {old middle : DeviceSide} → Course may old middle → (new : DeviceSide) → may.scanned new.last_scan ≡ true → TellsNothing (record middle { last_scan = new.last_scan }) new → AwaitsNoMore middle new → Course may old new

-- whatever such steps led to the one, they lead to the other
abbrev pub GoesBy : Allowed → DeviceSide → DeviceSide → Type 0
GoesBy may old new = (from : DeviceSide) → ∥ Course may from old ∥₁ → ∥ Course may from new ∥₁

-- the same, and on the way no loss is told, and of no output that it is written or isn't, or how its device shows it; nor is one's
-- write waited for that wasn't, nor is a scan counted
abbrev pub Goes : DeviceSide → DeviceSide → Type 0
Goes old new = (may : Allowed) → GoesBy may old new

-- A loss is told on the way only where this says why: wherever all losses may be told of which it does, those suffice.
abbrev pub LosesBy : (ℕ → Loss → Type 0) → DeviceSide → DeviceSide → Type 0
LosesBy Why old new = (may : Allowed) → ((device : ℕ) (why : Loss) → Why device why → may.lost device why ≡ true) → GoesBy may old new

-- Of an output only that is told on the way of which this says that it is so.
abbrev pub BecomesBy : (ℕ → OutputState → Type 0) → DeviceSide → DeviceSide → Type 0
BecomesBy Is old new = (may : Allowed) → ((output : ℕ) (became : OutputState) → Is output became → may.became output became ≡ true) → GoesBy may old new

-- both so
abbrev pub TellsBy : (ℕ → Loss → Type 0) → (ℕ → OutputState → Type 0) → DeviceSide → DeviceSide → Type 0
TellsBy Why Is old new =
    (may : Allowed) → ((device : ℕ) (why : Loss) → Why device why → may.lost device why ≡ true) → ((output : ℕ) (became : OutputState) → Is output became → may.became output became ≡ true) → GoesBy may old new

-- Of how a device shows an output only that is told on the way which this says.
abbrev pub ShowsBy : (ℕ → Shown → Type 0) → DeviceSide → DeviceSide → Type 0
ShowsBy Shows old new = (may : Allowed) → ((output : ℕ) (this : Shown) → Shows output this → may.shows output this ≡ true) → GoesBy may old new

-- all three so
abbrev pub TellsAllBy : (ℕ → Loss → Type 0) → (ℕ → OutputState → Type 0) → (ℕ → Shown → Type 0) → DeviceSide → DeviceSide → Type 0
TellsAllBy Why Is Shows old new =
    (may : Allowed) → ((device : ℕ) (why : Loss) → Why device why → may.lost device why ≡ true) → ((output : ℕ) (became : OutputState) → Is output became → may.became output became ≡ true) → ((output : ℕ) (this : Shown) → Shows output this → may.shows output this ≡ true) → GoesBy may old new

-- the same where no loss is told
abbrev pub AnswersBy : (ℕ → OutputState → Type 0) → (ℕ → Shown → Type 0) → DeviceSide → DeviceSide → Type 0
AnswersBy Is Shows old new =
    (may : Allowed) → ((output : ℕ) (became : OutputState) → Is output became → may.became output became ≡ true) → ((output : ℕ) (this : Shown) → Shows output this → may.shows output this ≡ true) → GoesBy may old new

-- Of outputs only that is told on the way of which this says that it is so; and only those writes are waited for that weren't of
-- which this says so.
abbrev pub PlansBy : (ℕ → OutputState → Type 0) → (ℕ → Type 0) → DeviceSide → DeviceSide → Type 0
PlansBy Is Waits old new =
    (may : Allowed) → ((output : ℕ) (became : OutputState) → Is output became → may.became output became ≡ true) → ((output : ℕ) → Waits output → may.awaits output ≡ true) → GoesBy may old new

-- The same by a scan that came to this.
abbrev pub RunsBy : LastScan → (ℕ → OutputState → Type 0) → (ℕ → Type 0) → DeviceSide → DeviceSide → Type 0
RunsBy came Is Waits old new =
    (may : Allowed) → ((output : ℕ) (became : OutputState) → Is output became → may.became output became ≡ true) → ((output : ℕ) → Waits output → may.awaits output ≡ true) → may.scanned came ≡ true → GoesBy may old new

-- all of it so
abbrev pub ScansBy : LastScan → (ℕ → Loss → Type 0) → (ℕ → OutputState → Type 0) → (ℕ → Type 0) → DeviceSide → DeviceSide → Type 0
ScansBy came Why Is Waits old new =
    (may : Allowed) → ((device : ℕ) (why : Loss) → Why device why → may.lost device why ≡ true) → ((output : ℕ) (became : OutputState) → Is output became → may.became output became ≡ true) → ((output : ℕ) → Waits output → may.awaits output ≡ true) → may.scanned came ≡ true → GoesBy may old new

-- just this became of this output
abbrev pub IsThis : ℕ → OutputState → ℕ → OutputState → Type 0
IsThis which this output became = (output ≡ which) × (became ≡ this)

-- just this is shown of this output
abbrev pub IsShown : ℕ → Shown → ℕ → Shown → Type 0
IsShown which this output other = (output ≡ which) × (other ≡ this)

-- nothing came of its write
abbrev pub IsUnanswered : ℕ → OutputState → Type 0
IsUnanswered output became = became ≡ state.Unwritten unwritten.Unanswered

-- what was told on the way, the last one first
abbrev pub happened : {may : Allowed} {old new : DeviceSide} → Course may old new → List Notice
happened (stays side) = []
happened (tells course n new allowed step) = n ∷ happened course
happened (goes course new step awaited) = happened course
happened (awaits course which new allowed step awaited) = happened course
happened (scans course new allowed step awaited) = happened course

-- a note that says that nothing came of this output's write
abbrev pub is_unanswered : ℕ → Notice → Bool
is_unanswered output (note.Unwritten which unwritten.Unanswered) = output == which
is_unanswered output (note.Unwritten which (unwritten.Refused code)) = false
is_unanswered output (note.Unwritten which (unwritten.NoSetPoint cause)) = false
is_unanswered output (note.Written which) = false
is_unanswered output (note.Found which) = false
is_unanswered output (note.NoMap which) = false
is_unanswered output (note.Another which) = false
is_unanswered output (note.Lost which cause) = false
is_unanswered output (note.Back which) = false
is_unanswered output (note.Refused which refusal) = false
is_unanswered output (note.Scanned report) = false
is_unanswered output (note.Late by) = false
is_unanswered output (note.Differs which difference) = false
is_unanswered output (note.Agrees which) = false

abbrev pub lost_after : List Notice → ℕ → Bool → Bool
lost_after [] device was = was
lost_after (n ∷ earlier) device was = lost_then n device (lost_after earlier device was)

abbrev pub state_after : List Notice → ℕ → Option OutputState → Option OutputState
state_after [] output was = was
state_after (n ∷ earlier) output was = state_then n output (state_after earlier output was)

abbrev pub differs_after : List Notice → ℕ → Bool → Bool
differs_after [] output was = was
differs_after (n ∷ earlier) output was = differs_then n output (differs_after earlier output was)

-- whether an output is told to differ and to agree by turns
abbrev pub are_turns : List Notice → ℕ → Bool → Bool
are_turns [] output was = true
are_turns (n ∷ earlier) output was = is_turn n output (differs_after earlier output was) && are_turns earlier output was

-- The report of a scan says what the last one came to before these calls, or one of them that may be counted.
abbrev pub IsReported : Allowed → DeviceSide → Notice → Type 0
IsReported may old (note.Scanned report) = (record { steps = report.steps; lost = report.lost } ≡ old.last_scan) ⊎ (may.scanned (record { steps = report.steps; lost = report.lost }) ≡ true)
IsReported may old (note.Unwritten which cause) = ⊤
IsReported may old (note.Written which) = ⊤
IsReported may old (note.Found which) = ⊤
IsReported may old (note.NoMap which) = ⊤
IsReported may old (note.Another which) = ⊤
IsReported may old (note.Lost which cause) = ⊤
IsReported may old (note.Back which) = ⊤
IsReported may old (note.Refused which refusal) = ⊤
IsReported may old (note.Late by) = ⊤
IsReported may old (note.Differs which difference) = ⊤
IsReported may old (note.Agrees which) = ⊤

-- Of how a device shows an output nothing is told where this isn't compared.
abbrev pub IsCompared : DeviceSide → Notice → Type 0
IsCompared side (note.Differs which difference) = compares_at side which ≡ true
IsCompared side (note.Agrees which) = compares_at side which ≡ true
IsCompared side (note.Unwritten which cause) = ⊤
IsCompared side (note.Written which) = ⊤
IsCompared side (note.Found which) = ⊤
IsCompared side (note.NoMap which) = ⊤
IsCompared side (note.Another which) = ⊤
IsCompared side (note.Lost which cause) = ⊤
IsCompared side (note.Back which) = ⊤
IsCompared side (note.Refused which refusal) = ⊤
IsCompared side (note.Scanned report) = ⊤
IsCompared side (note.Late by) = ⊤

-- Over all calls a device is lost, and an output is written or isn't and differs or doesn't, just by what was told of it; and of losses
-- and of outputs only that was told that a call may tell. An output is told to differ and to agree by turns, and neither where it isn't
-- compared. The room for notes stays. Where no call may begin to wait for an output's write, none is waited
-- for that wasn't at first, and of no other one it is told that nothing came of it. Each report of a scan says what the last one came
-- to.
pub record StatesAreByNotes : Type 0 where
  pub devices : (may : Allowed) (old new : DeviceSide) (course : Course may old new) (device : ℕ) → lost_at new device ≡ lost_after (happened course) device (lost_at old device)
  pub outputs : (may : Allowed) (old new : DeviceSide) (course : Course may old new) (output : ℕ) → state_at new output ≡ state_after (happened course) output (state_at old output)
  pub allowed : (may : Allowed) (old new : DeviceSide) (course : Course may old new) → list_all (allows may) (happened course) ≡ true
  pub room : (may : Allowed) (old new : DeviceSide) → Course may old new → new.notes.items.cap ≡ old.notes.items.cap
  pub awaited : (may : Allowed) (old new : DeviceSide) → Course may old new → (output : ℕ) → may.awaits output ≡ false → awaits_at new output ≡ true → awaits_at old output ≡ true
  pub unanswered : (may : Allowed) (old new : DeviceSide) (course : Course may old new) (output : ℕ) → may.awaits output ≡ false → awaits_at old output ≡ false → list_all (λ n. not (is_unanswered output n)) (happened course) ≡ true
  pub reported : (may : Allowed) (old new : DeviceSide) (course : Course may old new) → All (IsReported may old) (happened course)
  pub last : (may : Allowed) (old new : DeviceSide) → Course may old new → (new.last_scan ≡ old.last_scan) ⊎ (may.scanned new.last_scan ≡ true)
  pub differs : (may : Allowed) (old new : DeviceSide) (course : Course may old new) (output : ℕ) → differs_at new output ≡ differs_after (happened course) output (differs_at old output)
  pub turns : (may : Allowed) (old new : DeviceSide) (course : Course may old new) (output : ℕ) → are_turns (happened course) output (differs_at old output) ≡ true
  pub compares : (may : Allowed) (old new : DeviceSide) → Course may old new → (output : ℕ) → compares_at new output ≡ compares_at old output
  pub compared : (may : Allowed) (old new : DeviceSide) (course : Course may old new) → All (IsCompared old) (happened course)
