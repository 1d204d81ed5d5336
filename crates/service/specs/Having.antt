-- What devices have of what was written to them, by their acknowledgements, over all calls (Modbus Application Protocol V1.1b3,
-- sections 6.6 and 6.12).
use Rattle.std.specs.Prelude.{◌≡◌, ◌⊎◌, ◌==◌, ⊤, ℕ, true, Option, None, Some, Result, Ok, Err, if◌then◌else◌}
use Rattle.modbus_frame.specs.declared.message.Exception.{Exception}
use Rattle.site_model.specs.Readings.{known_at}
use Rattle.point_writer.specs.declared.write.Write.{Write}
use Rattle.point_writer.specs.declared.write.NoWrite.{NoWrite}
use Rattle.point_writer.specs.declared.write.NoWrite.TheVariants as refusal
use Rattle.gateway.specs.declared.poller.outcome.Outcome.{Outcome}
use Rattle.gateway.specs.declared.poller.outcome.Outcome.TheVariants as outcome
use Rattle.gateway.specs.event_core.Control.{IsPlanned}
use Rattle.gateway.specs.event_core.Core.{Gateway}
use Rattle.service_requests.specs.declared.request_end.RequestEnd.{RequestEnd}
use Rattle.service_requests.specs.declared.request_end.RequestEnd.TheVariants as fate
use Rattle.service_parts.specs.declared.asked.Aim.{Aim}
use Rattle.service_parts.specs.declared.asked.Aim.TheVariants as aim
use Rattle.service_parts.specs.declared.asked.Asked.{Asked}
use Rattle.service_parts.specs.Answering.{is_answer}
use Rattle.service.specs.declared.device_side.DeviceSide.{DeviceSide}
use Rattle.service.specs.declared.notice.Loss.{Loss}
use Rattle.service.specs.declared.notice.Unwritten.TheVariants as unwritten
use Rattle.service.specs.declared.output.OutputState.{OutputState}
use Rattle.service.specs.declared.output.OutputState.TheVariants as state
use Rattle.service.specs.declared.held_writes.HeldWrite.{HeldWrite}
use Rattle.service.specs.declared.held_writes.HeldWrites.{HeldWrites}
use Rattle.service.specs.Counting.{came_to}
use Rattle.service.specs.Identity as identity
use Rattle.service.specs.Rewriting.{had_without, write_of}
use Rattle.service.specs.Telling.{exception_of}
use Rattle.service.specs.Told.{BecomesBy, IsThis, RunsBy, ScansBy, TellsBy}

-- This is had of an output: by that device, in those registers, since then, and over that connection.
pub record Has (held : HeldWrites) (output : ℕ) (write : HeldWrite) : Type 0 where
  pub is : known_at held.writes.items output ≡ Some write

-- Its device has something of an output.
pub record IsHad (held : HeldWrites) (output : ℕ) : Type 0 where
  pub write : HeldWrite
  pub has : Has held output write

-- No device has anything.
abbrev pub HasNothing : HeldWrites → Type 0
HasNothing held = (output : ℕ) → known_at held.writes.items output ≡ None

-- All that devices have now they had then too, and what is kept of what they said of themselves they said then; and outputs go with the
-- same ones.
pub record StillHas (first held : HeldWrites) : Type 0 where
  pub each : (output : ℕ) (write : HeldWrite) → Has held output write → Has first output write
  pub said : identity.IsWithin first.identities held.identities
  pub companions : held.companions.items ≡ first.companions.items

-- the same as one fact, which a search for a proof doesn't enter
pub data IsWithin (first held : HeldWrites) : Type 0 where
  still : StillHas first held → IsWithin first held

-- Devices have nothing more than they had, and so nothing more than at any time since which they had nothing more.
abbrev pub HasNoMore : HeldWrites → HeldWrites → Type 0
HasNoMore old new = (first : HeldWrites) → IsWithin first old → IsWithin first new

-- ---- by what a device answers

-- what is taken of an output where a request is acknowledged that was made for this
abbrev pub taken_for : Aim → HeldWrite → (output : ℕ) → Option HeldWrite
taken_for (aim.Output which) write output = if which == output then Some write else None
taken_for (aim.Block want) write output = None
taken_for aim.Map write output = None

-- An acknowledgement says that the words of its request are, and no other answer.
abbrev pub taken_by : Outcome → Asked → (now output : ℕ) → Option HeldWrite
taken_by outcome.Wrote asked now output = taken_for asked.aim (write_of asked now) output
taken_by (outcome.Words words) asked now output = None
taken_by (outcome.Exception e) asked now output = None
taken_by outcome.Mismatch asked now output = None
taken_by outcome.Stale asked now output = None

abbrev pub taken_at : RequestEnd → Asked → (now output : ℕ) → Option HeldWrite
taken_at (fate.Told o) asked now output = taken_by o asked now output
taken_at fate.Lost asked now output = None

-- by what became of the request that was under way, if one was; or by nothing yet
abbrev pub taken_if : Option Asked → Option RequestEnd → (now output : ℕ) → Option HeldWrite
taken_if None f now output = None
taken_if (Some asked) None now output = None
taken_if (Some asked) (Some f) now output = taken_at f asked now output

-- This is had of an output, or it is just what this says that is taken.
abbrev pub HasOrTook : (ℕ → Option HeldWrite) → HeldWrites → ℕ → HeldWrite → Type 0
HasOrTook took held output write = Has held output write ⊎ (took output ≡ Some write)

-- What devices have they had before; or it is just what this says that is taken. Outputs go with the same ones.
pub record HasMoreBy (took : ℕ → Option HeldWrite) (old new : HeldWrites) : Type 0 where
  pub each : (output : ℕ) (write : HeldWrite) → Has new output write → HasOrTook took old output write
  pub companions : new.companions.items ≡ old.companions.items

-- This says that something is taken.
abbrev pub IsTaken : (ℕ → Option HeldWrite) → ℕ → Type 0
IsTaken took output = (write : HeldWrite) × (took output ≡ Some write)

-- ---- what is known no more

-- It isn't known any more what this device has; what others have stays.
abbrev pub Forgets : (device : ℕ) → HeldWrites → HeldWrites → Type 0
Forgets device old new = (output : ℕ) → known_at new.writes.items output ≡ had_without device (known_at old.writes.items output)

-- ---- what a device answers otherwise

-- This came of the request that writes an output, and not that its device took it: just this exception, or none.
abbrev pub IsRefusedBy : Outcome → Asked → Option Exception → ℕ → Type 0
IsRefusedBy o asked code output = (asked.aim ≡ aim.Output output) × (o ≡ outcome.Wrote → ⊥) × (exception_of o ≡ code)

-- An answer of its device refuses it.
abbrev pub IsRefusedAt : RequestEnd → Asked → Option Exception → ℕ → Type 0
IsRefusedAt (fate.Told o) asked code output = (is_answer o ≡ true) × IsRefusedBy o asked code output
IsRefusedAt fate.Lost asked code output = ⊥

-- by what became of the request that was under way, if one was; or by nothing yet
abbrev pub IsRefusedIf : Option Asked → Option RequestEnd → Option Exception → ℕ → Type 0
IsRefusedIf None f code output = ⊥
IsRefusedIf (Some asked) None code output = ⊥
IsRefusedIf (Some asked) (Some f) code output = IsRefusedAt f asked code output

-- ---- what is told of it

-- While a service goes on by itself: an output is told as written where its device has it, and as not written where nothing came
-- of its write, or what it goes with isn't had; for no other cause.
abbrev pub IsToldBy : HeldWrites → ℕ → OutputState → Type 0
IsToldBy held output state.Written = IsHad held output
IsToldBy held output (state.Unwritten unwritten.Unanswered) = ⊤
IsToldBy held output (state.Unwritten (unwritten.Refused code)) = ⊥
IsToldBy held output (state.Unwritten (unwritten.NoSetPoint cause)) = cause ≡ refusal.With

-- An output is told as written where it is taken now, and as refused, by an exception or not, where it is so.
abbrev pub IsAnsweredBy : (ℕ → Option HeldWrite) → (Option Exception → ℕ → Type 0) → ℕ → OutputState → Type 0
IsAnsweredBy took IsRefused output state.Written = IsTaken took output
IsAnsweredBy took IsRefused output (state.Unwritten (unwritten.Refused code)) = IsRefused code output
IsAnsweredBy took IsRefused output (state.Unwritten unwritten.Unanswered) = ⊥
IsAnsweredBy took IsRefused output (state.Unwritten (unwritten.NoSetPoint cause)) = ⊥

-- By what comes of a request: so, or as while a service goes on by itself.
abbrev pub IsHeardBy : (ℕ → Option HeldWrite) → (Option Exception → ℕ → Type 0) → HeldWrites → ℕ → OutputState → Type 0
IsHeardBy took IsRefused held output became = IsToldBy held output became ⊎ IsAnsweredBy took IsRefused output became

-- This is planned for an output: nothing, for a cause.
abbrev pub IsOfPlan : ℕ → Result Write NoWrite → ℕ → OutputState → Type 0
IsOfPlan which (Ok write) output became = ⊥
IsOfPlan which (Err cause) output became = IsThis which (state.Unwritten (unwritten.NoSetPoint cause)) output became

-- its write is waited for, where one is planned
abbrev pub IsToWait : ℕ → Result Write NoWrite → ℕ → Type 0
IsToWait which (Ok write) output = output ≡ which
IsToWait which (Err cause) output = ⊥

-- The core plans a write for an output.
abbrev pub IsToWrite : Gateway → ℕ → Type 0
IsToWrite core output = (write : Write) × IsPlanned core output (Ok write)

-- The core plans nothing for an output, for this.
abbrev pub IsUnplanned : Gateway → ℕ → OutputState → Type 0
IsUnplanned core output state.Written = ⊥
IsUnplanned core output (state.Unwritten unwritten.Unanswered) = ⊥
IsUnplanned core output (state.Unwritten (unwritten.Refused code)) = ⊥
IsUnplanned core output (state.Unwritten (unwritten.NoSetPoint cause)) = IsPlanned core output (Err cause)

-- By a scan, after which the core is this: so, or as while a service goes on by itself.
abbrev pub IsToldAt : Gateway → HeldWrites → ℕ → OutputState → Type 0
IsToldAt core held output became = IsToldBy held output became ⊎ IsUnplanned core output became

-- Of an output only that is told on the way which a service tells while it goes on by itself.
abbrev pub WritesHad : HeldWrites → DeviceSide → DeviceSide → Type 0
WritesHad held old new = (first : HeldWrites) → IsWithin first held → BecomesBy (IsToldBy first) old new

-- The same, and a loss is told on the way only where this says why.
abbrev pub TellsHad : (ℕ → Loss → Type 0) → HeldWrites → DeviceSide → DeviceSide → Type 0
TellsHad Why held old new = (first : HeldWrites) → IsWithin first held → TellsBy Why (IsToldBy first) old new

-- Both so by a scan, after which the core is this: those writes are waited for from then on that it plans.
abbrev pub WritesAt : Gateway → HeldWrites → DeviceSide → DeviceSide → Type 0
WritesAt core held old new = (first : HeldWrites) → IsWithin first held → RunsBy (came_to core.standing.last) (IsToldAt core first) (IsToWrite core) old new

abbrev pub TellsAt : (ℕ → Loss → Type 0) → Gateway → HeldWrites → DeviceSide → DeviceSide → Type 0
TellsAt Why core held old new = (first : HeldWrites) → IsWithin first held → ScansBy (came_to core.standing.last) Why (IsToldAt core first) (IsToWrite core) old new
