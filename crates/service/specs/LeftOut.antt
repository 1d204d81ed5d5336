-- Which writes to a device are left out: those that would write once more what the device has, those of an output without the one
-- that it goes with, and no others. No standard says when; it is this project's.
use Rattle.std.specs.Prelude.{◌≡◌, ◌⊎◌, ℕ, List, Option, None, Some, slice_get, if◌then◌else◌}
use Rattle.modbus_frame.specs.declared.message.Request.{Request}
use Rattle.site_model.specs.declared.device.SiteDevice.{SiteDevice}
use Rattle.gateway.specs.declared.poller.cycle.Call.{Call}
use Rattle.point_writer.specs.declared.write.NoWrite.TheVariants as refusal
use Rattle.site_model.specs.Readings.{known_at}
use Rattle.service_parts.specs.declared.asked.Aim.{Aim}
use Rattle.service_parts.specs.declared.asked.Aim.TheVariants as aim
use Rattle.service.specs.declared.round.Turn.TheVariants as turn
use Rattle.service.specs.declared.wish.Wish.{Wish}
use Rattle.service.specs.declared.held_back.LeftOut.{LeftOut}
use Rattle.service.specs.declared.held_back.LeftOut.TheVariants as why
use Rattle.service.specs.declared.held_writes.HeldWrite.{HeldWrite}
use Rattle.service.specs.declared.held_writes.HeldWrites.{HeldWrites}
use Rattle.service.specs.declared.notice.Unwritten.TheVariants as unwritten
use Rattle.service.specs.declared.output.OutputState.{OutputState}
use Rattle.service.specs.declared.output.OutputState.TheVariants as state
use Rattle.service.specs.Having.{Has}
use Rattle.service.specs.Pairing.{IsPaired, is_had_if}
use Rattle.service.specs.Rewriting.{is_held, kept_for}
use Rattle.service.specs.Stages.{Ends, OpensNext, Stage}
use Rattle.service.specs.Told.{IsThis}

-- ---- what is written to a device next

-- The next request to the device is this one.
pub record IsNext (device : ℕ) (made_for : Aim) (request : Request) (old new : Stage) : Type 0 where
  pub call : Call
  pub opens : OpensNext device (turn.Ask made_for call) old new
  pub own : call.request ≡ request

abbrev pub GivesNext : ℕ → Option Wish → Stage → Stage → Type 0
GivesNext device None old new = OpensNext device turn.Rest old new
GivesNext device (Some wish) old new = IsNext device wish.aim wish.request old new

-- ---- what is left out of that

-- why a request over the connection with this number isn't made, if so: its output goes with one that wasn't taken over it, or the
-- device has just what it writes
abbrev pub left_in : List (Option ℕ) → List (Option HeldWrite) → (device number within now : ℕ) → Aim → Request → Option LeftOut
left_in companions writes device number within now (aim.Output output) asked =
    if is_had_if writes number (known_at companions output) then (if is_held writes output device asked number within now then Some (why.Held output) else None) else Some (why.Alone output)
left_in companions writes device number within now (aim.Block want) asked = None
left_in companions writes device number within now aim.Map asked = None

-- the same by what devices have
abbrev pub left_by : HeldWrites → (device number now : ℕ) → Stage → Aim → Request → Option LeftOut
left_by held device number now s made_for request = left_in held.companions.items held.writes.items device number (kept_for s.core.site.devices device) now made_for request

-- Requests to the device are left out, one after another, each for a cause.
pub data LeavesOut (device : ℕ) (left : Stage → Aim → Request → Option LeftOut) (old : Stage) : Stage → Type 0 where
  leaves_none : LeavesOut device left old old
  leaves_more : {s : Stage} → LeavesOut device left old s → (made_for : Aim) (request : Request) (cause : LeftOut) (t : Stage) → IsNext device made_for request s t → left t made_for request ≡ Some cause
      → (u : Stage) → Ends device t u → LeavesOut device left old u

-- Some are left out, and then this is the next request to the device, or there is none, or none so far.
pub record GivesDue (device : ℕ) (left : Stage → Aim → Request → Option LeftOut) (wish : Option Wish) (old new : Stage) : Type 0 where
  pub middle : Stage
  pub leaves : LeavesOut device left old middle
  pub next : GivesNext device wish middle new ⊎ ((wish ≡ None) × (new ≡ middle))

-- This is told of an output that is left out: it is written, or it isn't, for want of what it goes with.
abbrev pub IsLeftOut : LeftOut → ℕ → OutputState → Type 0
IsLeftOut (why.Held output) = IsThis output state.Written
IsLeftOut (why.Alone output) = IsThis output (state.Unwritten (unwritten.NoSetPoint refusal.With))

-- ---- without `rewrite`

-- Where the site says no `rewrite` of a device, or 0, no request to it is left out except for what it goes with.
abbrev pub NothingIsLeftOutWithoutRewrite : Type 0
NothingIsLeftOutWithoutRewrite = (held : HeldWrites) (device number now : ℕ) (s : Stage) (own : SiteDevice) (made_for : Aim) (request : Request)
    → slice_get s.core.site.devices device ≡ Some own → own.rewrite ≡ 0 → IsPaired held.companions.items (Has held) number made_for → left_by held device number now s made_for request ≡ None
