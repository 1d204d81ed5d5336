-- What goes out over the connections of a service while it goes on: each write that begins was still to be made, and isn't any
-- more (Modbus Application Protocol V1.1b3, sections 6.6 and 6.12).
use Rattle.std.specs.Prelude.{◌≡◌, ℕ, ◌+◌, List, Option, None, Some}
use Rattle.service_requests.specs.declared.task.Task.{Task}
use Rattle.service_parts.specs.declared.asked.Aim.{Aim}
use Rattle.service_parts.specs.declared.device_connection.DeviceConnection.{DeviceConnection}
use Rattle.service_parts.specs.declared.limits.Limits.{Limits}
use Rattle.service_parts.specs.Frames.{IsLed, LinkGoes, TakesDue, due_at}
use Rattle.service.specs.declared.service_state.Service.{Service}
use Rattle.service.specs.declared.wish.Wish.{Wish}

-- ---- what is still to be written

-- Whatever lines there are and none of them changes: no output's write becomes due.
abbrev pub NoMoreDue : List Task → List Task → Type 0
NoMoreDue before after = (now : ℕ) (limits : Limits) (lines : List DeviceConnection) (link : ℕ) → LinkGoes now limits link before lines after lines

-- The next request to a device takes its write from what is due.
abbrev pub TakesNext : Option Wish → List Task → List Task → Type 0
TakesNext None before after = NoMoreDue before after
TakesNext (Some wish) before after = TakesDue wish.aim before after

-- ---- a service

-- This is still to be written.
abbrev pub tasks_of : Service → List Task
tasks_of s = s.cycle.round.writes

-- All connections go on so, at the time that it is now: what goes out over them is of what was due, and each request that begins
-- has its time from now on.
abbrev pub LinksGo : Service → Service → Type 0
LinksGo old new = (link : ℕ) → LinkGoes new.side.now new.side.limits link (tasks_of old) old.lines.lines.items (tasks_of new) new.lines.lines.items

-- all but that of one link
abbrev pub OtherLinksGo : ℕ → Service → Service → Type 0
OtherLinksGo at old new = (link : ℕ) → (link ≡ at → ⊥) → LinkGoes new.side.now new.side.limits link (tasks_of old) old.lines.lines.items (tasks_of new) new.lines.lines.items

-- The same where the program runs on the way, right after which this is still to be written: each output of it may be written once
-- more.
abbrev pub LinksGoByScan : List Task → Service → Service → Type 0
LinksGoByScan scanned old new =
    (link : ℕ) (most : ℕ → ℕ) (from : DeviceConnection) → ∥ IsLed new.side.now new.side.limits most from (tasks_of old) old.lines.lines.items link ∥₁
    → ∥ IsLed new.side.now new.side.limits (λ output. most output + due_at output scanned) from (tasks_of new) new.lines.lines.items link ∥₁

-- ---- a request that may begin

-- They go on so; and then a request that is made for this is taken from what is due, which didn't begin yet.
pub record IsOpened (made_for : Aim) (old new : Service) : Type 0 where
  pub before : List Task
  pub goes : (link : ℕ) → LinkGoes new.side.now new.side.limits link (tasks_of old) old.lines.lines.items before new.lines.lines.items
  pub takes : TakesDue made_for before (tasks_of new)

abbrev pub WishGoes : Option Wish → Service → Service → Type 0
WishGoes None old new = LinksGo old new
WishGoes (Some wish) old new = IsOpened wish.aim old new

-- Such a request begins, where one may: what was taken is of what was due before.
abbrev pub BeginsOf : Aim → Service → Service → Type 0
BeginsOf made_for old new =
    (before : List Task) → TakesDue made_for before (tasks_of old) → (link : ℕ) → LinkGoes new.side.now new.side.limits link before old.lines.lines.items (tasks_of new) new.lines.lines.items

-- ---- from a line on

-- So from this line on, on which no write began so far.
abbrev pub IsLedFrom : DeviceConnection → Service → Service → ℕ → Type 0
IsLedFrom from old new link = ∥ IsLed new.side.now new.side.limits (λ output. due_at output (tasks_of old)) from (tasks_of new) new.lines.lines.items link ∥₁
