-- What becomes of a connection to devices by a call of a service (MODBUS Messaging on TCP/IP Implementation Guide, section
-- 4.4.1).
use Rattle.std.specs.Prelude.{ℕ, List, Option}
use Rattle.service_requests.specs.declared.request_end.RequestEnd.{RequestEnd}
use Rattle.service_parts.specs.declared.limits.Station.{Station}
use Rattle.service_parts.specs.declared.device_connection.DeviceConnection.{DeviceConnection}
use Rattle.service_parts.specs.Frames as frames
use Rattle.service_parts.specs.Frames.{IsLed, due_at}
use Rattle.service.specs.declared.device_side.DeviceSide.{DeviceSide}
use Rattle.service.specs.declared.cycle.Cycle.{Cycle}
use Rattle.service.specs.declared.held_writes.HeldWrites.{HeldWrites}
use Rattle.service.specs.declared.service_state.Service.{Service}
use Rattle.service.specs.Comparing.{TellsOthers, WritesAnew}
use Rattle.service.specs.Cycle.{HearsBy}
use Rattle.service.specs.Going.{IsLedFrom}
use Rattle.service.specs.Having.{HasMoreBy, HasOrTook, IsHeardBy, IsRefusedIf, taken_if}
use Rattle.service.specs.Identity.{IsSaidIf, SaysMoreBy}
use Rattle.service.specs.Losing.{LostByHearing}
use Rattle.service.specs.ReadBack.{IsShownIf}
use Rattle.service.specs.Together.{AllGoWith}
use Rattle.service.specs.Told.{TellsAllBy}

-- These bytes are taken of a link's stream, except those that are left: they tell what became of the request that is under way on it,
-- of no other one; or nothing yet, and then nothing happens. Then the service goes on by itself. Devices are lost by what became of it alone. They have
-- more by an acknowledgement of it alone, from now on, and a write that begins goes with what they had before or have by that; and outputs are told as
-- written that a device has, and as refused by what became of it alone. Where it brings a wanted block, it is told how that shows outputs, each that differs
-- too, and what differs from what its device took isn't had any more. What is kept of what devices say of themselves it said, or they had said it before.
pub record HearsOver (stations : List Station) (link : ℕ) (line : DeviceConnection) (bytes unused : List ℕ) (now : ℕ) (old new : Cycle) (side next : DeviceSide) (held left : HeldWrites) (before : List DeviceConnection) (numbers : List ℕ) (lines : List DeviceConnection) : Type 0 where
  pub fate : Option RequestEnd
  pub heard : DeviceConnection
  pub hears : frames.Hears bytes unused fate line heard
  pub goes : ∥ IsLed now next.limits (λ output. due_at output old.round.writes) heard new.round.writes lines link ∥₁
  pub settles : HearsBy fate line.asked old new
  pub has : HasMoreBy (taken_if line.asked fate now) held left
  pub together : AllGoWith held.companions.items (HasOrTook (taken_if line.asked fate now) held) before numbers lines
  pub says : SaysMoreBy (IsSaidIf line.asked fate) held.identities left.identities
  pub tells : TellsAllBy (LostByHearing stations link line.asked fate) (IsHeardBy (taken_if line.asked fate now) (IsRefusedIf line.asked fate) held) (IsShownIf old.core.value.site.wants held line.asked fate) side next
  pub differing : TellsOthers (IsShownIf old.core.value.site.wants held line.asked fate) side next
  pub anew : WritesAnew (IsShownIf old.core.value.site.wants held line.asked fate) side left

abbrev pub Hears : ℕ → DeviceConnection → (bytes unused : List ℕ) → Service → Service → Type 0
Hears link line bytes unused old new =
    HearsOver old.lines.links.stations.items link line bytes unused new.side.now old.cycle new.cycle old.side new.side old.held new.held old.lines.lines.items new.lines.links.numbers.items new.lines.lines.items

-- This became of a link's line, and then the service goes on by itself.
pub record GoesFrom (Is : DeviceConnection → Type 0) (link : ℕ) (old new : Service) : Type 0 where
  pub became : DeviceConnection
  pub is : Is became
  pub goes : IsLedFrom became old new link
