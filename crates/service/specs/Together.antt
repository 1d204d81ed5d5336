-- Outputs that go together, over all calls: a write that begins is of an output that goes with none, or with one that its device
-- has, by an acknowledgement over the very connection. No standard says it; site files are this project's.
use Rattle.std.specs.Prelude.{◌≡◌, ℕ, List, Option, Some, slice_get}
use Rattle.service_parts.specs.declared.asked.Aim.{Aim}
use Rattle.service_parts.specs.declared.asked.Asked.{Asked}
use Rattle.service_parts.specs.declared.device_connection.DeviceConnection.{DeviceConnection}
use Rattle.service_parts.specs.Overdue.{asked_at}
use Rattle.service.specs.declared.held_writes.HeldWrite.{HeldWrite}
use Rattle.service.specs.declared.held_writes.HeldWrites.{HeldWrites}
use Rattle.service.specs.declared.service_state.Service.{Service}
use Rattle.service.specs.Having.{Has, IsWithin}
use Rattle.service.specs.Pairing.{IsPaired}

-- ---- what is under way over a link

-- `companions` says which output each one goes with, `Holds` what is had of each, `numbers` which connection each link has.
module _ (companions : List (Option ℕ)) (Holds : ℕ → HeldWrite → Type 0) where
  -- A request was under way over a link at first; or it goes with what is had, over the connection that the link has now.
  pub data GoesWith (first : List DeviceConnection) (numbers : List ℕ) (link : ℕ) (asked : Asked) : Type 0 where
    was : asked_at first link ≡ Some asked → GoesWith first numbers link asked
    goes : ((number : ℕ) → slice_get numbers link ≡ Some number → IsPaired companions Holds number asked.aim) → GoesWith first numbers link asked

  -- So the request that is under way over a link, if one is.
  pub record GoesOver (first : List DeviceConnection) (numbers : List ℕ) (lines : List DeviceConnection) (link : ℕ) : Type 0 where
    pub line : DeviceConnection
    pub there : slice_get lines link ≡ Some line
    pub each : (asked : Asked) → line.asked ≡ Some asked → GoesWith first numbers link asked

  -- So each request that is under way, over each link that was there at first.
  pub data AllGoWith (first : List DeviceConnection) (numbers : List ℕ) (lines : List DeviceConnection) : Type 0 where
    all : ((link : ℕ) (line : DeviceConnection) → slice_get first link ≡ Some line → ∥ GoesOver first numbers lines link ∥₁) → AllGoWith first numbers lines

-- ---- a service

-- While a service goes on: what is under way over its links was so at first, or goes with what devices had then and still have.
abbrev pub StillGoWith : HeldWrites → List DeviceConnection → Service → Type 0
StillGoWith held first s = AllGoWith held.companions.items (Has held) first s.lines.links.numbers.items s.lines.lines.items

-- Where that was so it is so: each write that begins goes with what is had.
abbrev pub GoTogether : Service → Service → Type 0
GoTogether old new = (held : HeldWrites) (first : List DeviceConnection) → IsWithin held old.held → StillGoWith held first old → StillGoWith held first new

-- A request that is made for this, over a link, goes with what is had.
abbrev pub MayBegin : ℕ → Service → Aim → Type 0
MayBegin link s made_for = (number : ℕ) → slice_get s.lines.links.numbers.items link ≡ Some number → IsPaired s.held.companions.items (Has s.held) number made_for

-- Such a request begins, where one may; and no other write does.
abbrev pub BeginsWith : ℕ → Aim → Service → Service → Type 0
BeginsWith link made_for old new =
    (held : HeldWrites) (first : List DeviceConnection) → ((number : ℕ) → slice_get old.lines.links.numbers.items link ≡ Some number → IsPaired held.companions.items (Has held) number made_for)
    → StillGoWith held first old → StillGoWith held first new

-- ---- over all calls

-- Whatever a call does by which outputs go together: the request that is under way over a link was so before the call; or it goes
-- with what its device had before the call.
abbrev pub WritesGoWithWhatIsHad : Type 0
WritesGoWithWhatIsHad = (old new : Service) → GoTogether old new → (link : ℕ) (line : DeviceConnection) → slice_get old.lines.lines.items link ≡ Some line
    → ∥ GoesOver old.held.companions.items (Has old.held) old.lines.lines.items new.lines.links.numbers.items new.lines.lines.items link ∥₁
