-- What is told of devices and outputs, and how they stand by it. No standard says what is told; it is this project's.
use Rattle.std.specs.Prelude.{◌≡◌, ℕ, Bool, true, false, not, ◌&&◌, ◌||◌, nat_lt, List, [], ◌∷◌, ◌++◌, set, Option, None, Some, if◌then◌else◌}
use Rattle.service.specs.declared.polled_device.PolledDevice.{PolledDevice}
use Rattle.service.specs.declared.device_side.DeviceSide.{DeviceSide}
use Rattle.service.specs.declared.notice.Loss.{Loss}
use Rattle.service.specs.declared.notice.Notice.{Notice}
use Rattle.service.specs.declared.notice.Notice.TheVariants as note
use Rattle.service.specs.declared.notices.Notices.{Notices}
use Rattle.service.specs.declared.refusals.ReadRefusal.{ReadRefusal}
use Rattle.service.specs.Counting.{lost_once_more}
use Rattle.service.specs.Refusing.{is_more, with_refusal}

-- ---- the notes that weren't taken yet

-- a note after the others, where there is room for it
abbrev pub told : Notice → Notices → List Notice
told n notes = if nat_lt notes.items.len notes.items.cap then notes.items.items ++ (n ∷ []) else notes.items.items

abbrev pub told_if : Bool → Notice → Notices → List Notice
told_if true n notes = told n notes
told_if false n notes = notes.items.items

-- the oldest is taken, where there is one, and the others stay
abbrev pub TakesOldest : List Notice → Option Notice → List Notice → Type 0
TakesOldest [] taken left = (taken ≡ None) × (left ≡ [])
TakesOldest (n ∷ notes) taken left = (taken ≡ Some n) × (left ≡ notes)

-- ---- devices

-- lost once more, for this
abbrev pub lost_by : Loss → PolledDevice → PolledDevice
lost_by loss own = record own { is_lost = true; last_loss = Some loss; counts = lost_once_more loss own.counts }

-- This device is lost, for this; it is told where it wasn't lost before.
pub record Loses (device : ℕ) (loss : Loss) (own : PolledDevice) (old new : DeviceSide) : Type 0 where
  pub stands : new.devices.items ≡ set old.devices.items device (lost_by loss own)
  pub tells : new.notes.items.items ≡ told_if (not own.is_lost) (note.Lost device loss) old.notes

-- the right one is found: it isn't lost any more, and is read at once
abbrev pub found_by : PolledDevice → PolledDevice
found_by own = record own { is_lost = false; is_behind = true; is_told = true; is_another = false; is_another_told = false }

-- Its map is found. It is told, unless that was told before and it wasn't lost since.
pub record Finds (device : ℕ) (own : PolledDevice) (old new : DeviceSide) : Type 0 where
  pub stands : new.devices.items ≡ set old.devices.items device (found_by own)
  pub tells : new.notes.items.items ≡ told_if (own.is_lost || not own.is_told) (note.Found device) old.notes

-- it answered: one that has a map isn't lost any more, and is read at once where it was
abbrev pub heard_by : Bool → PolledDevice → PolledDevice
heard_by is_mapped own = record own { misses = 0; is_behind = own.is_behind || (own.is_lost && is_mapped); is_lost = own.is_lost && not is_mapped }

-- It answered: one that was lost and has a map is back, which is told.
pub record HearsFrom (device : ℕ) (is_mapped : Bool) (own : PolledDevice) (old new : DeviceSide) : Type 0 where
  pub stands : new.devices.items ≡ set old.devices.items device (heard_by is_mapped own)
  pub tells : new.notes.items.items ≡ told_if (own.is_lost && is_mapped) (note.Back device) old.notes

-- it refused this
abbrev pub refusing : ReadRefusal → PolledDevice → PolledDevice
refusing refusal own = record own { refusals = with_refusal refusal own.refusals }

-- This device refused this; it is told where it is one more.
pub record Refuses (device : ℕ) (refusal : ReadRefusal) (own : PolledDevice) (old new : DeviceSide) : Type 0 where
  pub stands : new.devices.items ≡ set old.devices.items device (refusing refusal own)
  pub tells : new.notes.items.items ≡ told_if (is_more refusal own.refusals) (note.Refused device refusal) old.notes
