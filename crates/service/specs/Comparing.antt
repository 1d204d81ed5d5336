-- How outputs stand after a wanted block is told: as their device shows them. No standard says it; it is this project's.
use Rattle.std.specs.Prelude.{◌≡◌, ℕ, Bool, true, false, ◌&&◌, ◌||◌, ◌==◌, List, option_map, Option, None, Some, slice_get, if◌then◌else◌}
use Rattle.site_model.specs.Readings.{known_at}
use Rattle.point_writer.specs.declared.write.NoWrite.TheVariants as refusal
use Rattle.service_parts.specs.declared.asked.Asked.{Asked}
use Rattle.service.specs.declared.device_side.DeviceSide.{DeviceSide}
use Rattle.service.specs.declared.held_writes.HeldWrite.{HeldWrite}
use Rattle.service.specs.declared.held_writes.HeldWrites.{HeldWrites}
use Rattle.service.specs.declared.notice.Unwritten.{Unwritten}
use Rattle.service.specs.declared.notice.Unwritten.TheVariants as unwritten
use Rattle.service.specs.declared.output.Output.{Output}
use Rattle.service.specs.declared.output.OutputState.{OutputState}
use Rattle.service.specs.declared.output.OutputState.TheVariants as state
use Rattle.service.specs.declared.read_back.Difference.{Difference}
use Rattle.service.specs.declared.read_back.Shown.{Shown}
use Rattle.service.specs.declared.read_back.Shown.TheVariants as shown
use Rattle.service.specs.declared.service_state.Service.{Service}
use Rattle.service.specs.Having.{IsHad}
use Rattle.service.specs.ReadBack.{shown_in}
use Rattle.service.specs.Told.{compares_at, differs_at, state_at}
use Rattle.service.specs.Turning.{after_block}

abbrev pub is_other : Option Shown → Bool
is_other None = false
is_other (Some shown.Same) = false
is_other (Some (shown.Other difference)) = true

-- What differs isn't had any more, so that it is written again in the next scan.
abbrev pub had_after : Option Shown → (is_compared : Bool) → Option HeldWrite → Option HeldWrite
had_after this is_compared entry = if is_compared && is_other this then None else entry

-- An output stands as this is shown of it; where nothing is, as before.
pub record IsCompared (this : Option Shown) (output : ℕ) (old new : Service) : Type 0 where
  pub stands : slice_get new.side.outputs.items output ≡ option_map (after_block this) (slice_get old.side.outputs.items output)
  pub held : known_at new.held.writes.items output ≡ had_after this (compares_at old.side output) (known_at old.held.writes.items output)

-- So each does by a block that was asked for.
abbrev pub AreCompared : Asked → List ℕ → Service → Service → Type 0
AreCompared asked block old new = (output : ℕ) → IsCompared (shown_in old.held asked block output) output old new

-- So this one does, and all others as before.
abbrev pub ComparesOne : Option Shown → ℕ → Service → Service → Type 0
ComparesOne this which old new = (output : ℕ) → IsCompared (if output == which then this else None) output old new

-- Nothing came of its write, or it isn't written for want of what it goes with.
abbrev pub is_left_for : Unwritten → Bool
is_left_for unwritten.Unanswered = true
is_left_for (unwritten.NoSetPoint refusal.With) = true
is_left_for (unwritten.NoSetPoint refusal.NotSet) = false
is_left_for (unwritten.NoSetPoint refusal.NoBlock) = false
is_left_for (unwritten.NoSetPoint refusal.BadScale) = false
is_left_for (unwritten.NoSetPoint refusal.Inexact) = false
is_left_for (unwritten.NoSetPoint refusal.OutOfType) = false
is_left_for (unwritten.Refused code) = false

abbrev pub is_left : Option OutputState → Bool
is_left None = false
is_left (Some state.Written) = false
is_left (Some (state.Unwritten cause)) = is_left_for cause

-- Of which outputs this says that their devices show something else than they took, that is told from now on, of those that are
-- compared; unless it is told that nothing came of their write.
abbrev pub TellsOthers : (ℕ → Shown → Type 0) → DeviceSide → DeviceSide → Type 0
TellsOthers Shows old new =
    (output : ℕ) (difference : Difference) → Shows output (shown.Other difference) → compares_at old output ≡ true → (differs_at new output || is_left (state_at new output)) ≡ true

-- Of which outputs this says that their devices show something else than they took, nothing is had any more.
abbrev pub WritesAnew : (ℕ → Shown → Type 0) → DeviceSide → HeldWrites → Type 0
WritesAnew Shows side left = (output : ℕ) (difference : Difference) → Shows output (shown.Other difference) → compares_at side output ≡ true → IsHad left output → ⊥
