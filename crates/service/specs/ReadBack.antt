-- What a device shows of what was written to it, where its block is read (Modbus Application Protocol V1.1b3, sections 6.3, 6.6 and
-- 6.12). That it is to show what it took is this project's rule.
use Rattle.std.specs.Prelude.{◌≡◌, ℕ, ◌-◌, nat_eq, nat_le, Bool, true, false, ◌&&◌, List, [], ◌∷◌, length, take, drop, option_map, option_and_then, Option, None, Some, slice_get, if◌then◌else◌}
use Rattle.std.specs.Option.{option_map_or}
use Rattle.std.specs.Str.{bytes_eq}
use Rattle.site_model.specs.declared.want.Want.{Want}
use Rattle.site_model.specs.Readings.{known_at}
use Rattle.gateway.specs.declared.poller.outcome.Outcome.{Outcome}
use Rattle.gateway.specs.declared.poller.outcome.Outcome.TheVariants as outcome
use Rattle.service_requests.specs.declared.request_end.RequestEnd.{RequestEnd}
use Rattle.service_requests.specs.declared.request_end.RequestEnd.TheVariants as fate
use Rattle.service_parts.specs.declared.asked.Aim.{Aim}
use Rattle.service_parts.specs.declared.asked.Aim.TheVariants as aim
use Rattle.service_parts.specs.declared.asked.Asked.{Asked}
use Rattle.service.specs.declared.held_writes.HeldWrite.{HeldWrite}
use Rattle.service.specs.declared.held_writes.HeldWrites.{HeldWrites}
use Rattle.service.specs.declared.read_back.Registers.{Registers}
use Rattle.service.specs.declared.read_back.Registers.TheVariants as registers
use Rattle.service.specs.declared.read_back.Shown.{Shown}
use Rattle.service.specs.declared.read_back.Shown.TheVariants as shown

-- ---- the words of a block

-- a block has its model's ID first (SunSpec Device Information Model Specification, models)
abbrev pub begins_with : (model : ℕ) → List ℕ → Bool
begins_with model [] = false
begins_with model (first ∷ words) = nat_eq first model

abbrev pub is_block : List Want → Aim → List ℕ → Bool
is_block wants (aim.Block i) words = option_map_or (λ (want : Want). begins_with want.model words) (slice_get wants i) false
is_block wants (aim.Output output) words = false
is_block wants aim.Map words = false

-- the block that is told by what comes of the request for it
abbrev pub block_by : List Want → Aim → Outcome → Option (List ℕ)
block_by wants made_for (outcome.Words words) = if is_block wants made_for words then Some words else None
block_by wants made_for outcome.Wrote = None
block_by wants made_for (outcome.Exception e) = None
block_by wants made_for outcome.Mismatch = None
block_by wants made_for outcome.Stale = None

abbrev pub first_of : ℕ → List ℕ → Option (List ℕ)
first_of count words = if nat_le count (length words) then Some (take count words) else None

-- so many registers from an address on, of a block that was read from another; none where it hasn't all of them
abbrev pub shown_at : (from : ℕ) → List ℕ → (address count : ℕ) → Option (List ℕ)
shown_at from block address count = if nat_le from address then first_of count (drop (address - from) block) else None

-- ---- what it shows of an output

-- the registers of a point are one, two or four
abbrev pub registers_of : List ℕ → Option Registers
registers_of [] = None
registers_of (a ∷ []) = Some (registers.One a)
registers_of (a ∷ b ∷ []) = Some (registers.Two a b)
registers_of (a ∷ b ∷ c ∷ []) = None
registers_of (a ∷ b ∷ c ∷ d ∷ []) = Some (registers.Four a b c d)
registers_of (a ∷ b ∷ c ∷ d ∷ e ∷ words) = None

abbrev pub words_of : Registers → List ℕ
words_of (registers.One a) = a ∷ []
words_of (registers.Two a b) = a ∷ b ∷ []
words_of (registers.Four a b c d) = a ∷ b ∷ c ∷ d ∷ []

abbrev pub other_of : Option Registers → Option Registers → Option Shown
other_of None shows = None
other_of (Some wrote) None = None
other_of (Some wrote) (Some shows) = Some (shown.Other (record { wrote = wrote; shows = shows }))

-- what a device took, or other words
abbrev pub compared : (wrote shows : List ℕ) → Option Shown
compared wrote shows = if bytes_eq wrote shows then Some shown.Same else other_of (registers_of wrote) (registers_of shows)

-- It is of the device that answers, over the connection of this answer.
abbrev pub is_over : HeldWrite → Asked → Bool
is_over write asked = nat_eq write.device asked.device && nat_eq write.number asked.number

-- what a block that was asked for shows of what a device took: of that of another device, and of that over another connection,
-- nothing
abbrev pub shown_of : HeldWrite → Asked → List ℕ → Option Shown
shown_of write asked block = if is_over write asked then option_and_then (compared write.words) (shown_at asked.address block write.address (length write.words)) else None

-- what it shows of an output, by what is had of this
abbrev pub shown_in : HeldWrites → Asked → List ℕ → (output : ℕ) → Option Shown
shown_in held asked block output = option_and_then (λ (write : HeldWrite). shown_of write asked block) (known_at held.writes.items output)

-- ---- what of it is told

-- The answer to the request for a wanted block shows this of an output.
abbrev pub IsShownBy : List Want → HeldWrites → Asked → Outcome → ℕ → Shown → Type 0
IsShownBy wants held asked o output this = option_and_then (λ block. shown_in held asked block output) (block_by wants asked.aim o) ≡ Some this

abbrev pub IsShownAt : List Want → HeldWrites → Asked → RequestEnd → ℕ → Shown → Type 0
IsShownAt wants held asked (fate.Told o) output this = IsShownBy wants held asked o output this
IsShownAt wants held asked fate.Lost output this = ⊥

-- by what became of the request that was under way, if one was; or by nothing yet
abbrev pub IsShownIf : List Want → HeldWrites → Option Asked → Option RequestEnd → ℕ → Shown → Type 0
IsShownIf wants held None f output this = ⊥
IsShownIf wants held (Some asked) None output this = ⊥
IsShownIf wants held (Some asked) (Some f) output this = IsShownAt wants held asked f output this
