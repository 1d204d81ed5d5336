-- What is known before an instruction, by the family that defines the verdict.
-- IEC 61131-3 edition 2, 3.2.1 (instructions are done in order, or go on at a label).
use Rattle.std.specs.Prelude.{◌≡◌, ◌⊎◌, ℕ, ◌+◌, ◌<◌, List, map, length, Option, Some, None, slice_get}
use Rattle.facts.specs.declared.refusal.Refusal.{Refusal}
use Rattle.facts.specs.declared.refusal.RefusedAt.TheVariants as spot
use Rattle.facts.specs.Word.{number_of, out_of_memory}
use Rattle.facts.specs.Flow.{Context}
use Rattle.facts.specs.Slots.{Slot, slots}
use Rattle.verifier.specs.declared.told.Standing.{Standing}
use Rattle.verifier.specs.Told.{standing_of}
use Rattle.verifier.specs.Verdict.{refusal_of}

abbrev pub IsKnownAt : Context → ℕ → Slot → Type 0
IsKnownAt c n slot = slice_get (slots c (length c.listing)) n ≡ Some slot

-- the first refusal, of an instruction before this one, or memory was refused
abbrev pub IsEarlierRefusal : Context → ℕ → Refusal → Type 0
IsEarlierRefusal c n refusal = ((m : ℕ) × (m < n) × (refusal_of c ≡ Some refusal) × (refusal.at ≡ spot.Instruction m)) ⊎ (refusal ≡ out_of_memory)

-- up to the first instruction that is refused, itself included
abbrev pub judged_count : ℕ → Option Refusal → ℕ
judged_count all None = all
judged_count all (Some refusal) = number_of refusal.at + 1

-- what is told before each of them
abbrev pub all_told : Context → List Standing
all_told c = map (standing_of c) (slots c (judged_count (length c.listing) (refusal_of c)))
