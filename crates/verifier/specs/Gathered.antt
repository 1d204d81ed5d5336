-- inner: what a pass has brought to later instructions, once those before number n are passed.
-- IEC 61131-3 edition 2, 3.2.1 (instructions are done in order, or go on at a label).
use Rattle.std.specs.Prelude.{◌≡◌, ◌⊎◌, ℕ, ◌≤◌, List, Some, None, slice_get}
use Rattle.facts.specs.declared.refusal.Refusal.{Refusal}
use Rattle.facts.specs.declared.refusal.RefusedAt.TheVariants as spot
use Rattle.facts.specs.Word.{out_of_memory}
use Rattle.facts.specs.Flow.{Context}
use Rattle.facts.specs.Slots.{Slot, gathered, slots}
use Rattle.verifier.specs.Passing.{closed, opening}
use Rattle.verifier.specs.Verdict.{first_refusal, refusal_of}

-- at the instructions from number first on
abbrev pub AreGathered : Context → (n first : ℕ) → List Slot → Type 0
AreGathered c n first ss = (m : ℕ) (s : Slot) → first ≤ m → slice_get ss m ≡ Some s → s ≡ gathered c m 0 (slots c n) (opening c m)

-- before instruction n
abbrev pub slot_before : Context → ℕ → Slot
slot_before c n = closed c n (gathered c n 0 (slots c n) (opening c n))

abbrev pub NoneRefuses : Context → ℕ → Type 0
NoneRefuses c n = first_refusal c 0 (slots c n) ≡ None

abbrev pub IsRefusedAt : Context → ℕ → Refusal → Type 0
IsRefusedAt c n refusal = ((refusal_of c ≡ Some refusal) × (refusal.at ≡ spot.Instruction n)) ⊎ (refusal ≡ out_of_memory)
