-- inner: one pass over the instructions, and what it leaves at the later ones.
-- IEC 61131-3 edition 2, 3.2.1 (instructions are done in order, or go on at a label).
use Rattle.std.specs.Prelude.{ℕ, zero, suc, Bool, List, [], ◌∷◌, map, if◌then◌else◌, Result, Ok, Err, Option, Some, None, slice_get, nat_eq}
use Rattle.facts.specs.declared.refusal.Refusal.{Refusal}
use Rattle.facts.specs.declared.refusal.RefusalKind.{RefusalKind}
use Rattle.verifier.specs.declared.arrived.Arrived.{Arrived}
use Rattle.verifier.specs.declared.arrived.Arrived.TheVariants as arrived
use Rattle.facts.specs.declared.fact.Fact.{Fact}
use Rattle.facts.specs.Flow.{Context, Way, Flow}
use Rattle.facts.specs.Slots.{Slot, Unreached, Holds, Clash, meets, entry_fact, is_loop_head, address_of, head_slot}
use Rattle.verifier.specs.Budget.{reached}
use Rattle.verifier.specs.Verdict.{refusal_of}

-- What is known may be kept in any form that stands for a fact.

abbrev pub way_stood : {F : Type 0} → (F → Fact) → ℕ × F → Way
way_stood stands way = (way.0, stands way.1)

abbrev pub ways_stood : {F : Type 0} → (F → Fact) → List (ℕ × F) → List Way
ways_stood stands ways = map (way_stood stands) ways

abbrev pub flow_stood : {F : Type 0} → (F → Fact) → Result (List (ℕ × F)) RefusalKind → Flow
flow_stood stands (Ok ways) = Ok (ways_stood stands ways)
flow_stood stands (Err kind) = Err kind

abbrev pub stood : {F : Type 0} → (F → Fact) → Arrived F → Slot
stood stands arrived.Nothing = Unreached
stood stands (arrived.AbstractValue fact) = Holds (stands fact)
stood stands arrived.Clash = Clash

abbrev pub all_stood : {F : Type 0} → (F → Fact) → List (Arrived F) → List Slot
all_stood stands pending = map (stood stands) pending

-- before anything flows there
abbrev pub opening : Context → ℕ → Slot
opening c n = if nat_eq n 0 then Holds (entry_fact c) else Unreached

-- once all has come that comes
abbrev pub closed : Context → ℕ → Slot → Slot
closed c n slot = if is_loop_head (address_of (slice_get c.listing n)) c.listing then head_slot c slot else slot

-- one more fact flows to an instruction
abbrev pub delivered : ℕ → Fact → List Slot → List Slot
delivered n f [] = []
delivered zero f (s ∷ slots) = meets s f ∷ slots
delivered (suc n) f (s ∷ slots) = s ∷ delivered n f slots

abbrev pub all_delivered : List Way → List Slot → List Slot
all_delivered [] slots = slots
all_delivered (way ∷ ways) slots = all_delivered ways (delivered way.0 way.1 slots)

abbrev pub passed_by : Option Refusal → List Bool → Result (List Bool) Refusal
passed_by None flags = Ok flags
passed_by (Some refusal) flags = Err refusal

-- which instructions a fact reaches, where none of them refuses
abbrev pub passed : Context → Result (List Bool) Refusal
passed c = passed_by (refusal_of c) (reached c)
