-- The one family of facts: what is known before each instruction, by what flows to it from earlier ones.
-- IEC 61131-3 edition 2, 3.2.1 (instructions are done in order, or go on at a label).
use Rattle.std.specs.Prelude.{ℕ, zero, suc, ◌+◌, Bool, true, false, ◌||◌, List, [], ◌∷◌, ◌++◌, length, map, if◌then◌else◌, Ok, Err, Option, Some, None, slice_get, nat_eq}
use Rattle.scan_code.specs.declared.op.Op.{Op}
use Rattle.scan_code.specs.declared.op.Op.TheVariants as does
use Rattle.facts.specs.declared.refusal.RefusalKind.TheVariants.{Code, Stack}
use Rattle.facts.specs.Span.{Between}
use Rattle.facts.specs.Fact.{Fact, met}
use Rattle.facts.specs.Flow.{Context, Way, Flow, flow}

-- before an instruction: not reached, what is known, or facts that don't meet
pub data Slot : Type 0 where
  Unreached : Slot
  Holds : (fact : Fact) → Slot
  Clash : Slot

abbrev pub meets : Slot → Fact → Slot
meets Unreached f = Holds f
meets (Holds g) f = elim (met g f) [ None ↦ Clash | Some h ↦ Holds h ]
meets Clash f = Clash

-- of what flows, what flows to this instruction
abbrev pub arriving : ℕ → List Way → Slot → Slot
arriving n [] slot = slot
arriving n (way ∷ ways) slot = arriving n ways (if nat_eq way.0 n then meets slot way.1 else slot)

abbrev pub flow_of : Context → ℕ → Slot → Option (ℕ × Op) → Flow
flow_of c at Unreached entry = Ok []
flow_of c at Clash entry = Err Stack
flow_of c at (Holds f) None = Err Code
flow_of c at (Holds f) (Some entry) = flow c at entry.1 f

abbrev pub ways_of : Flow → List Way
ways_of (Ok ways) = ways
ways_of (Err e) = []

-- the meeting of all that flows to n from the instructions of a table that begins at number at
abbrev pub gathered : Context → ℕ → ℕ → List Slot → Slot → Slot
gathered c n at [] slot = slot
gathered c n at (s ∷ rest) slot = gathered c n (at + 1) rest (arriving n (ways_of (flow_of c at s (slice_get c.listing at))) slot)

abbrev pub entry_fact : Context → Fact
entry_fact c = record {
  variables = map (λ d. Between d.low d.high) c.variables;
  inputs = map (λ t. Between t.low t.high) c.tags;
  present = map (λ t. false) c.tags;
  deferred = [];
  result = None;
}

-- counted jumps lead here
abbrev pub is_loop_head : ℕ → List (ℕ × Op) → Bool
is_loop_head address [] = false
is_loop_head address ((at, does.Repeat condition k n to) ∷ rest) = nat_eq address to || is_loop_head address rest
is_loop_head address ((at, other) ∷ rest) = is_loop_head address rest

abbrev pub address_of : Option (ℕ × Op) → ℕ
address_of None = 0
address_of (Some entry) = entry.0

-- what arrives at the head of a counted loop is forgotten; deferred values may not arrive there
abbrev pub head_slot : Context → Slot → Slot
head_slot c Clash = Clash
head_slot c Unreached = Holds (entry_fact c)
head_slot c (Holds f) = if nat_eq (length f.deferred) 0 then Holds (entry_fact c) else Clash

-- the slots of the instructions below n
abbrev pub slots : Context → ℕ → List Slot
slots c zero = []
slots c (suc n) =
    let before = slots c n in
    let opening = if nat_eq n 0 then Holds (entry_fact c) else Unreached in
    let slot = gathered c n 0 before opening in
    before ++ (if is_loop_head (address_of (slice_get c.listing n)) c.listing then head_slot c slot else slot) ∷ []

-- an instruction that a fact reaches
abbrev pub is_reached : Slot → Bool
is_reached Unreached = false
is_reached other = true
