-- Registers in memory, one read of which may be planned to give no words.
-- Modbus Application Protocol V1.1b3, section 6.3 Read Holding Registers.
use Rattle.std.specs.Prelude.{◌≡◌, ℕ, zero, suc, ◌+◌, ◌-◌, List, Bool, Err, Option, Some, None, nat_lt, min, if◌then◌else◌}
use Rattle.register_map.specs.declared.access.ReadFault.{ReadFault}
use Rattle.register_map.specs.declared.access.ReadFault.TheVariants.{Refused}
use Rattle.register_map.specs.declared.memory.PlannedFault.{PlannedFault}
use Rattle.register_map.specs.Reads.{Answer, is_fault}
use Rattle.register_map.specs.Search.{answer_from}

pub record Memory : Type 0 where
  pub start : ℕ  -- the address of the first word
  pub words : List ℕ
  pub planned : Option PlannedFault
  pub faults : ℕ  -- the reads so far that were faults; it stays at the greatest number of 64 bits

-- what its words say; the registers around them are Refused
abbrev pub stored : Memory → ℕ → ℕ → Answer
stored m address count = if nat_lt address m.start then Err Refused else answer_from m.words (address - m.start) count

-- the fault that is planned for the read that is made now
abbrev pub due_fault : Option PlannedFault → Option ReadFault
due_fault None = None
due_fault (Some p) = elim p.reads_before [ zero ↦ Some p.fault | suc _ ↦ None ]

-- what is planned for the reads after it
abbrev pub next_planned : Option PlannedFault → Option PlannedFault
next_planned None = None
next_planned (Some p) = elim p.reads_before [ zero ↦ None | suc n ↦ Some (record p { reads_before = n }) ]

-- a fault that is due comes before what the words say
abbrev pub unless_due : Option ReadFault → Answer → Answer
unless_due None answer = answer
unless_due (Some fault) answer = Err fault

-- how far the count of faults can rise
abbrev pub most_faults : ℕ
most_faults = 0xFFFF_FFFF_FFFF_FFFF

abbrev pub next_faults : ℕ → Bool → ℕ
next_faults faults faulty = if faulty then min (faults + 1) most_faults else faults

-- the count is told as long as it can rise
abbrev pub told_faults : Memory → Option ℕ
told_faults m = if nat_lt m.faults most_faults then Some m.faults else None

-- one read: its answer, and the registers after it
abbrev pub AnswersRead : Memory → ℕ → ℕ → Answer → Memory → Type 0
AnswersRead m address count answer after =
    (answer ≡ unless_due (due_fault m.planned) (stored m address count))
    × (after ≡ record m { planned = next_planned m.planned; faults = next_faults m.faults (is_fault count answer) })
