-- Reads of a device's registers: what one answers, which of them are counted as faults, and runs of several (Modbus Application Protocol V1.1b3, "Read Holding Registers").
use Rattle.std.specs.Prelude.{◌≡◌, ℕ, ◌+◌, Bool, true, false, List, [], ◌∷◌, Result, Ok, Err, Option, Some, None, nat_eq, if◌then◌else◌}
use Rattle.register_map.specs.declared.access.ReadFault.{ReadFault}
use Rattle.register_map.specs.declared.access.ReadFault.TheVariants.{Refused, Failed}

-- what a read gives: its words, or why there are none
abbrev pub Answer : Type 0
Answer = Result (List ℕ) ReadFault

-- the answer of a call, by its result and the words that it leaves
abbrev pub answer_of : Result (Unit {0}) ReadFault → List ℕ → Answer
answer_of (Ok _) words = Ok words
answer_of (Err fault) words = Err fault

-- a read that Failed is a fault, and so is one of a single register that was Refused
abbrev pub is_fault : ℕ → Answer → Bool
is_fault count (Ok _) = false
is_fault count (Err Failed) = true
is_fault count (Err Refused) = nat_eq count 1

-- a count of faults before and after: it rises by one at a fault and else stays; once it isn't told any more, it is never told again
abbrev pub Counts : Option ℕ → Option ℕ → Bool → Type 0
Counts None after faulty = after ≡ None
Counts (Some n) None faulty = Unit {0}
Counts (Some n) (Some m) faulty = m ≡ (if faulty then n + 1 else n)

-- one read: its first register, the number of registers, the answer
pub record RegisterRead : Type 0 where
  pub address : ℕ
  pub count : ℕ
  pub answer : Answer

-- these reads, in this order and no others, lead from one state of the registers to the other
abbrev pub Runs : {S : Type 0} → (S → ℕ → ℕ → Answer → S → Type 0) → S → List RegisterRead → S → Type 0
Runs reads s [] t = s ≡ t
Runs {S} reads s (r ∷ rest) t = (u : S) × reads s r.address r.count r.answer u × Runs reads u rest t

-- the next read of a list of reads is this one, and the rest follows
abbrev pub TakesNext : List RegisterRead → ℕ → ℕ → Answer → List RegisterRead → Type 0
TakesNext reads address count answer rest = reads ≡ record { address = address; count = count; answer = answer } ∷ rest
