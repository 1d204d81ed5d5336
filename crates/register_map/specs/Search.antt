-- The search for a device's map: the first base with the mark, and the chain after it (SunSpec Device Information Model Specification, the base addresses of Modbus devices).
use Rattle.std.specs.Prelude.{◌≡◌, ◌≢◌, ◌⊎◌, ℕ, ◌+◌, List, [], ◌∷◌, length, slice_range, nat_le, min, Result, Ok, Err, if◌then◌else◌}
use Rattle.register_map.specs.declared.access.ReadFault.TheVariants.{Refused, Failed}
use Rattle.register_map.specs.declared.layout.MapFault.{MapFault}
use Rattle.register_map.specs.declared.layout.MapFault.TheVariants.{NoMark, Read}
use Rattle.register_map.specs.Layout.{Layout}
use Rattle.register_map.specs.Reads.{Answer, RegisterRead, Runs, TakesNext}
use Rattle.register_map.specs.Chain.{IsChain}

-- "SunS", which stands at a base
abbrev pub mark : List ℕ
mark = 0x5375 ∷ 0x6E53 ∷ []

module _ {S : Type 0} (reads : S → ℕ → ℕ → Answer → S → Type 0) where
  -- the mark stands at a base, by one read of two registers
  abbrev pub HasMark : S → ℕ → S → Type 0
  HasMark s base t = reads s base 2 (Ok mark) t

  -- other words stand there, or the read is Refused
  abbrev pub LacksMark : S → ℕ → S → Type 0
  LacksMark s base t = ((words : List ℕ) × (words ≢ mark) × reads s base 2 (Ok words) t) ⊎ reads s base 2 (Err Refused) t

  -- the bases are tried in order
  abbrev pub IsSearch : ℕ → S → List ℕ → S → Result Layout MapFault → Type 0
  IsSearch limit s [] t result = (s ≡ t) × (result ≡ Err NoMark)
  IsSearch limit s (base ∷ bases) t result =
      ((u : S) × LacksMark s base u × IsSearch limit u bases t result)
      ⊎ ((u : S) × HasMark s base u × IsChain reads limit u (base + 2) t result)
      ⊎ (reads s base 2 (Err Failed) t × (result ≡ Err Read))

-- a device has this many registers
abbrev pub all_registers : ℕ
all_registers = 65536

-- a search of a device, by just these reads in this order, each of them a step of the registers
abbrev pub IsDiscovery : {S : Type 0} → (S → ℕ → ℕ → Answer → S → Type 0) → S → List ℕ → S → List RegisterRead → Result Layout MapFault → Type 0
IsDiscovery reads s bases t log result = Runs reads s log t × IsSearch TakesNext all_registers log bases [] result

-- words are registers from address 0 on; a read that goes past them is Refused
abbrev pub answer_from : List ℕ → ℕ → ℕ → Answer
answer_from words address count =
    if nat_le (address + count) (length words) then Ok (slice_range words address (address + count)) else Err Refused

-- what a list of words is, as a map at base 0
abbrev pub IsMapOf : List ℕ → Result Layout MapFault → Type 0
IsMapOf words result =
    IsSearch {S = Unit {0}} (λ _ address count answer _. answer ≡ answer_from words address count) (min (length words) all_registers) tt (0 ∷ []) tt result
