-- inner: what the steps of the search give, and which results count as a fault of a read.
-- SunSpec Device Information Model Specification, the base addresses of Modbus devices.
use Rattle.std.specs.Prelude.{◌≡◌, ℕ, ◌<◌, ◌≤◌, Bool, true, false, Result, Ok, Err, Option, Some, None}
use Rattle.register_map.specs.declared.layout.MapFault.{MapFault}
use Rattle.register_map.specs.declared.layout.MapFault.TheVariants.{NoMark, NotCommon, PastEnd, TooMany, Read}
use Rattle.register_map.specs.declared.access.ReadFault.TheVariants.{Failed}
use Rattle.register_map.specs.declared.layout.Block.{Block}
use Rattle.register_map.specs.Reads.{Answer}
use Rattle.register_map.specs.Chain.{Holds, IsUnread, IsModel, IsEnd, IsFaulty}
use Rattle.register_map.specs.Search.{HasMark, LacksMark}

-- the result says that a register couldn't be read
abbrev pub is_read_fault : {T : Type 0} → Result T MapFault → Bool
is_read_fault (Ok _) = false
is_read_fault (Err NoMark) = false
is_read_fault (Err NotCommon) = false
is_read_fault (Err PastEnd) = false
is_read_fault (Err TooMany) = false
is_read_fault (Err Read) = true

module _ {S : Type 0} (reads : S → ℕ → ℕ → Answer → S → Type 0) where
  -- the word at an address
  abbrev pub IsWord : ℕ → S → ℕ → S → Result ℕ MapFault → Type 0
  IsWord limit s address t (Ok word) = (address < limit) × Holds reads s address word t
  IsWord limit s address t (Err NoMark) = ⊥
  IsWord limit s address t (Err NotCommon) = ⊥
  IsWord limit s address t (Err PastEnd) = (limit ≤ address) × (s ≡ t)
  IsWord limit s address t (Err TooMany) = ⊥
  IsWord limit s address t (Err Read) = (address < limit) × IsUnread reads s address t

  -- the header at an address: a model's, the end model's, or a faulty one
  abbrev pub IsHeader : ℕ → S → ℕ → ℕ → S → Result (Option Block) MapFault → Type 0
  IsHeader limit s before address t (Ok (Some block)) = IsModel reads limit s before address t block
  IsHeader limit s before address t (Ok None) = IsEnd reads limit s before address t
  IsHeader limit s before address t (Err fault) = IsFaulty reads limit s before address t fault

  -- whether the mark stands at a base
  abbrev pub IsMarked : S → ℕ → S → Result Bool MapFault → Type 0
  IsMarked s base t (Ok true) = HasMark reads s base t
  IsMarked s base t (Ok false) = LacksMark reads s base t
  IsMarked s base t (Err fault) = (fault ≡ Read) × reads s base 2 (Err Failed) t
