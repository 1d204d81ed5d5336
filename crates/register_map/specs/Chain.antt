-- A chain of models: each has ID, length L and L registers, and the next header follows, up to the end model; and the first fault of a header that isn't one (SunSpec Device Information Model Specification, the layout of models in Modbus registers).
use Rattle.std.specs.Prelude.{◌≡◌, ◌≢◌, ◌⊎◌, ℕ, ◌+◌, ◌<◌, ◌≤◌, List, [], ◌∷◌, length, Result, Ok, Err}
use Rattle.register_map.specs.declared.access.ReadFault.{ReadFault}
use Rattle.register_map.specs.declared.layout.MapFault.{MapFault}
use Rattle.register_map.specs.declared.layout.MapFault.TheVariants.{NoMark, NotCommon, PastEnd, TooMany, Read}
use Rattle.register_map.specs.declared.layout.Block.{Block}
use Rattle.register_map.specs.Layout.{Layout}
use Rattle.register_map.specs.Reads.{Answer}

-- the ID of the common model
abbrev pub common_id : ℕ
common_id = 1

-- the ID of the end model
abbrev pub end_id : ℕ
end_id = 0xFFFF

-- a map has this many models at most
abbrev pub most_models : ℕ
most_models = 64

-- the ID of a model, after so many others: the common model is the first
abbrev pub IsModelId : ℕ → ℕ → Type 0
IsModelId before id = (id ≢ end_id) × (before ≡ 0 → id ≡ common_id)

-- Below, `reads` says which answer leads from which state to which, and `limit` is the number of registers, from address 0 on.
module _ {S : Type 0} (reads : S → ℕ → ℕ → Answer → S → Type 0) where
  -- the register at an address holds this word, by a read of that register alone
  abbrev pub Holds : S → ℕ → ℕ → S → Type 0
  Holds s address word t = reads s address 1 (Ok (word ∷ [])) t

  -- that read isn't answered
  abbrev pub IsUnread : S → ℕ → S → Type 0
  IsUnread s address t = (fault : ReadFault) × reads s address 1 (Err fault) t

  -- after so many models, the header at an address is that of one more
  abbrev pub IsModel : ℕ → S → ℕ → ℕ → S → Block → Type 0
  IsModel limit s before address t block =
      (block.addr ≡ address) × IsModelId before block.id × (address + 1 < limit) × (before < most_models)
      × ((u : S) × Holds s address block.id u × Holds u (address + 1) block.length t)

  -- it is the end model, whose L isn't read
  abbrev pub IsEnd : ℕ → S → ℕ → ℕ → S → Type 0
  IsEnd limit s before address t = (0 < before) × (address < limit) × Holds s address end_id t

  -- it has this fault, and none that stands before it in this order; its L is read only where the rest is good
  abbrev pub IsFaulty : ℕ → S → ℕ → ℕ → S → MapFault → Type 0
  IsFaulty limit s before address t NoMark = ⊥
  IsFaulty limit s before address t NotCommon =
      (before ≡ 0) × (address < limit) × ((id : ℕ) × (id ≢ common_id) × Holds s address id t)
  IsFaulty limit s before address t PastEnd =
      ((limit ≤ address) × (s ≡ t))
      ⊎ ((address + 1 ≡ limit) × ((id : ℕ) × IsModelId before id × Holds s address id t))
  IsFaulty limit s before address t TooMany =
      (before ≡ most_models) × (address + 1 < limit) × ((id : ℕ) × IsModelId before id × Holds s address id t)
  IsFaulty limit s before address t Read =
      ((address < limit) × IsUnread s address t)
      ⊎ ((before < most_models) × (address + 1 < limit)
      × ((id : ℕ) × (u : S) × IsModelId before id × Holds s address id u × IsUnread u (address + 1) t))

  -- after so many others, the models of these blocks follow one another from an address on, and the next header is at `next`
  abbrev pub AreModels : ℕ → S → ℕ → ℕ → List Block → ℕ → S → Type 0
  AreModels limit s before address [] next t = (address ≡ next) × (s ≡ t)
  AreModels limit s before address (b ∷ bs) next t =
      (u : S) × IsModel limit s before address u b × AreModels limit u (before + 1) (address + 2 + b.length) bs next t

  -- the chain at an address: models up to the end model, or up to the first faulty header
  abbrev pub IsChain : ℕ → S → ℕ → S → Result Layout MapFault → Type 0
  IsChain limit s address t (Ok map) =
      (u : S) × AreModels limit s 0 address map.blocks map.end u × IsEnd limit u (length map.blocks) map.end t
  IsChain limit s address t (Err fault) =
      (bs : List Block) × (next : ℕ) × (u : S) × AreModels limit s 0 address bs next u × IsFaulty limit u (length bs) next t fault
