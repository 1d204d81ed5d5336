-- What makes the definition of a map believable: words that are laid out as a map are read as it, and nothing is read in two ways.
-- SunSpec Device Information Model Specification, device modbus maps.
use Rattle.std.specs.Prelude.{◌≡◌, ◌≢◌, ℕ, ◌+◌, ◌<◌, List, [], ◌∷◌, ◌++◌, length, All, Result, Ok}
use Rattle.register_map.specs.declared.layout.Block.{Block}
use Rattle.register_map.specs.declared.layout.MapFault.{MapFault}
use Rattle.register_map.specs.Reads.{RegisterRead, TakesNext}
use Rattle.register_map.specs.Layout.{Layout}
use Rattle.register_map.specs.Chain.{common_id, end_id, most_models}
use Rattle.register_map.specs.Search.{mark, IsSearch, IsMapOf, all_registers}

-- a model: its ID and the words of its registers
pub record ModelWords : Type 0 where
  pub id : ℕ
  pub words : List ℕ

-- models laid out one after another, up to the end model's ID
abbrev pub laid_out : List ModelWords → List ℕ
laid_out [] = end_id ∷ []
laid_out (m ∷ ms) = m.id ∷ length m.words ∷ m.words ++ laid_out ms

-- where they lie, from an address on
abbrev pub blocks_from : ℕ → List ModelWords → List Block
blocks_from address [] = []
blocks_from address (m ∷ ms) = record { id = m.id; addr = address; length = length m.words } ∷ blocks_from (address + 2 + length m.words) ms

-- and where the end model lies
abbrev pub end_from : ℕ → List ModelWords → ℕ
end_from address [] = address
end_from address (m ∷ ms) = end_from (address + 2 + length m.words) ms

-- the common model and at most 63 others after the mark are a map, whatever words follow the end model's ID
abbrev pub LaidOutIsRead : Type 0
LaidOutIsRead =
    (common : ModelWords) (others : List ModelWords) (rest : List ℕ) →
    common.id ≡ common_id → All (λ m. m.id ≢ end_id) others → length others < most_models → end_from 2 (common ∷ others) < all_registers →
    IsMapOf (mark ++ laid_out (common ∷ others) ++ rest) (Ok (record { blocks = blocks_from 2 (common ∷ others); end = end_from 2 (common ∷ others) }))

-- a list of words is one map, or has one fault
abbrev pub WordsHaveOneMap : Type 0
WordsHaveOneMap = (words : List ℕ) (r q : Result Layout MapFault) → IsMapOf words r → IsMapOf words q → r ≡ q

-- a list of reads with their answers has one result
abbrev pub ReadsHaveOneResult : Type 0
ReadsHaveOneResult =
    (bases : List ℕ) (reads : List RegisterRead) (r q : Result Layout MapFault) →
    IsSearch TakesNext all_registers reads bases [] r → IsSearch TakesNext all_registers reads bases [] q → r ≡ q
