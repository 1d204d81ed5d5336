-- What a caller sees of a map: the blocks of its models in order, and the address of the end model's ID.
-- SunSpec Device Information Model Specification, device modbus maps.
use Rattle.std.specs.Prelude.{ℕ, ◌+◌, ◌≤◌, List, Option, find, nat_eq}
use Rattle.register_map.specs.declared.layout.Block.{Block}

pub record Layout : Type 0 where
  pub blocks : List Block
  pub end : ℕ

-- the block's registers, with ID and L, lie before an address
abbrev pub LiesBefore : ℕ → Block → Type 0
LiesBefore end block = block.addr + 2 + block.length ≤ end

-- the first block of a model
abbrev pub block_of : Layout → ℕ → Option Block
block_of map id = find (λ b. nat_eq b.id id) map.blocks
