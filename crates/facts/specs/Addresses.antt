-- inner: the numbers of instructions by their addresses, as they are looked up.
-- IEC 61131-3 edition 2, 3.2.1 labels.
use Rattle.std.specs.Prelude.{◌≡◌, ℕ, List, Option}
use Rattle.scan_code.specs.declared.op.Op.{Op}
use Rattle.facts.specs.Flow.{number_at}

-- what is told of each address is the first instruction at it, of these, whose first one has this number
abbrev pub Tells : (ℕ → Option ℕ) → List (ℕ × Op) → ℕ → Type 0
Tells told entries n = (address : ℕ) → told address ≡ number_at entries n address
