-- inner: where the counted jumps of a program lead.
-- IEC 61131-3 edition 2, 3.2.1 (instructions are done in order, or go on at a label).
use Rattle.std.specs.Prelude.{ℕ, Bool, false, ◌||◌, List, [], ◌∷◌, nat_eq}
use Rattle.scan_code.specs.declared.op.Op.{Op}
use Rattle.scan_code.specs.declared.op.Op.TheVariants as does

-- the addresses, in the order of the jumps
abbrev pub heads_of : List (ℕ × Op) → List ℕ
heads_of [] = []
heads_of ((at, does.Repeat condition k n to) ∷ rest) = to ∷ heads_of rest
heads_of ((at, other) ∷ rest) = heads_of rest

abbrev pub is_among : List ℕ → ℕ → Bool
is_among [] address = false
is_among (to ∷ rest) address = nat_eq address to || is_among rest address
