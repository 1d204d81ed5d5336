-- The heads of counted loops, collected.
use Rattle.std.proofs.Common.{◌≡◌, ℕ, List, [], ◌∷◌, ◌||◌, nat_eq, refl, ap}
use Rattle.scan_code.specs.declared.op.Op.{Op}
use Rattle.scan_code.specs.declared.op.Op.TheVariants as does
use Rattle.facts.specs.Slots.{is_loop_head}
use Rattle.verifier.specs.Heads.{heads_of, is_among}

-- each head is among them, and nothing else
pub among_heads : (listing : List (ℕ × Op)) (address : ℕ) → is_among (heads_of listing) address ≡ is_loop_head address listing
among_heads [] address = refl
among_heads ((at, does.Repeat condition k n to) ∷ rest) address = ap (λ b. nat_eq address to || b) (among_heads rest address)
among_heads ((at, other) ∷ rest) address = among_heads rest address
