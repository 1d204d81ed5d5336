-- Each register below the end of a list of words can be read.
use Rattle.std.proofs.Common.{◌≡◌, inl, inr, ℕ, ◌+◌, ◌<◌, ◌≤◌, Bool, true, false, List, length, min, Result, Ok, Err, arith, refl, if◌then◌else◌}
use Rattle.std.proofs.lemmas.Bool.{le-leb}
use Rattle.register_map.specs.declared.access.ReadFault.{ReadFault}
use Rattle.register_map.specs.declared.access.ReadFault.TheVariants.{Refused, Failed}
use Rattle.register_map.specs.declared.layout.MapFault.{MapFault}
use Rattle.register_map.specs.declared.layout.MapFault.TheVariants.{Read}
use Rattle.register_map.specs.Layout.{Layout}
use Rattle.register_map.specs.Reads.{Answer}
use Rattle.register_map.specs.Search.{answer_from, all_registers, IsMapOf}

never_failed : (enough : Bool) (words : List ℕ) → ◌≡◌ {A = Answer} (Err Failed) (if enough then Ok words else Err Refused) → ⊥
never_failed true words e = cc
never_failed false words e = cc

always_read : (words : List ℕ) (a limit : ℕ) (fault : ReadFault) → limit ≡ min (length words) all_registers → a < limit → ◌≡◌ {A = Answer} (Err fault) (answer_from words a 1) → ⊥
always_read words a limit fault l lt e =
    let inside : a + 1 ≤ length words = omega (arith, l, lt) in
    let answer = rw (le-leb (a + 1) (length words) inside) at e in
    cc

-- no search of a list ends at a read
none-unread : (words : List ℕ) → IsMapOf words (Err Read) → ⊥
none-unread words (inl p) = let e = p.2.1 in cc
none-unread words (inr (inl p)) =
    elim p.2.4 [
      | inl q ↦ always_read words p.2.1 _ q.1.0 refl q.0 q.1.1
      | inr q ↦ always_read words (p.2.1 + 1) _ q.2.4.0 refl q.1 q.2.4.1
    ]
none-unread words (inr (inr p)) = never_failed _ _ p.0

pub words-readable : (words : List ℕ) (result : Result Layout MapFault) → IsMapOf words result → result ≡ Err Read → ⊥
words-readable words result map e = none-unread words (rw e at map)
