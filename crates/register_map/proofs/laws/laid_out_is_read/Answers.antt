-- The mark is read, then the models after it.
use Rattle.std.proofs.Common.{ℕ, ◌≤◌, List, ◌∷◌, ◌++◌, length, min, inl, inr, refl, arith}
use Rattle.std.proofs.lemmas.Bool.{le-leb}
use Rattle.register_map.specs.Search.{mark, all_registers}
use Rattle.register_map.specs.Laws.{laid_out}
use Rattle.register_map.proofs.LaidOut.{laid_out-models, have_model_ids}
use Rattle.register_map.proofs.laws.laid_out_is_read.Goals as goal

pub returns : goal.returns
returns c common others rest first ids few lt =
    let words : List ℕ = mark ++ laid_out (common ∷ others) ++ rest in
    let found = laid_out-models words mark (common ∷ others) rest 0 (min (length words) all_registers) refl
    ((λ e. absurd (omega (arith, first, e)), λ _. first), have_model_ids 0 others ids) (omega (arith, few)) refl lt in
    let long : 2 ≤ length words = omega arith in
    inr (inl (tt, rw (le-leb 2 (length words) long) refl, (tt, found.0, (omega arith, found.1, found.2))))
