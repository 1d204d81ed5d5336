-- Models that follow one another.
use Rattle.std.proofs.Common.{◌≡◌, ℕ, ◌+◌, ◌≤◌, List, [], ◌∷◌, ◌++◌, All, length, arith, refl}
use Rattle.std.proofs.lemmas.List.Elements.{All-nil, All-cons}
use Rattle.register_map.specs.declared.layout.Block.{Block}
use Rattle.register_map.specs.Reads.{Answer}
use Rattle.register_map.specs.Layout.{LiesBefore}
use Rattle.register_map.specs.Chain.{IsModel, AreModels}

module _ {S : Type 0} (reads : S → ℕ → ℕ → Answer → S → Type 0) where
  -- one more model after the others
  pub AreModels-append : (limit : ℕ) (s : S) (k a : ℕ) (bs : List Block) (n : ℕ) (u : S) (b : Block) (t : S) (m : ℕ) → m ≡ k + length bs →
      AreModels reads limit s k a bs n u → IsModel reads limit u m n t b → AreModels reads limit s k a (bs ++ b ∷ []) (n + 2 + b.length) t
  AreModels-append limit s k a [] n u b t m e p q =
      let same : k ≡ m = omega (arith, e) in
      rw (p.0, p.1, same) (t, q, (refl, refl))
  AreModels-append limit s k a (c ∷ cs) n u b t m e p q =
      (p.0, p.1, AreModels-append limit p.0 (k + 1) (a + 2 + c.length) cs n u b t m (omega (arith, e)) p.2 q)

  -- each lies before the next header
  pub AreModels-inside : (limit : ℕ) (s : S) (k a : ℕ) (bs : List Block) (n : ℕ) (t : S) →
      AreModels reads limit s k a bs n t → (a ≤ n) × All (LiesBefore n) bs
  AreModels-inside limit s k a [] n t p = (omega (arith, p.0), All-nil _)
  AreModels-inside limit s k a (b ∷ bs) n t p =
      let rest : (a + 2 + b.length ≤ n) × All (LiesBefore n) bs = AreModels-inside limit p.0 (k + 1) (a + 2 + b.length) bs n t p.2 in
      (omega (arith, rest.0), All-cons (LiesBefore n) b bs (omega (arith, rest.0, p.1.0)) rest.1)
