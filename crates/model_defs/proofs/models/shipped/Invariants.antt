use Rattle.std.proofs.Common.{◌≡◌, ℕ, ◌==◌, List, map, option_map, drop}
use Rattle.std.specs.Prelude.{find}
use Rattle.model_defs.specs.Shipped.{shipped_text}
use Rattle.model_defs.proofs.models.shipped.Given as goal

-- the text is that of the models that remain
abbrev pub invariant-loop-model : goal.invariant-loop-model
invariant-loop-model l =
    shipped_text l.id ≡ option_map (λ (model : ℕ × List ℕ). model.1) (find (λ (model : ℕ × List ℕ). l.id == model.0) (map (λ model. (model.0, model.1.now)) (drop l.model-index l.model-items)))
