use Rattle.std.proofs.Common.{◌∷◌, sym, subst, rules, w64}
use mir.Val.{SFits}
use Rattle.std.proofs.lemmas.Int.{to_z-of_z}
use Rattle.history.specs.Bounds.{IsGreatest, IsLeast}
use Rattle.history.proofs.bounds.Bounds.with.Goals as goal

pub returns : goal.returns
returns c = λ numbers are.
    let fits : SFits w64 c.args.number = search rules in
    let low : SFits w64 c.args.self.least = search rules in
    let high : SFits w64 c.args.self.greatest = search rules in
    let lower : SFits w64 c.lesser.result = search rules in
    let higher : SFits w64 c.greater.result = search rules in
    let least = c.lesser.ensures numbers (subst (λ n. IsLeast n numbers) (sym (to_z-of_z w64 c.args.self.least low)) are.0) in
    let greatest = c.greater.ensures numbers (subst (λ n. IsGreatest n numbers) (sym (to_z-of_z w64 c.args.self.greatest high)) are.1) in (
      subst (λ n. IsLeast n (c.args.number ∷ numbers)) (sym (to_z-of_z w64 c.lesser.result lower))
          (subst (λ n. IsLeast c.lesser.result (n ∷ numbers)) (to_z-of_z w64 c.args.number fits) least),
      subst (λ n. IsGreatest n (c.args.number ∷ numbers)) (sym (to_z-of_z w64 c.greater.result higher))
          (subst (λ n. IsGreatest c.greater.result (n ∷ numbers)) (to_z-of_z w64 c.args.number fits) greatest),
    )
