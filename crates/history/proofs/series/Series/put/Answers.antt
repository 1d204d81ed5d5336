use Rattle.std.proofs.Common.{◌∷◌, Some, subst, rules, w64}
use mir.Val.{SFits}
use Rattle.std.proofs.lemmas.Int.{to_z-of_z}
use Rattle.history.specs.Bounds.{AreBounds}
use Rattle.history.proofs.series.Series.put.Goals as goal

pub returns : goal.returns
returns c = λ put is.
    let held = rw (← c.self.view_is) at is in
    let fits : SFits w64 c.args.number = search rules in
    (held.0, subst (λ n. AreBounds (n ∷ put.running) (Some c.with_number.result)) (to_z-of_z w64 c.args.number fits) (c.with_number.ensures put.running held.1))
