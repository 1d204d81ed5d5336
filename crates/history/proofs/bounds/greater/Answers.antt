use Rattle.std.proofs.Common.{◌∷◌, ◌<ℤ◌, sym, subst, rules, w64}
use mir.Val.{SFits}
use Rattle.std.proofs.lemmas.Int.{to_z-of_z}
use Rattle.history.specs.Bounds.{IsGreatest}
use Rattle.history.proofs.MoreNumbers.{greatest_is_next}
use Rattle.history.proofs.bounds.greater.Goals as goal

pub returns-then-number-greatest : goal.returns-then-number-greatest
returns-then-number-greatest c = λ numbers greatest.
    let fits : SFits w64 c.args.number = search rules in
    let within : c.args.greatest <ℤ c.args.number = search rules in
    subst (λ n. IsGreatest n (c.args.number ∷ numbers)) (sym (to_z-of_z w64 c.args.number fits))
    (greatest_is_next c.args.greatest c.args.number numbers within greatest)
