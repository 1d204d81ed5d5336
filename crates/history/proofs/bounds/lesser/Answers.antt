use Rattle.std.proofs.Common.{◌∷◌, ◌<ℤ◌, sym, subst, rules, w64}
use mir.Val.{SFits}
use Rattle.std.proofs.lemmas.Int.{to_z-of_z}
use Rattle.history.specs.Bounds.{IsLeast}
use Rattle.history.proofs.MoreNumbers.{least_is_next}
use Rattle.history.proofs.bounds.lesser.Goals as goal

pub returns-then-number-least : goal.returns-then-number-least
returns-then-number-least c = λ numbers least.
    let fits : SFits w64 c.args.number = search rules in
    let within : c.args.number <ℤ c.args.least = search rules in
    subst (λ n. IsLeast n (c.args.number ∷ numbers)) (sym (to_z-of_z w64 c.args.number fits))
    (least_is_next c.args.least c.args.number numbers within least)
