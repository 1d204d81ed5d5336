use Rattle.std.proofs.Common.{◌≡◌, ap, sym, ◌∙◌, w64, rules, subst}
use Rattle.std.proofs.lemmas.Int.{to_z-of_z}
use mir.Syntax.{w128}
use mir.Val.{SFits}
use Rattle.commands.specs.Given.{grown, held}
use Rattle.commands.proofs.NumberLemmas.{held_nowhere}
use Rattle.commands.proofs.number.with_digit.Goals as goal

pub returns-in-Ok : goal.returns-in-Ok
returns-in-Ok c =
    let known : SFits w64 c.args.value = search rules in
    let wide : SFits w128 c.grow.result = search rules in
    let fits : SFits w64 c.in-Ok.longer = search rules in
    c.hold.ensures ∙ ap (held c.args.kind) (to_z-of_z w64 _ fits ∙ c.in-Ok.ensures.1 ∙ to_z-of_z w128 _ wide ∙ c.grow.ensures ∙ ap (λ z. grown c.args.negative z c.args.byte) (to_z-of_z w64 _ known))

pub returns-in-Err : goal.returns-in-Err
returns-in-Err c =
    let known : SFits w64 c.args.value = search rules in
    let wide : SFits w128 c.grow.result = search rules in
    let same : c.grow.result ≡ grown c.args.negative c.args.value c.args.byte = c.grow.ensures ∙ ap (λ z. grown c.args.negative z c.args.byte) (to_z-of_z w64 _ known) in
    held_nowhere c.args.kind (grown c.args.negative c.args.value c.args.byte) (λ h. c.in-Err.ensures (subst (λ z. SFits w64 z) (sym (to_z-of_z w128 _ wide ∙ same)) h))
