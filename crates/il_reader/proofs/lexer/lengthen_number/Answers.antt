use Rattle.std.proofs.Common.{◌≡◌, ap, sym, ◌∙◌, w64, rules, subst}
use Rattle.std.proofs.lemmas.Int.{to_z-of_z}
use mir.Syntax.{w128}
use mir.Val.{SFits}
use Rattle.il_reader.specs.Tokens.{grown, number_stands}
use Rattle.il_reader.proofs.LexerLemmas.{number_fails}
use Rattle.il_reader.proofs.lexer.lengthen_number.Goals as goal

pub returns-in-Ok : goal.returns-in-Ok
returns-in-Ok c =
    let known : SFits w64 c.args.value = search rules in
    let wide : SFits w128 c.grow.result = search rules in
    let fits : SFits w64 c.in-Ok.longer = search rules in
    c.hold_number.ensures ∙ ap (number_stands c.args.kind c.args.spelling) (to_z-of_z w64 _ fits ∙ c.in-Ok.ensures.1 ∙ to_z-of_z w128 _ wide ∙ c.grow.ensures ∙ ap (λ z. grown c.args.spelling z c.args.digit) (to_z-of_z w64 _ known))

pub returns-in-Err : goal.returns-in-Err
returns-in-Err c =
    let known : SFits w64 c.args.value = search rules in
    let wide : SFits w128 c.grow.result = search rules in
    let same : c.grow.result ≡ grown c.args.spelling c.args.value c.args.digit = c.grow.ensures ∙ ap (λ z. grown c.args.spelling z c.args.digit) (to_z-of_z w64 _ known) in
    c.fails.ensures ∙ number_fails c.args.kind c.args.spelling (grown c.args.spelling c.args.value c.args.digit) (λ h. c.in-Err.ensures (subst (λ z. SFits w64 z) (sym (to_z-of_z w128 _ wide ∙ same)) h))
