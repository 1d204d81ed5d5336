use Rattle.std.proofs.Common.{arith, ◌∙◌, sym, rules, w64}
use Rattle.std.proofs.lemmas.Int.{to_z-of_z}
use mir.Val.{SFits, to_z}
use Rattle.commands.proofs.NumberLemmas.{digits_on}
use Rattle.commands.proofs.number.digits_of.Goals as goal

pub loop-rest-preserved-in_ok-value : goal.loop-rest-preserved-in_ok-value
loop-rest-preserved-in_ok-value c =
    let fits : SFits w64 c.in_ok-value.value = search rules in
    digits_on c.loop-rest.rest.now c.args.kind c.args.negative c.loop-rest.wanting (to_z w64 c.loop-rest.value-bits) c.in_ok-value.value _ (omega arith) (sym c.is_decimal_digit.ensures ∙ c.if-is_decimal_digit.true) (sym c.with_digit.ensures ∙ c.in_ok-value.was) (to_z-of_z w64 _ fits) ∙ c.loop-rest.invariant
