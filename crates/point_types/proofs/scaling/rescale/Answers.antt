use Rattle.std.proofs.Common.{◌≡◌, ◌^◌, pos, ◌-ℤ◌, unsigned_abs, FitsSigned, ap, ◌∙◌, arith, rules, subst, ℤ}
use Rattle.std.specs.Int.{w128}
use Rattle.std.proofs.lemmas.Int.{ints, to_z-of_z}
use Rattle.point_types.specs.Rescaling.{IsProduct, IsQuotient}
use Rattle.point_types.proofs.Powers.{rescaled_up, rescaled_down}
use Rattle.point_types.proofs.scaling.rescale.Goals as goal

pub returns-then-power-ge0 : goal.returns-then-power-ge0
returns-then-power-ge0 c =
    let f = c.ranges.number in
    let g : FitsSigned w128 c.power_of_ten-ratio.result = search rules in
    let k : c.unsigned_abs.result ≡ unsigned_abs (c.args.from -ℤ c.args.to) = omega (arith, ints) in
    let ratio = c.power_of_ten-ratio.ensures.value ∙ ap (λ n. pos (10 ^ n)) k in
    let product = simp to_z-of_z at c.multiplied.ensures in
    rescaled_up _ c.args.from c.args.to c.requires.from_exponent c.requires.to_exponent (omega (arith, ints)) c.multiplied.result (subst (λ (r : ℤ). IsProduct c.args.number r c.multiplied.result) ratio product)

pub returns-else-power-ge0 : goal.returns-else-power-ge0
returns-else-power-ge0 c =
    let f = c.ranges.number in
    let g : FitsSigned w128 c.power_of_ten-ratio.result = search rules in
    let k : c.unsigned_abs.result ≡ unsigned_abs (c.args.from -ℤ c.args.to) = omega (arith, ints) in
    let ratio = c.power_of_ten-ratio.ensures.value ∙ ap (λ n. pos (10 ^ n)) k in
    let quotient = simp to_z-of_z at c.divided.ensures in
    rescaled_down _ c.args.from c.args.to c.requires.from_exponent c.requires.to_exponent (omega (arith, ints)) c.divided.result (subst (λ (r : ℤ). IsQuotient c.args.number r c.divided.result) ratio quotient)
