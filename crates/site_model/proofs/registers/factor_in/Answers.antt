use Rattle.std.proofs.Common.{FitsSigned, ◌∙◌, sym}
use Rattle.std.specs.Int.{w16, w128}
use Rattle.std.proofs.lemmas.Int.{to_z-of_z}
use Rattle.site_model.proofs.Factors.{factor-fits, factor-fits_128}
use Rattle.site_model.proofs.registers.factor_in.Goals as goal

pub overflow_cast-result : goal.overflow_cast-result
overflow_cast-result c =
    let e = sym c.value.ensures ∙ c.in-Some.is in
    let f : FitsSigned w16 c.in-Some.power = factor-fits c.args.register.now c.in-Some.power c.requires (c.type_inv.register 0) e in
    let g : FitsSigned w128 c.in-Some.power = factor-fits_128 c.in-Some.power f in
    rw to_z-of_z f

pub returns-in-Some : goal.returns-in-Some
returns-in-Some c =
    let e = sym c.value.ensures ∙ c.in-Some.is in
    let f : FitsSigned w16 c.in-Some.power = factor-fits c.args.register.now c.in-Some.power c.requires (c.type_inv.register 0) e in
    let g : FitsSigned w128 c.in-Some.power = factor-fits_128 c.in-Some.power f in
    simp to_z-of_z (sym e)
