use Rattle.std.proofs.Common.{sym, subst, ◌∙◌}
use Rattle.std.specs.Prelude.{Result}
use Rattle.point_writer.specs.Going.{IsAlone}
use Rattle.point_writer.specs.SetPoint.{IsPlan}
use Rattle.point_writer.specs.declared.write.Write.{Write}
use Rattle.point_writer.specs.declared.write.NoWrite.{NoWrite}
use Rattle.site_model.specs.Readings.{known_at}
use Rattle.point_writer.proofs.Outputs.{number_of, output_access}
use Rattle.point_writer.proofs.Companions.{alone_of, plan_with, written_alone}
use Rattle.point_writer.proofs.Plans.{writes-set_point}
use Rattle.point_writer.proofs.plan.plan.Goals as goal

pub returns-clause-plan : goal.returns-clause-plan
returns-clause-plan c = λ number t p q.
    plan_with c.args.site.now.tags c.args.site.now.wants c.args.maps.now c.args.blocks.now c.args.outputs.now _ number t c.plan_alone-alone.result c.together.result c.are_companions_set-are_set.result
    (number_of c.args.site.now.tags c.args.site.now.outs c.outs.result.now c.outs.ensures.value c.args.i _ number p) c.plan_alone-alone.ensures c.together.ensures
    c.are_companions_set-are_set.ensures.set c.are_companions_set-are_set.ensures.unset q

pub returns-clause-set_point : goal.returns-clause-set_point
returns-clause-set_point c = λ number t w p q e.
    let same = number_of c.args.site.now.tags c.args.site.now.outs c.outs.result.now c.outs.ensures.value c.args.i _ number p in
    let alone = subst (λ n. IsAlone c.args.site.now.tags c.args.site.now.wants c.args.maps.now c.args.blocks.now c.args.outputs.now n c.plan_alone-alone.result) same c.plan_alone-alone.ensures in
    let planned = alone_of c.args.site.now.tags c.args.site.now.wants c.args.maps.now c.args.blocks.now c.args.outputs.now number t c.plan_alone-alone.result q alone in
    let written = written_alone c.plan_alone-alone.result c.are_companions_set-are_set.result w (sym c.together.ensures ∙ e) in
    writes-set_point c.args.maps.now c.args.site.now.wants c.args.blocks.now t (known_at c.args.outputs.now number) w
    (output_access c.args.site.now.tags c.args.site.now.outs c.outs.result.now c.outs.ensures.value c.args.i 0 c.outs.ensures.outputs number t p q)
    (subst (λ (x : Result Write NoWrite). IsPlan c.args.maps.now c.args.site.now.wants c.args.blocks.now t (known_at c.args.outputs.now number) x) written planned)
