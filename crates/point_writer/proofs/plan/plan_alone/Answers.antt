use Rattle.point_writer.proofs.Outputs.{planned_alone, stored_in}
use Rattle.point_writer.proofs.plan.plan_alone.Goals as goal

pub plan_of-requires-clause-ranged : goal.plan_of-requires-clause-ranged
plan_of-requires-clause-ranged c = λ v e.
    stored_in c.args.site.now.tags c.tags.result.now c.tags.ensures c.args.outputs.now c.args.number c.index-tags-number.result c.index-tags-number.is c.requires.inside c.requires.outputs c.requires.ranged v e

pub returns : goal.returns
returns c =
    planned_alone c.args.site.now.tags c.tags.result.now c.tags.ensures c.args.outputs.now c.args.number c.index-tags-number.result c.index-tags-number.is
    c.args.maps.now c.args.site.now.wants c.wants.result.now c.args.blocks.now c.plan_of.result c.requires.inside c.wants.ensures.value c.plan_of.ensures
