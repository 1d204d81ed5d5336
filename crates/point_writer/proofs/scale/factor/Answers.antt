use Rattle.std.specs.Prelude.{List}
use Rattle.std.proofs.Common.{ap, ◌∙◌}
use Rattle.site_model.specs.declared.tag.SiteTag.{SiteTag}
use Rattle.site_model.specs.declared.want.Want.{Want}
use Rattle.point_writer.specs.SetPoint.{factor_of}
use Rattle.point_writer.proofs.Outputs.{tag_of}
use Rattle.point_writer.proofs.scale.factor.Goals as goal

pub returns : goal.returns
returns c = λ number t p q.
    let same = tag_of c.args.site.now.tags c.args.site.now.outs c.outs.result.now c.outs.ensures.value c.args.i _ c.tags.result.now c.tags.ensures c.index-tags-number.result c.index-tags-number.is number t p q in
    c.factor_of.ensures
    ∙ ap (λ (ws : List Want). factor_of c.args.maps.now ws c.args.blocks.now c.index-tags-number.result) c.wants.ensures.value
    ∙ ap (λ (x : SiteTag). factor_of c.args.maps.now c.args.site.now.wants c.args.blocks.now x) same
