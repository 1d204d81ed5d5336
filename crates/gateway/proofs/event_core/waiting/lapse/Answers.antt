use Rattle.std.proofs.Common.{◌≡◌, ◌∙◌, None, get_or, ap}
use Rattle.std.proofs.lemmas.List.{length-set}
use Rattle.site_model.specs.declared.tag.SiteTag.{SiteTag}
use Rattle.gateway.specs.event_core.SiteRun.{held}
use Rattle.gateway.proofs.Waiting.{held_more, held_ranged}
use Rattle.gateway.proofs.event_core.waiting.lapse.Goals as goal

pub loop-i-preserved : goal.loop-i-preserved
loop-i-preserved c =
    let so_far = c.loop-i.invariant in
    let same : c.held.result ≡ held (get_or c.args.tags.now c.loop-i.i c.index-tags-i.result) (get_or c.args.ages.now c.loop-i.i None) (get_or c.loop-i.sets c.loop-i.i None) =
    c.held.ensures ∙ ap (λ (t : SiteTag). held t (get_or c.args.ages.now c.loop-i.i None) (get_or c.loop-i.sets c.loop-i.i None)) c.index-tags-i.is in
    rw same (
      so_far.0 ∙ held_more c.args.tags.now c.args.ages.now c.loop-i.sets c.loop-i.i c.index-tags-i.result None None c.loop-i-test.true c.requires.ages so_far.2,
      held_ranged c.args.tags.now c.args.ages.now c.loop-i.sets c.loop-i.i c.index-tags-i.result None None c.loop-i-test.true c.requires.ages so_far.2 so_far.1,
      length-set c.loop-i.sets c.loop-i.i _ ∙ so_far.2,
    )
