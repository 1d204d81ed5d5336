use Rattle.std.proofs.Common.{◌≡◌, ◌∙◌, [], Err, Ok, map, subst}
use Rattle.toml.specs.View.{view}
use Rattle.file_keys.proofs.InOrder.{next_read, refused_here}
use Rattle.site_model.specs.Serving.{served_of, served_behind}
use Rattle.site_model.specs.TagView.{tag_view}
use Rattle.site_model.specs.declared.part.SitePart.TheVariants as parts
use Rattle.site_model.proofs.Refused.{one_longer, rest_read, served_in_order, told_of_fault}
use Rattle.site_model.proofs.serving.read_served.Goals as goal

pub returns-in_err-point-clause-placed : goal.returns-in_err-point-clause-placed
returns-in_err-point-clause-placed c =
    let l = c.loop-entry in
    let own = c.args.own.now in
    let tags = map tag_view c.args.tags.now in
    told_of_fault c.from_residual.result c.in_err-point.field-0.0 _ c.from_residual.ensures.1 (λ real.
    refused_here (served_behind own tags) (served_of own tags) parts.Served [] l.served c.args.entries.now l.entry-index c.len.result c.entry-item.result c.in_err-point.field-0.0
    c.loop-entry-test.true c.entry-item.is (c.len.ensures ∙ l.invariant.2) l.invariant.1
    (subst (λ seen. served_of own tags seen (view c.entry-item.result) ≡ Err c.in_err-point.field-0.0) c.as_slice.ensures (c.in_err-point.ensures.refused real)))

pub loop-entry-preserved : goal.loop-entry-preserved
loop-entry-preserved c =
    let l = c.loop-entry in
    let own = c.args.own.now in
    let tags = map tag_view c.args.tags.now in
    let good = subst (λ seen. served_of own tags seen (view c.entry-item.result) ≡ Ok c.in_ok-point.point) c.as_slice.ensures c.in_ok-point.ensures.told in
    let longer = c.in_ok-push.ensures.ok in (
      rw longer (l.invariant.0 ∙ rest_read (served_in_order own tags) l.served c.args.entries.now l.entry-index c.entry-item.result c.in_ok-point.point c.loop-entry-test.true c.entry-item.is good),
      rw longer (next_read (served_in_order own tags) [] l.served c.args.entries.now l.entry-index c.entry-item.result c.in_ok-point.point c.loop-entry-test.true c.entry-item.is l.invariant.1 good),
      one_longer l.served c.push.new.self c.in_ok-point.point l.entry-index longer l.invariant.2,
    )
