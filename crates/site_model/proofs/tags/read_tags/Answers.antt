use Rattle.std.proofs.Common.{◌≡◌, ◌∙◌, [], Err, Ok, List, map, subst}
use Rattle.toml.specs.View.{view}
use Rattle.file_keys.proofs.InOrder.{next_read, refused_here}
use Rattle.site_model.specs.Tagging.{tag_of, tags_behind}
use Rattle.site_model.specs.TagView.{tag_view}
use Rattle.site_model.specs.declared.part.SitePart.TheVariants as parts
use Rattle.site_model.specs.declared.tag.SiteTag.{SiteTag}
use Rattle.site_model.proofs.Refused.{more_tags, one_longer, rest_read, tags_in_order, told_of_fault}
use Rattle.site_model.proofs.tags.read_tags.Goals as goal

pub returns-in_err-tag-clause-placed : goal.returns-in_err-tag-clause-placed
returns-in_err-tag-clause-placed c =
    let l = c.loop-entry in
    let s = c.args.scope in
    let next = tag_of s.devices.now s.own.now s.defs.now in
    told_of_fault c.from_residual.result c.in_err-tag.field-0.0 _ c.from_residual.ensures.1 (λ real.
    refused_here (tags_behind s.devices.now s.own.now s.defs.now) next parts.Tag [] (map tag_view l.tags) c.args.entries.now l.entry-index c.len.result c.entry-item.result c.in_err-tag.field-0.0
    c.loop-entry-test.true c.entry-item.is (c.len.ensures ∙ l.invariant.2) l.invariant.1
    (subst (λ (seen : List SiteTag). next (map tag_view seen) (view c.entry-item.result) ≡ Err c.in_err-tag.field-0.0) c.as_slice.ensures c.in_err-tag.ensures))

pub loop-entry-preserved : goal.loop-entry-preserved
loop-entry-preserved c =
    let l = c.loop-entry in
    let s = c.args.scope in
    let next = tag_of s.devices.now s.own.now s.defs.now in
    let good = subst (λ (seen : List SiteTag). next (map tag_view seen) (view c.entry-item.result) ≡ Ok (tag_view c.in_ok-tag.tag)) c.as_slice.ensures c.in_ok-tag.ensures in
    let longer = c.in_ok-push.ensures.ok in (
      rw (more_tags l.tags c.push.new.self c.in_ok-tag.tag longer)
          (l.invariant.0 ∙ rest_read (tags_in_order s.devices.now s.own.now s.defs.now) (map tag_view l.tags) c.args.entries.now l.entry-index c.entry-item.result (tag_view c.in_ok-tag.tag) c.loop-entry-test.true c.entry-item.is good),
      rw (more_tags l.tags c.push.new.self c.in_ok-tag.tag longer)
          (next_read (tags_in_order s.devices.now s.own.now s.defs.now) [] (map tag_view l.tags) c.args.entries.now l.entry-index c.entry-item.result (tag_view c.in_ok-tag.tag) c.loop-entry-test.true c.entry-item.is l.invariant.1 good),
      one_longer l.tags c.push.new.self c.in_ok-tag.tag l.entry-index longer l.invariant.2,
    )
