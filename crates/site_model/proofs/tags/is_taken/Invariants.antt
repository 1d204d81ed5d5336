use Rattle.std.proofs.Common.{◌≡◌, drop, map}
use Rattle.std.specs.List.{list_any}
use Rattle.site_model.specs.Tagging.{clashes}
use Rattle.site_model.specs.TagView.{tag_view}
use Rattle.site_model.proofs.tags.is_taken.Given as goal

abbrev pub invariant-loop-other : goal.invariant-loop-other
invariant-loop-other l = list_any (clashes (tag_view l.tag)) (map tag_view l.seen) ≡ list_any (clashes (tag_view l.tag)) (map tag_view (drop l.other-index l.seen))
