use Rattle.std.proofs.Common.{◌≡◌, drop, map}
use Rattle.std.specs.List.{list_any}
use Rattle.site_model.specs.Serving.{is_tag_of}
use Rattle.site_model.specs.TagView.{tag_view}
use Rattle.site_model.proofs.serving.is_tagged.Given as goal

abbrev pub invariant-loop-tag : goal.invariant-loop-tag
invariant-loop-tag l = list_any (is_tag_of l.model l.offset) (map tag_view l.tags) ≡ list_any (is_tag_of l.model l.offset) (map tag_view (drop l.tag-index l.tags))
