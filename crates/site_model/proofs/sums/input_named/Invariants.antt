use Rattle.std.proofs.Common.{◌≡◌, drop, map, find}
use Rattle.site_model.specs.Serving.{is_input_named}
use Rattle.site_model.specs.TagView.{tag_view}
use Rattle.site_model.proofs.sums.input_named.Given as goal

abbrev pub invariant-loop-tag : goal.invariant-loop-tag
invariant-loop-tag l = find (is_input_named l.name) (map tag_view l.tags) ≡ find (is_input_named l.name) (map tag_view (drop l.tag-index l.tags))
