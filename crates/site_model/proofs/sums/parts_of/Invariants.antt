use Rattle.std.proofs.Common.{◌≡◌, drop, [], map}
use Rattle.toml.specs.View.{items_view}
use Rattle.site_model.specs.Serving.{parts_behind}
use Rattle.site_model.specs.TagView.{tag_view}
use Rattle.site_model.proofs.sums.parts_of.Given as goal

-- what the later parts give after those so far
abbrev pub invariant-loop-part : goal.invariant-loop-part
invariant-loop-part l =
    parts_behind l.exponent (map tag_view l.tags) [] (items_view l.parts) ≡ parts_behind l.exponent (map tag_view l.tags) l.numbers (items_view (drop l.part-index l.parts))
