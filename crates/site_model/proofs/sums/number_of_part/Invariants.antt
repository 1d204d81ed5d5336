use Rattle.std.proofs.Common.{◌≡◌, drop, map}
use Rattle.site_model.specs.Serving.{part_from}
use Rattle.site_model.specs.TagView.{tag_view}
use Rattle.site_model.proofs.sums.number_of_part.Given as goal

-- the first among those after it, with its number
abbrev pub invariant-loop-i : goal.invariant-loop-i
invariant-loop-i l = part_from 0 l.exponent l.name (map tag_view l.tags) ≡ part_from l.i l.exponent l.name (map tag_view (drop l.i l.tags))
