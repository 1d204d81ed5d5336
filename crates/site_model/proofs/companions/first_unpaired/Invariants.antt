use Rattle.std.proofs.Common.{◌≡◌, drop, map}
use Rattle.site_model.specs.Companions.{first_unpaired, unpaired_from}
use Rattle.site_model.specs.TagView.{tag_view}
use Rattle.site_model.proofs.companions.first_unpaired.Given as goal

-- the first among those that remain, with its number
abbrev pub invariant-loop-i : goal.invariant-loop-i
invariant-loop-i l = first_unpaired (map tag_view l.tags) ≡ unpaired_from (map tag_view l.tags) l.i (map tag_view (drop l.i l.tags))
