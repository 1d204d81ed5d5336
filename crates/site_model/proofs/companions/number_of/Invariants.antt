use Rattle.std.proofs.Common.{◌≡◌, drop, map}
use Rattle.site_model.specs.Companions.{number_from}
use Rattle.site_model.specs.TagView.{tag_view}
use Rattle.site_model.proofs.companions.number_of.Given as goal

-- the first among those that remain, with its number
abbrev pub invariant-loop-i : goal.invariant-loop-i
invariant-loop-i l = number_from 0 l.name (map tag_view l.tags) ≡ number_from l.i l.name (map tag_view (drop l.i l.tags))
