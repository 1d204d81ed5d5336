use Rattle.std.proofs.Common.{◌≡◌, ◌++◌, drop, map}
use Rattle.site_model.specs.Companions.{companion_of, companions_of}
use Rattle.site_model.specs.TagView.{tag_view}
use Rattle.site_model.proofs.companions.companions_of.Given as goal

-- those so far, and those of the tags that remain
abbrev pub invariant-loop-tag : goal.invariant-loop-tag
invariant-loop-tag l = l.companions ++ map (companion_of (map tag_view l.tags)) (map tag_view (drop l.tag-index l.tags)) ≡ companions_of (map tag_view l.tags)
