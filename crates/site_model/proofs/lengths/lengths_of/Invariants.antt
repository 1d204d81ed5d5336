use Rattle.std.proofs.Common.{◌≡◌, ◌++◌, drop, map}
use Rattle.site_model.specs.Lengths.{length_of_tag, lengths_of}
use Rattle.site_model.specs.TagView.{tag_view}
use Rattle.site_model.proofs.lengths.lengths_of.Given as goal

-- the lengths so far, then those of the later tags
abbrev pub invariant-loop-tag : goal.invariant-loop-tag
invariant-loop-tag l = (l.lengths ++ map (length_of_tag l.defs) (map tag_view (drop l.tag-index l.tags))) ≡ lengths_of l.own l.defs (map tag_view l.tags)
