use Rattle.std.proofs.Common.{◌≡◌, drop}
use Rattle.site_model.specs.Wants.{wants_behind, wants_of}
use Rattle.site_model.proofs.wants.wants_of.Given as goal

-- with what the remaining tags add, these are those of all tags
abbrev pub invariant-loop-tag : goal.invariant-loop-tag
invariant-loop-tag l = wants_behind l.wants (drop l.tag-index l.tags) ≡ wants_of l.tags
