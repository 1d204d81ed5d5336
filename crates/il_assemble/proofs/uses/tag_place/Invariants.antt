use Rattle.std.proofs.Common.{◌≡◌, ◌+◌, ◌≤◌, length}
use Rattle.il_assemble.specs.Names.{tag_place}
use Rattle.il_assemble.proofs.uses.tag_place.Given as goal

abbrev pub invariant-loop-others : goal.invariant-loop-others
invariant-loop-others l = (l.used + tag_place l.others l.before ≡ tag_place l.uses l.place) × (l.used + l.before ≤ l.place)

abbrev pub decreases-loop-others : goal.decreases-loop-others
decreases-loop-others l = length l.others
