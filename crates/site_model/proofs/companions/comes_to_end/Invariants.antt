use Rattle.std.proofs.Common.{◌≡◌}
use Rattle.site_model.specs.Companions.{comes_to_end}
use Rattle.site_model.proofs.companions.comes_to_end.Given as goal

-- it does from here on by as many steps as are left, where it does by all
abbrev pub invariant-loop-left : goal.invariant-loop-left
invariant-loop-left l = comes_to_end l.left l.companions l.place ≡ comes_to_end l.fn.most l.companions l.fn.from

abbrev pub decreases-loop-left : goal.decreases-loop-left
decreases-loop-left l = l.left
