use Rattle.std.proofs.Common.{◌≡◌, ◌++◌, drop}
use Rattle.site_model.specs.Wants.{outs_of, outs_from}
use Rattle.site_model.proofs.wants.outs_of.Given as goal

-- the numbers so far, and those of the tags that remain
abbrev pub invariant-loop-i : goal.invariant-loop-i
invariant-loop-i l = (l.outs ++ outs_from l.i (drop l.i l.tags)) ≡ outs_of l.tags
