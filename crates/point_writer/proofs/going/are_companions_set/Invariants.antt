use Rattle.std.proofs.Common.{length}
use Rattle.site_model.specs.TagView.{companion_at}
use Rattle.point_writer.specs.Going.{AreCompanionsSet, AreSet, IsOneUnset}
use Rattle.point_writer.proofs.going.are_companions_set.Given as goal

-- where those from here on are set, all are, and where one of these has no set point, one of all has none
abbrev pub invariant-loop-left : goal.invariant-loop-left
invariant-loop-left l =
    (AreSet l.site.tags l.site.wants l.maps l.blocks l.outputs l.left l.companion → AreCompanionsSet l.site.tags l.site.wants l.maps l.blocks l.outputs l.fn.number)
    × (IsOneUnset l.site.tags l.site.wants l.maps l.blocks l.outputs l.left l.companion → IsOneUnset l.site.tags l.site.wants l.maps l.blocks l.outputs (length l.site.tags) (companion_at l.site.tags l.fn.number))

abbrev pub decreases-loop-left : goal.decreases-loop-left
decreases-loop-left l = l.left
