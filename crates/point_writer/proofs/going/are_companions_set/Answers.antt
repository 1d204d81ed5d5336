use Rattle.std.proofs.Common.{arith, refl}
use Rattle.point_writer.proofs.Companions.{on_the_way}
use Rattle.point_writer.proofs.going.are_companions_set.Goals as goal

pub loop-left-preserved : goal.loop-left-preserved
loop-left-preserved c =
    on_the_way c.args.site.now.tags c.args.site.now.wants c.args.maps.now c.args.blocks.now c.args.outputs.now c.loop-left.left _ c.in-Some.number c.loop-left.companion c.companion-companion-in-loop-left.result _ _
    (omega (arith, c.loop-left-test.true)) c.in-Some.is c.companion-companion-in-loop-left.ensures (c.if-not-has_set_point.ensures.set refl) c.loop-left.invariant
