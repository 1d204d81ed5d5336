use Rattle.std.proofs.Common.{FitsSigned, rules, refl}
use Rattle.std.specs.Int.{w64}
use Rattle.std.proofs.lemmas.Int.{to_z-of_z}
use Rattle.point_writer.specs.Places.{place_view}
use Rattle.point_writer.proofs.Plans.{plan-at, sets-at, refused-at}
use Rattle.point_writer.proofs.plan.plan_of.Goals as goal

pub returns-in-Ok : goal.returns-in-Ok
returns-in-Ok c =
    let f : FitsSigned w64 c.in-Some.v = search rules in
    plan-at c.args.maps.now c.args.wants.now c.args.blocks.now c.args.tag.now c.in-Some.v c.args.output (place_view c.in-Some-place_of.place) _ c.in-Some.is c.in-Some-place_of.ensures
    (sets-at (place_view c.in-Some-place_of.place) c.args.tag.now c.in-Some.v _ c.in-Ok.out refl refl refl (simp to_z-of_z at c.in-Ok.ensures))

pub returns-in-Err : goal.returns-in-Err
returns-in-Err c =
    let f : FitsSigned w64 c.in-Some.v = search rules in
    plan-at c.args.maps.now c.args.wants.now c.args.blocks.now c.args.tag.now c.in-Some.v c.args.output (place_view c.in-Some-place_of.place) _ c.in-Some.is c.in-Some-place_of.ensures
    (refused-at (place_view c.in-Some-place_of.place) c.args.tag.now c.in-Some.v c.in-Err.fault c.of.result c.of.ensures (simp to_z-of_z at c.in-Err.ensures))
