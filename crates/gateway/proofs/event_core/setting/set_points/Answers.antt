use Rattle.std.proofs.Common.{◌<◌, length, arith}
use Rattle.std.proofs.lemmas.Bool.Decides.{nat_tests}
use Rattle.gateway.proofs.Settled.{goes_on, goes_back, goes_nowhere, whole_on}
use Rattle.gateway.proofs.event_core.setting.set_points.Goals as goal

pub returns-then-not-set_point-clause-unset : goal.returns-then-not-set_point-clause-unset
returns-then-not-set_point-clause-unset c = λ new all.
    let so_far = c.loop-point.invariant in
    let some : 0 < length c.loop-point.left.now = grind (arith, nat_tests, c.is_empty.ensures, c.if-is_empty.false) in
    goes_nowhere c.args.tags.now c.args.points.now c.loop-point.point-index c.registers.result _ c.loop-point.left.now c.split_at.result.0.now c.split_at.result.1.now c.loop-point-test.true c.registers.ensures c.split_at.ensures.front c.split_at.ensures.back some
    c.loop-point.sets new c.if-not-set_point.ensures.unset (so_far.1 new all)

pub loop-point-preserved : goal.loop-point-preserved
loop-point-preserved c =
    let so_far = c.loop-point.invariant in
    let some : 0 < length c.loop-point.left.now = grind (arith, nat_tests, c.is_empty.ensures, c.if-is_empty.false) in (
      (λ new rest. so_far.0 new (goes_on c.args.tags.now c.args.points.now c.loop-point.point-index c.registers.result _ c.loop-point.left.now c.split_at.result.0.now c.split_at.result.1.now c.loop-point-test.true c.registers.ensures c.split_at.ensures.front c.split_at.ensures.back some
          c.loop-point.sets c.set_point.new.sets new c.if-not-set_point.ensures.set rest)),
      (λ new all. goes_back c.args.tags.now c.args.points.now c.loop-point.point-index c.registers.result _ c.loop-point.left.now c.split_at.result.0.now c.split_at.result.1.now c.loop-point-test.true c.registers.ensures c.split_at.ensures.front c.split_at.ensures.back some
          c.loop-point.sets c.set_point.new.sets new c.if-not-set_point.ensures.set (so_far.1 new all)),
      whole_on c.args.tags.now c.args.points.now c.loop-point.point-index c.registers.result _ c.loop-point.left.now c.split_at.result.0.now c.split_at.result.1.now c.loop-point-test.true c.registers.ensures c.split_at.ensures.front c.split_at.ensures.back some so_far.2,
      c.set_point.ensures.ranged,
      c.set_point.ensures.len,
    )
