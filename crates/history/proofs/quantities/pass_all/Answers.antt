use Rattle.std.proofs.Common.{add-one, arith}
use Rattle.history.proofs.Places.{one_passed, all_passed}
use Rattle.history.proofs.quantities.pass_all.Goals as goal

pub loop-one-init : goal.loop-one-init
loop-one-init c = λ puts are. are

pub loop-one-preserved : goal.loop-one-preserved
loop-one-preserved c = λ puts are. rw (add-one c.loop-one.one-index)
    (one_passed c.loop-one.one-index puts c.loop-one.series c.pass.new.self c.one-item.result
    (omega (arith, c.loop-one.auto.series, c.loop-one-test.true)) (c.loop-one.invariant puts are) c.pass.ensures)

pub returns : goal.returns
returns c = λ puts are. all_passed c.loop-one.one-index puts c.loop-one.series
    (omega (arith, c.loop-one.auto.series, c.loop-one-test.false)) (c.loop-one.invariant puts are)
