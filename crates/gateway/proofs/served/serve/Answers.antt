use Rattle.std.proofs.Common.{◌≡◌, ◌∙◌, length, arith, sym}
use Rattle.gateway.proofs.Serving.{length_put, registers_more, served_more, served_whole}
use Rattle.gateway.proofs.served.serve.Goals as goal

pub loop-point-preserved : goal.loop-point-preserved
loop-point-preserved c =
    let so_far = c.loop-point.invariant in
    let known = c.args.known.now in
    let more = registers_more c.args.site.now known.outputs.items known.readings.items known.sets.items c.args.points.now c.loop-point.point-index c.loop-point.at c.registers.result c.loop-point.image _ c.loop-point-test.true c.registers.ensures so_far.1 in
    let sized : length c.put_point.new.into ≡ c.registers.result = c.put_point.ensures.len ∙ sym c.registers.ensures in
    let same = length_put c.loop-point.image c.put_point.new.into c.loop-point.at c.registers.result sized (omega (arith, more)) in (
      served_more c.args.site.now known.outputs.items known.readings.items known.sets.items c.args.points.now c.loop-point.point-index c.loop-point.at c.registers.result c.loop-point.image c.put_point.new.into _ c.loop-point-test.true c.registers.ensures sized c.put_point.ensures.words so_far.1 so_far.0,
      more ∙ sym same,
      same ∙ so_far.2,
    )

pub returns-clause-served : goal.returns-clause-served
returns-clause-served c =
    let so_far = c.loop-point.invariant in
    let known = c.args.known.now in
    served_whole c.args.site.now known.outputs.items known.readings.items known.sets.items c.args.points.now c.loop-point.point-index c.loop-point.at c.loop-point.image c.loop-point-test.false so_far.1 so_far.0
