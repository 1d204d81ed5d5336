use Rattle.std.proofs.Common.{◌∙◌, ◌<◌, length, None, arith}
use Rattle.std.proofs.lemmas.List.{length-set}
use Rattle.gateway.proofs.Filling.{filled_more}
use Rattle.gateway.proofs.event_core.scan.clear.Goals as goal

pub loop-output-preserved : goal.loop-output-preserved
loop-output-preserved c =
    let so_far = c.loop-output.invariant in
    let within : c.loop-output.output-index < length c.args.outputs.now = omega (arith, c.loop-output-test.true, so_far.1, c.loop-output.auto.outputs, c.loop-output.auto.output-index-end) in (
      so_far.0 ∙ filled_more (λ x. None) c.args.outputs.now c.loop-output.outputs c.loop-output.output-index None within so_far.1,
      length-set c.loop-output.outputs _ _ ∙ so_far.1,
    )
