use Rattle.std.proofs.Common.{sym, ◌∙◌, ◌≡◌, Some}
use Rattle.gateway.specs.poller.Cycle.{write_of}
use Rattle.gateway.proofs.Blocks.{writes_call}
use Rattle.gateway.proofs.poller.line.Line.write_point.Goals as goal

pub returns-in-Ok-clause-written : goal.returns-in-Ok-clause-written
returns-in-Ok-clause-written g c =
    let asked : write_of c.args.devices.now c.args.plan.now ≡ Some c.in-Some.call = sym c.write_of.ensures.write ∙ c.in-Some.is in
    rw asked (writes_call c.in-Some.call _ _ c.in-Ok.outcome c.in-Ok.ensures.done)
