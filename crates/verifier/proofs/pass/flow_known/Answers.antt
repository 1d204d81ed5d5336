use Rattle.verifier.proofs.pass.flow_known.Goals as goal

pub returns : goal.returns
returns g c = rw c.instruction-op.ensures c.flow.ensures
