use Rattle.std.proofs.Common.{◌≡◌, ◌∙◌, ap, length}
use Rattle.std.proofs.lemmas.List.{length-replicate}
use Rattle.scan_vm.specs.Trap.{trap_of}
use Rattle.scan_vm.proofs.Scans.{ends_so, opens_itself, traps_so}
use Rattle.scan_vm.proofs.trial.Trial.scan.Goals as goal

pub run-requires-clause-begun : goal.run-requires-clause-begun
run-requires-clause-begun c = opens_itself c.self.inside.image c.self.inside.execution c.begin.new.self c.self.invariant.outputs c.begin.ensures

pub returns-in-Ok-clause-ended : goal.returns-in-Ok-clause-ended
returns-in-Ok-clause-ended c =
    ends_so c.self.inside.image c.self.inside.execution c.begin.new.self c.run.new.self c.args.self.now c.args.inputs.now c.in-Ok.steps
    c.self.view_is c.self.invariant.outputs c.begin.ensures c.in-Ok.ensures.ended

pub returns-in-Err-clause-trapped : goal.returns-in-Err-clause-trapped
returns-in-Err-clause-trapped c =
    let kept : c.deref.result.now ≡ c.self.inside.execution.variables = c.deref.ensures.value ∙ c.copy_from_slice.ensures.items ∙ c.variables.ensures in
    let begun : length c.begin.new.self.outputs ≡ length c.self.inside.execution.outputs = ap (λ s. length s.outputs) c.begin.ensures ∙ length-replicate _ _ in
    traps_so c.self.inside.image c.self.inside.execution c.begin.new.self c.run.new.self c.restore.new.self c.args.self.now c.args.inputs.now c.in-Err.trap.at (trap_of c.in-Err.trap.kind) c.deref.result.now
    c.self.view_is c.self.invariant.outputs c.begin.ensures kept (c.run.ensures.sizes.outputs ∙ begun ∙ c.self.invariant.outputs) c.restore.ensures c.in-Err.ensures.trapped
