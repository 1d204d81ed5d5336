use Rattle.std.proofs.Common.{get_or}
use Rattle.std.proofs.lemmas.List.{get_or_default}
use Rattle.commands.proofs.Texts.{broken_behind, broken_here, no_text, read_more, told_of_fault}
use Rattle.commands.proofs.definitions.push_shipped.Goals as goal

pub returns-in_err-push_definition-clause-refused : goal.returns-in_err-push_definition-clause-refused
returns-in_err-push_definition-clause-refused c =
    let shipped = c.args.shipped.now in
    let i = c.loop-model.model-index in
    let within = c.loop-model-test.true in
    told_of_fault c.from_residual.result _ _ c.from_residual.ensures.1 (λ real.
    c.loop-model.invariant.1 _ (broken_here (λ model. model.1.now) shipped i (get_or shipped i no_text) _ within (get_or_default shipped i no_text (get_or shipped i no_text) within) (c.in_err-push_definition.ensures.refused real)))

pub loop-model-preserved : goal.loop-model-preserved
loop-model-preserved c =
    let shipped = c.args.shipped.now in
    let i = c.loop-model.model-index in
    let within = c.loop-model-test.true in
    let model = get_or shipped i no_text in
    let is = get_or_default shipped i no_text model within in
    let read = c.in_ok-push_definition.ensures.read in (
      λ models rest.
          c.loop-model.invariant.0 models (read_more (λ m. m.1.now) shipped i model c.loop-model.models.items models read.0 within is read.1 (rw (← read.2) rest)),
      λ fault broken.
          c.loop-model.invariant.1 fault (broken_behind (λ m. m.1.now) shipped i model read.0 fault within is read.1 broken),
    )
