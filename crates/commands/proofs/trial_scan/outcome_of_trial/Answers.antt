use Rattle.std.proofs.Common.{◌≡◌, ◌∙◌, List, IfOk, subst, sym, rules}
use Rattle.point_types.specs.declared.reading.Reading.{Reading}
use Rattle.commands.specs.Input.{lines_of}
use Rattle.commands.specs.Outcome.{TellsImage}
use Rattle.commands.proofs.OutcomeLemmas.{image_given, image_refused}
use Rattle.commands.proofs.trial_scan.outcome_of_trial.Goals as goal

pub returns-in-Ok-Ok : goal.returns-in-Ok-Ok
returns-in-Ok-Ok c = λ image start.
    let tags : c.as_slice.result.now ≡ c.args.trial.image.tags = search rules in
    let same : c.as_slice-in-Ok-Ok.result.now ≡ c.in-Ok-Ok.readings = search rules in
    image_given image c.args.trial c.as_slice.result.now (lines_of c.args.inputs.now) c.in-Ok-Ok.readings c.scan_outcome.result start tags (sym c.in-Ok-Ok.field-0-is ∙ c.in-Ok-Ok.ensures)
    (subst (λ (rs : List Reading). IfOk c.scan_outcome.result (TellsImage image rs)) same (c.scan_outcome.ensures image start))

pub returns-in-Ok-Err : goal.returns-in-Ok-Err
returns-in-Ok-Err c = λ image start.
    let tags : c.as_slice.result.now ≡ c.args.trial.image.tags = search rules in
    image_refused image c.args.trial c.as_slice.result.now (lines_of c.args.inputs.now) c.in-Ok-Err.number c.refused_input.result start tags (sym c.in-Ok-Err.field-0-is ∙ c.in-Ok-Err.ensures) c.refused_input.ensures
