use Rattle.commands.specs.Outcome.{ending_line}
use Rattle.commands.specs.Report.{output_lines, variable_lines}
use Rattle.commands.proofs.OutcomeLemmas.{parts_then}
use Rattle.commands.proofs.scan.push_scan.Goals as goal

pub returns-clause-ok : goal.returns-clause-ok
returns-clause-ok c =
    let t = c.args.trial.now in
    parts_then c.push_ending.result c.args.lines.now.items c.push_variables.new.lines.items c.push_outputs.new.lines.items c.push_ending.new.lines.items
    (variable_lines t.image.vars t.variables) (output_lines t.image.tags t.outputs) (ending_line c.args.ending) c.in_ok-push_variables.ensures.ok c.in_ok-push_outputs.ensures.ok c.push_ending.ensures.ok
