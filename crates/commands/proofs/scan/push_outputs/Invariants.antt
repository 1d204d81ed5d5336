use Rattle.std.proofs.Common.{◌≡◌, ◌++◌, take}
use Rattle.commands.specs.Report as report
use Rattle.commands.proofs.scan.push_outputs.Given as goal

abbrev pub invariant-loop-i : goal.invariant-loop-i
invariant-loop-i l = l.lines.items ≡ l.fn.lines.items ++ report.output_lines (take l.i l.trial.image.tags) l.trial.outputs
