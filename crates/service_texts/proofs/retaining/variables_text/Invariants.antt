use Rattle.std.proofs.Common.{◌≡◌, ◌++◌, length}
use Rattle.service_texts.specs.Retaining.{variables_text}
use Rattle.service_texts.proofs.retaining.variables_text.Given as goal

abbrev pub invariant-loop-var : goal.invariant-loop-var
invariant-loop-var l = l.text.items ++ variables_text l.vars l.numbers ≡ variables_text l.fn.vars l.fn.numbers

abbrev pub decreases-loop-var : goal.decreases-loop-var
decreases-loop-var l = length l.vars
