use Rattle.std.proofs.Common.{rules, arith, ◌∙◌, sym}
use Rattle.commands.proofs.LineLemmas.{before_blanks-shorter, before_blanks-same}
use Rattle.commands.proofs.input.before_blanks.Goals as goal

pub loop-rest-preserved : goal.loop-rest-preserved
loop-rest-preserved c = before_blanks-shorter c.loop-rest.rest.now (omega arith) (search rules) ∙ c.loop-rest.invariant

pub returns-then-not-is_blank : goal.returns-then-not-is_blank
returns-then-not-is_blank c = sym (before_blanks-same c.loop-rest.rest.now (omega arith) (search rules)) ∙ c.loop-rest.invariant
