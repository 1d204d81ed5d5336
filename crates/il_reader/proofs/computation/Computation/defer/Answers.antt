use Rattle.std.proofs.Common.{ap, ◌∙◌}
use Rattle.il_reader.specs.Written.{Defer}
use Rattle.il_reader.proofs.Forms.{deferred}
use Rattle.il_reader.proofs.computation.Computation.defer.Goals as goal

pub returns : goal.returns
returns c = deferred c.args.operator c.args.negated c.args.operand c.inner.inside.lines ∙ ap (Defer c.args.operator c.args.negated c.args.operand) c.inner.view_is
