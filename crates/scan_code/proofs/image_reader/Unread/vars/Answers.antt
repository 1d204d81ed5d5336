use Rattle.std.proofs.Common.{rules}
use Rattle.scan_code.proofs.ImageParts.{var_more, var_refused}
use Rattle.scan_code.proofs.image_reader.Unread.vars.Goals as goal

pub returns-in_err-var : goal.returns-in_err-var
returns-in_err-var c =
    var_refused c.loop-missing.missing c.args.count c.loop-missing.vars c.loop-missing.self c.args.self.now c.in_err-var.field-0.0 c.from_residual.result c.var.new.self
    c.loop-missing-test.true c.loop-missing.invariant (search rules) (search rules)

pub loop-missing-preserved : goal.loop-missing-preserved
loop-missing-preserved c =
    var_more c.loop-missing.missing c.args.count c.loop-missing.vars c.push.new.self c.loop-missing.self c.args.self.now c.var.new.self c.in_ok-var.var
    c.loop-missing-test.true c.loop-missing.invariant (search rules) (search rules)
