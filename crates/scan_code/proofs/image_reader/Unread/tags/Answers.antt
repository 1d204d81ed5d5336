use Rattle.std.proofs.Common.{rules}
use Rattle.scan_code.proofs.ImageParts.{tag_more, tag_refused}
use Rattle.scan_code.proofs.image_reader.Unread.tags.Goals as goal

pub returns-in_err-tag : goal.returns-in_err-tag
returns-in_err-tag c =
    tag_refused c.loop-missing.missing c.args.count c.args.vars.now c.loop-missing.tags c.loop-missing.self c.args.self.now c.in_err-tag.field-0.0 c.from_residual.result c.tag.new.self
    c.loop-missing-test.true c.loop-missing.invariant (search rules) (search rules)

pub loop-missing-preserved : goal.loop-missing-preserved
loop-missing-preserved c =
    tag_more c.loop-missing.missing c.args.count c.args.vars.now c.loop-missing.tags c.push.new.self c.loop-missing.self c.args.self.now c.tag.new.self c.in_ok-tag.tag
    c.loop-missing-test.true c.loop-missing.invariant (search rules) (search rules)
