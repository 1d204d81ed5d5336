use Rattle.scan_code.proofs.ImageNames.{first_taken, second_taken}
use Rattle.scan_code.proofs.image_names.is_taken.Goals as goal

pub returns-then-is_variable : goal.returns-then-is_variable
returns-then-is_variable c = first_taken c.args.vars.now c.args.tags.now c.args.name.now c.is_variable.result c.is_variable.ensures c.if-is_variable.true

pub returns-else-is_variable : goal.returns-else-is_variable
returns-else-is_variable c =
    second_taken c.args.vars.now c.args.tags.now c.args.name.now c.is_variable.result c.is_tag.result c.is_variable.ensures c.if-is_variable.false c.is_tag.ensures
