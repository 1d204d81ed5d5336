use Rattle.std.proofs.Common.{rules, ◌∙◌, sym}
use Rattle.scan_code.specs.Image.{names_of}
use Rattle.scan_code.proofs.ImageNames.{is_then_new, never_new, not_new}
use Rattle.scan_code.proofs.image_names.new_name.Goals as goal

pub returns-in_err-name : goal.returns-in_err-name
returns-in_err-name c = c.from_residual.ensures ∙ never_new (names_of c.args.vars.now c.args.tags.now) c.args.bytes.now (search rules)

pub returns-then-is_taken : goal.returns-then-is_taken
returns-then-is_taken c = not_new (names_of c.args.vars.now c.args.tags.now) c.args.bytes.now (sym c.is_taken.ensures ∙ c.if-is_taken.true)

pub returns-else-is_taken : goal.returns-else-is_taken
returns-else-is_taken c = is_then_new (names_of c.args.vars.now c.args.tags.now) c.args.bytes.now c.in_ok-name.name (search rules) (sym c.is_taken.ensures ∙ c.if-is_taken.false)
