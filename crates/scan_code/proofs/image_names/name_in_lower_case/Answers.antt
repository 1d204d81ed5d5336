use Rattle.std.proofs.Common.{rules, ◌∙◌}
use Rattle.scan_code.proofs.ImageNames.{none_lower, other_lower, same_lower}
use Rattle.scan_code.proofs.image_names.name_in_lower_case.Goals as goal

pub returns-in_err-name : goal.returns-in_err-name
returns-in_err-name c = c.from_residual.ensures ∙ none_lower c.args.bytes.now (search rules)

pub returns-then-eq : goal.returns-then-eq
returns-then-eq c = same_lower c.args.bytes.now c.in_ok-name.name (search rules) (search rules)

pub returns-else-eq : goal.returns-else-eq
returns-else-eq c = other_lower c.args.bytes.now c.in_ok-name.name (search rules) (search rules)
