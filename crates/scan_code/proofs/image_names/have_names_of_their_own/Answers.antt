use Rattle.scan_code.proofs.ImageTaken.{first_refuses, second_says}
use Rattle.scan_code.proofs.image_names.have_names_of_their_own.Goals as goal

pub returns-then-have_variables_names : goal.returns-then-have_variables_names
returns-then-have_variables_names c =
    second_says c.args.vars.now c.args.tags.now c.have_variables_names.result c.have_tags_names.result c.have_variables_names.ensures c.if-have_variables_names.true c.have_tags_names.ensures

pub returns-else-have_variables_names : goal.returns-else-have_variables_names
returns-else-have_variables_names c = first_refuses c.args.vars.now c.args.tags.now c.have_variables_names.result c.have_variables_names.ensures c.if-have_variables_names.false
