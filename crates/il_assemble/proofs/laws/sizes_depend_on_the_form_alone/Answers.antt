use Rattle.il_assemble.proofs.Numbers.{sizes_depend_on_the_form_alone}
use Rattle.il_assemble.proofs.laws.sizes_depend_on_the_form_alone.Goals as goal

pub returns : goal.returns
returns c = sizes_depend_on_the_form_alone
