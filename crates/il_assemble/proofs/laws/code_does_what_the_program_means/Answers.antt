use Rattle.il_assemble.proofs.Lines.{code_does_what_the_program_means}
use Rattle.il_assemble.proofs.laws.code_does_what_the_program_means.Goals as goal

pub returns : goal.returns
returns c = code_does_what_the_program_means
