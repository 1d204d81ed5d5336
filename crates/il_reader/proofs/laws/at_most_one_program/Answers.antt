use Rattle.il_reader.proofs.Bytes.{at_most_one_program}
use Rattle.il_reader.proofs.laws.at_most_one_program.Goals as goal

pub returns : goal.returns
returns c = at_most_one_program
