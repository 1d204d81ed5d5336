use Rattle.il_reader.proofs.Lines.{fault_is_in_the_first_line}
use Rattle.il_reader.proofs.laws.fault_is_in_the_first_line.Goals as goal

pub returns : goal.returns
returns c = fault_is_in_the_first_line
