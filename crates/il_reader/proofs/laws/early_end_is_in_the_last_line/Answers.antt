use Rattle.il_reader.proofs.Lines.{early_end_is_in_the_last_line}
use Rattle.il_reader.proofs.laws.early_end_is_in_the_last_line.Goals as goal

pub returns : goal.returns
returns c = early_end_is_in_the_last_line
