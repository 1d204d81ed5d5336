use Rattle.il_reader.proofs.Bytes.{reading_is_exact}
use Rattle.il_reader.proofs.laws.reading_is_exact.Goals as goal

pub returns : goal.returns
returns c = reading_is_exact
