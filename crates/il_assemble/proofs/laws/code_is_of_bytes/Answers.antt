use Rattle.il_assemble.proofs.Bytes.{code_is_of_bytes}
use Rattle.il_assemble.proofs.laws.code_is_of_bytes.Goals as goal

pub returns : goal.returns
returns c = code_is_of_bytes
