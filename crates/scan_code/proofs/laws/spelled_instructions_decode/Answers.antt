use Rattle.scan_code.proofs.Fetch.{spelled_instructions_decode}
use Rattle.scan_code.proofs.laws.spelled_instructions_decode.Goals as goal

pub returns : goal.returns
returns c = spelled_instructions_decode
