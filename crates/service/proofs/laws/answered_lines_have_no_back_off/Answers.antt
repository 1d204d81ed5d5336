use Rattle.service_parts.proofs.Frames.{answered_lines_have_no_back_off}
use Rattle.service.proofs.laws.answered_lines_have_no_back_off.Goals as goal

pub returns : goal.returns
returns c = answered_lines_have_no_back_off
