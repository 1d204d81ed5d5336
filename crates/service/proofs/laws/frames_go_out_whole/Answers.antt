use Rattle.service_parts.proofs.Frames.{frames_go_out_whole}
use Rattle.service.proofs.laws.frames_go_out_whole.Goals as goal

pub returns : goal.returns
returns c = frames_go_out_whole
