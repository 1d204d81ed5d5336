use Rattle.service.proofs.WritesOnce.{each_run_is_written_once}
use Rattle.service.proofs.laws.each_run_is_written_once.Goals as goal

pub returns : goal.returns
returns c = each_run_is_written_once
