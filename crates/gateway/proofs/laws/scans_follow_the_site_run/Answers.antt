use Rattle.gateway.proofs.Ending.{follows_the_run}
use Rattle.gateway.proofs.laws.scans_follow_the_site_run.Goals as goal

pub returns : goal.returns
returns c = follows_the_run
