use Rattle.served_site.proofs.Meant.{scans_mean_the_program}
use Rattle.served_site.proofs.laws.scans_mean_the_program.Goals as goal

pub returns : goal.returns
returns c = scans_mean_the_program
