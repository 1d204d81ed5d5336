use Rattle.served_site.proofs.Going.{set_points_alone_are_written}
use Rattle.served_site.proofs.laws.set_points_alone_are_written.Goals as goal

pub returns : goal.returns
returns c = set_points_alone_are_written
