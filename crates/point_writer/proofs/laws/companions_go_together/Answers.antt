use Rattle.point_writer.proofs.Companions.{all_or_none, alone}
use Rattle.point_writer.proofs.laws.companions_go_together.Goals as goal

pub returns-clause-all : goal.returns-clause-all
returns-clause-all c = all_or_none

pub returns-clause-alone : goal.returns-clause-alone
returns-clause-alone c = alone
