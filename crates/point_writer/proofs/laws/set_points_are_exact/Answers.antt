use Rattle.point_writer.proofs.Fitted.{exact_out}
use Rattle.point_writer.proofs.Plans.{at_most_one, refused_has_none}
use Rattle.point_writer.proofs.laws.set_points_are_exact.Goals as goal

pub returns-clause-at_most : goal.returns-clause-at_most
returns-clause-at_most c = at_most_one

pub returns-clause-none : goal.returns-clause-none
returns-clause-none c = refused_has_none

pub returns-clause-exact : goal.returns-clause-exact
returns-clause-exact c = λ t f v n e h. exact_out t.fit t f v n e h
