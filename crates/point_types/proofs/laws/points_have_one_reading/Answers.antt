use Rattle.point_types.proofs.Uniqueness.{at_most_one_reading, at_least_one_reading}
use Rattle.point_types.proofs.laws.points_have_one_reading.Goals as goal

pub returns-clause-at_most : goal.returns-clause-at_most
returns-clause-at_most c = at_most_one_reading

pub returns-clause-at_least : goal.returns-clause-at_least
returns-clause-at_least c = at_least_one_reading
