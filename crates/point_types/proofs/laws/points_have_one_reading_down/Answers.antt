use Rattle.point_types.proofs.Uniqueness.{at_most_one_reading_down, at_least_one_reading_down, down_is_never_inexact}
use Rattle.point_types.proofs.laws.points_have_one_reading_down.Goals as goal

pub returns-clause-at_most : goal.returns-clause-at_most
returns-clause-at_most c = at_most_one_reading_down

pub returns-clause-at_least : goal.returns-clause-at_least
returns-clause-at_least c = λ raw f e low high. let d = at_least_one_reading_down raw f e low high in (d.0, d.1)

pub returns-clause-whole : goal.returns-clause-whole
returns-clause-whole c = down_is_never_inexact
