use Rattle.point_types.proofs.Spellings.{at_most_one_spelling, holds_exactly}
use Rattle.point_types.proofs.laws.numbers_have_one_spelling.Goals as goal

pub returns-clause-at_most : goal.returns-clause-at_most
returns-clause-at_most c = at_most_one_spelling

pub returns-clause-exactly : goal.returns-clause-exactly
returns-clause-exactly c = holds_exactly
