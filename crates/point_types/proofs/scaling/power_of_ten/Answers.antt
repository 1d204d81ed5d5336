use Rattle.std.proofs.Common.{arith}
use Rattle.std.proofs.lemmas.Int.{ints}
use Rattle.point_types.proofs.Powers.{ten_pos}
use Rattle.point_types.proofs.scaling.power_of_ten.Goals as goal

pub returns-clause-positive : goal.returns-clause-positive
returns-clause-positive c = let p = ten_pos c.args.power in omega (arith, ints)
