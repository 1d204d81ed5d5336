use Rattle.std.proofs.Common.{arith}
use Rattle.inverter_sim.proofs.Powers.{ten_pos, ten_le}
use Rattle.inverter_sim.proofs.tick.ten_to.Goals as goal

pub pow-requires : goal.pow-requires
pow-requires c = let most = ten_le c.args.exponent c.requires in omega arith

pub returns-clause-positive : goal.returns-clause-positive
returns-clause-positive c = rw c.pow.ensures (ten_pos c.args.exponent)

pub returns-clause-bound : goal.returns-clause-bound
returns-clause-bound c = let most = ten_le c.args.exponent c.requires in omega arith
