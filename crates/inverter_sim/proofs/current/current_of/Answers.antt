use Rattle.std.proofs.Math.Nat.{div-div-eq-div-mul}
use Rattle.inverter_sim.proofs.current.current_of.Goals as goal

pub returns : goal.returns
returns c = div-div-eq-div-mul _ _ _
