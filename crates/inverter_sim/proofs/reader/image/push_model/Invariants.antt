use Rattle.std.proofs.Common.{◌≡◌, ◌++◌, drop}
use Rattle.std.specs.List.{flat_map}
use Rattle.inverter_sim.specs.Image.{blank_words}
use Rattle.inverter_sim.proofs.reader.image.push_model.Given as goal

abbrev pub invariant-loop-point : goal.invariant-loop-point
invariant-loop-point l = l.initial.registers.items ++ flat_map blank_words l.point-items ≡ l.registers.items ++ flat_map blank_words (drop l.point-index l.point-items)
