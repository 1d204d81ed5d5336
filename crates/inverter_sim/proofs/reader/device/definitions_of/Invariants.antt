use Rattle.std.proofs.Common.{◌≡◌, ◌++◌, drop, option_map}
use Rattle.inverter_sim.specs.File.{definitions_of}
use Rattle.inverter_sim.specs.Reading.{models_view}
use Rattle.inverter_sim.proofs.reader.device.definitions_of.Given as goal

-- the definitions so far, and then those of what remains
abbrev pub invariant-loop-number : goal.invariant-loop-number
invariant-loop-number l = definitions_of l.defs l.numbers ≡ option_map (λ ds. models_view l.models.items ++ ds) (definitions_of l.defs (drop l.number-index l.numbers))
