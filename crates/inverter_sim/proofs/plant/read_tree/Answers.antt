use Rattle.std.proofs.Common.{refl}
use Rattle.toml.specs.View.{view}
use Rattle.inverter_sim.specs.Parts.{in_devices, in_faults}
use Rattle.inverter_sim.proofs.Refused.{long_is_many, told_of_fault}
use Rattle.inverter_sim.proofs.plant.read_tree.Goals as goal

pub returns-in-Some-clause-read : goal.returns-in-Some-clause-read
returns-in-Some-clause-read c = λ real. rw (long_is_many (view c.args.tree.now) c.in-Some.found c.in-Some.ensures) refl

pub returns-in_err-devices-clause-placed : goal.returns-in_err-devices-clause-placed
returns-in_err-devices-clause-placed c =
    told_of_fault c.from_residual.result c.in_err-devices.field-0.0 _ c.from_residual.ensures.1 (λ real. in_devices c.in_default.ensures (c.in_err-devices.ensures.placed real))

pub returns-in_err-faults-clause-placed : goal.returns-in_err-faults-clause-placed
returns-in_err-faults-clause-placed c =
    told_of_fault c.from_residual-in_err-faults.result c.in_err-faults.field-0.0 _ c.from_residual-in_err-faults.ensures.1 (λ real.
    in_faults c.in_ok-devices.devices.items c.in_default.ensures c.in_ok-devices.ensures.read (c.in_err-faults.ensures.placed real))
