use Rattle.std.proofs.Common.{◌≡◌, ◌≢◌, IfErr, ℕ, List, subst, rules}
use Rattle.inverter_sim.specs.File.{Breaks}
use Rattle.inverter_sim.specs.declared.fault.PlantFault.TheVariants as fault
use Rattle.inverter_sim.proofs.plant.Plant.read.Goals as goal

pub returns-clause-refused : goal.returns-clause-refused
returns-clause-refused c =
    let same : c.in_ok-file.file ≡ c.args.toml.now = search rules in
    subst (λ (text : List ℕ). IfErr c.read_to.result (λ e. e ≢ fault.OutOfMemory → Breaks c.args.defs.now text e)) same c.read_to.ensures.refused
