use Rattle.std.proofs.Common.{◌≡◌, ◌≢◌, rules, subst}
use Rattle.inverter_sim.specs.Fault.{fault_word}
use Rattle.inverter_sim.specs.File.{Breaks}
use Rattle.inverter_sim.specs.declared.fault.PlantFault.TheVariants as fault
use Rattle.commands.specs.Report.{bad_plant_line}
use Rattle.commands.specs.Told.{refused_with}
use Rattle.commands.proofs.plant.plant_over.Goals as goal

pub returns-in_ok-no_plant-in-Err : goal.returns-in_ok-no_plant-in-Err
returns-in_ok-no_plant-in-Err c =
    let real : c.in-Err.placed.fault ≢ fault.OutOfMemory = search rules in
    let broken : Breaks c.args.models.items c.args.plant.now c.in-Err.placed.fault = subst (λ defs. Breaks defs c.args.plant.now c.in-Err.placed.fault) c.as_slice.ensures.value (c.in-Err.ensures.refused real) in
    let is : c.in_ok-no_plant-in-Err.field-0 ≡ refused_with (bad_plant_line (fault_word c.in-Err.placed.fault)) = search rules in
    (c.in-Err.placed.fault, broken, is)
