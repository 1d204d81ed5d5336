use Rattle.std.proofs.Common.{◌≡◌, ◌++◌, ◌∷◌, ◌∙◌, [], Err, Ok, arith, rules}
use Rattle.toml.specs.View.{view}
use Rattle.file_keys.proofs.InOrder.{next_read, refused_here}
use Rattle.inverter_sim.specs.File.{fault_of, faults_from}
use Rattle.inverter_sim.specs.declared.part.PlantPart.TheVariants as parts
use Rattle.inverter_sim.proofs.Entries.{faults_more}
use Rattle.inverter_sim.proofs.Refused.{faults_in_order, one_longer, told_of_fault}
use Rattle.inverter_sim.proofs.reader.faults.read_faults.Goals as goal

pub returns-in_err-fault-clause-placed : goal.returns-in_err-fault-clause-placed
returns-in_err-fault-clause-placed c =
    let l = c.loop-entry in
    let bad : fault_of l.faults.items (view c.entry-item.result) ≡ Err c.in_err-fault.field-0.0 = search rules in
    let at : c.len.result ≡ l.entry-index = omega (arith, c.len.ensures, l.invariant.2, l.faults.ok.0) in
    told_of_fault c.from_residual.result c.in_err-fault.field-0.0 _ c.from_residual.ensures.1 (λ real.
    refused_here faults_from fault_of parts.Fault [] l.faults.items c.args.entries.now l.entry-index c.len.result c.entry-item.result c.in_err-fault.field-0.0
    c.loop-entry-test.true c.entry-item.is at l.invariant.1 bad)

pub loop-entry-preserved : goal.loop-entry-preserved
loop-entry-preserved c =
    let l = c.loop-entry in
    let good : fault_of l.faults.items (view c.entry-item.result) ≡ Ok c.in_ok-fault.fault = search rules in
    let longer : c.push.new.self.items ≡ l.faults.items ++ c.in_ok-fault.fault ∷ [] = c.in_ok-push.ensures.items in (
      rw longer (l.invariant.0 ∙ faults_more c.args.entries.now l.entry-index c.entry-item.result l.faults.items c.in_ok-fault.fault c.loop-entry-test.true c.entry-item.is good),
      rw longer (next_read faults_in_order [] l.faults.items c.args.entries.now l.entry-index c.entry-item.result c.in_ok-fault.fault c.loop-entry-test.true c.entry-item.is l.invariant.1 good),
      one_longer l.faults.items c.push.new.self.items c.in_ok-fault.fault l.entry-index longer l.invariant.2,
    )
