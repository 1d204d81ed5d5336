use Rattle.std.proofs.Common.{◌≡◌, ◌+◌, ◌∙◌, [], Some, inr, ap, arith, codes, sym}
use Rattle.toml.specs.View.{view, items_view}
use Rattle.file_keys.specs.Keys.{section_at}
use Rattle.file_keys.proofs.InOrder.{next_read, refused_here}
use Rattle.inverter_sim.specs.File.{valued, valued_all, Valued}
use Rattle.inverter_sim.specs.Reading.{models_view}
use Rattle.inverter_sim.specs.declared.part.PlantPart.TheVariants as parts
use Rattle.inverter_sim.proofs.Entries.{values_more}
use Rattle.inverter_sim.proofs.Refused.{told_of_fault, values_in_order}
use Rattle.inverter_sim.proofs.reader.values.give_values.Goals as goal

pub returns-in_err-give_value-clause-placed : goal.returns-in_err-give_value-clause-placed
returns-in_err-give_value-clause-placed c =
    let l = c.loop-entry in
    let models = models_view c.args.models.now in
    let start : Valued = record { registers = c.args.registers.now.items; seen = [] } in
    let so_far : Valued = record { registers = l.registers.items; seen = l.seen.items } in
    let listed : section_at (codes "value") (view c.args.tree.now) ≡ Some (items_view c.in-Some.entries.now) = sym c.in-Some.ensures in
    let at : c.len.result ≡ l.entry-index = omega (arith, c.len.ensures, l.invariant.2, l.seen.ok.0) in
    told_of_fault c.from_residual.result c.in_err-give_value.field-0.0 _ c.from_residual.ensures.1 (λ real.
    inr (
      items_view c.in-Some.entries.now,
      listed,
      refused_here (valued_all models) (valued models) (parts.Value c.args.device) start so_far c.in-Some.entries.now l.entry-index c.len.result c.entry-item.result c.in_err-give_value.field-0.0
          c.loop-entry-test.true c.entry-item.is at l.invariant.1 (c.in_err-give_value.ensures.value real),
    ))

pub loop-entry-preserved : goal.loop-entry-preserved
loop-entry-preserved c =
    let l = c.loop-entry in
    let models = models_view c.args.models.now in
    let start : Valued = record { registers = c.args.registers.now.items; seen = [] } in
    let so_far : Valued = record { registers = l.registers.items; seen = l.seen.items } in
    let next : Valued = record { registers = c.give_value.new.registers.items; seen = c.give_value.new.seen.items } in
    let entries = c.in-Some.entries.now in
    let good = c.in_ok-give_value.ensures.value in (
      l.invariant.0 ∙ values_more models entries l.entry-index c.entry-item.result so_far next c.loop-entry-test.true c.entry-item.is good,
      next_read (values_in_order models) start so_far entries l.entry-index c.entry-item.result next c.loop-entry-test.true c.entry-item.is l.invariant.1 good,
      c.in_ok-give_value.ensures.more ∙ ap (λ k. k + 1) l.invariant.2,
      c.in_ok-give_value.ensures.len ∙ l.invariant.3,
    )
