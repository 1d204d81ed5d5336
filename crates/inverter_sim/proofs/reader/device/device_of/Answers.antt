use Rattle.std.proofs.Common.{◌≡◌, ◌∙◌, Some, ap, length, subst, sym, true}
use Rattle.toml.specs.View.{view}
use Rattle.inverter_sim.specs.File.{definitions_of, is_in_range}
use Rattle.inverter_sim.specs.Image.{image_of}
use Rattle.inverter_sim.specs.Parts.{IsInValues}
use Rattle.inverter_sim.specs.Reading.{device_keys_view, models_view}
use Rattle.inverter_sim.specs.declared.part.PlantPart.TheVariants as parts
use Rattle.inverter_sim.proofs.Refused.{in_values, told_of_fault}
use Rattle.inverter_sim.proofs.reader.device.device_of.Goals as goal

pub returns-in_err-give_values-clause-placed : goal.returns-in_err-give_values-clause-placed
returns-in_err-give_values-clause-placed c =
    let keys = device_keys_view c.in_ok-keys.keys in
    let models = models_view c.in_ok-models.models.items in
    let seen = c.args.seen.now in
    let registers = c.in_ok-registers.registers.items in
    let defined = subst (λ ids. definitions_of c.args.defs.now ids ≡ Some models) c.deref.ensures.value c.in_ok-models.ensures in
    let ranged = subst (λ ms. is_in_range seen keys ms ≡ true) (ap models_view c.deref-2.ensures.value) c.in_ok-ranges.ensures.ranges.0 in
    let blank = c.in_ok-registers.ensures ∙ ap image_of (ap models_view c.deref-4.ensures.value) in
    told_of_fault c.from_residual-in_err-give_values.result c.in_err-give_values.field-0.0 _ c.from_residual-in_err-give_values.ensures.1 (λ real.
    in_values c.args.defs.now seen (length seen) (view c.args.entry.now) _ c.in_err-give_values.field-0.0 keys models registers
    c.in_ok-keys.ensures defined ranged (sym c.is_duplicate.ensures ∙ c.if-is_duplicate.false) blank
    (subst (λ ms. IsInValues ms registers (length seen) (view c.args.entry.now) (parts.Device (length seen)) c.give_values.new.part c.in_err-give_values.field-0.0) (ap models_view c.deref-5.ensures.value) (c.in_err-give_values.ensures.placed real)))
