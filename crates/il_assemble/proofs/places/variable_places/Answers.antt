use Rattle.std.proofs.Common.{◌∙◌, ap, arith, sym}
use Rattle.std.specs.Str.{bytes_eq}
use Rattle.il_assemble.specs.Names.{is_called}
use Rattle.name_places.proofs.Places.{at_first, either_way, one_more}
use Rattle.il_assemble.proofs.places.variable_places.Goals as goal

pub loop-place-init : goal.loop-place-init
loop-place-init c = at_first is_called c.args.variables.now c.new-places.result.entries c.new-places.ensures.empty

pub loop-place-preserved : goal.loop-place-preserved
loop-place-preserved c =
    one_more is_called c.args.variables.now c.loop-place.place c.index-variables-place.result c.loop-place.places.entries c.note.new.places.entries c.as_str.result.now
    (omega (arith, c.loop-place-test.true)) c.index-variables-place.is (λ other. either_way _ other ∙ ap (λ name. bytes_eq other name) (sym c.as_str.ensures)) c.in_ok-note.ensures c.loop-place.invariant
