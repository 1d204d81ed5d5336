use Rattle.std.proofs.Common.{◌∙◌, ap, arith, drop, sym}
use Rattle.std.specs.Str.{bytes_eq}
use Rattle.std.specs.List.{position_from}
use Rattle.name_places.specs.Places.{or_else, place_in}
use Rattle.il_assemble.specs.StaticFault.{is_labelled, is_labelled_so}
use Rattle.name_places.proofs.Places.{at_first, either_way, one_more, one_without}
use Rattle.il_assemble.proofs.places.label_places.Goals.{in-Some+in_ok-note, in_default}
use Rattle.il_assemble.proofs.places.label_places.Goals as goal

pub loop-place-init : goal.loop-place-init
loop-place-init c = at_first is_labelled c.args.statements.now c.new-places.result.entries c.new-places.ensures.empty

pub loop-place-preserved : goal.loop-place-preserved
loop-place-preserved c =
    elim c.match-statement.branch [
      | in-Some+in_ok-note w ↦
          one_more is_labelled c.args.statements.now c.loop-place.place c.index-statements-place.result c.loop-place.places.entries c.match-statement.places.entries w.as_str.result.now
          (omega (arith, c.loop-place-test.true)) c.index-statements-place.is (λ other. ap (is_labelled_so other) w.in-Some.is ∙ either_way _ other ∙ ap (bytes_eq other) (sym w.as_str.ensures))
          (λ other. ap (λ m. place_in m.entries other) w.places-is ∙ w.in_ok-note.ensures other) c.loop-place.invariant
      | in_default w ↦
          one_without is_labelled c.args.statements.now c.loop-place.place c.index-statements-place.result c.match-statement.places.entries
          (omega (arith, c.loop-place-test.true)) c.index-statements-place.is (λ other. ap (is_labelled_so other) w.in_default.is)
          (λ other. ap (λ m. or_else (place_in m.entries other) (position_from (is_labelled other) c.loop-place.place (drop c.loop-place.place c.args.statements.now))) w.places-is ∙ c.loop-place.invariant other)
    ]
