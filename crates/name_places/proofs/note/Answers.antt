use Rattle.std.proofs.Common.{subst, sym, ap, not, ◌∙◌, false}
use Rattle.name_places.specs.Places.{Entries, Notes}
use Rattle.name_places.proofs.Places.{noted, seen}
use Rattle.name_places.proofs.note.Goals as goal

-- src/lib.rt:14:1
pub returns-in_ok-insert : goal.returns-in_ok-insert
returns-in_ok-insert c =
    subst (λ (es : Entries). Notes c.args.places.now.entries c.args.name.now c.args.place es) (sym c.in_ok-insert.ensures.entries)
    (noted c.args.places.now.entries c.args.name c.args.place (seen c.get.result _ false c.get.ensures.value (c.is_none.ensures ∙ ap not c.if-is_none.true)))
