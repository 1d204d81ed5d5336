use Rattle.il_assemble.specs.StaticFault.{is_labelled}
use Rattle.name_places.proofs.Places.{Counted}
use Rattle.il_assemble.proofs.places.label_places.Given as goal

abbrev pub invariant-loop-place : goal.invariant-loop-place
invariant-loop-place l = Counted is_labelled l.statements l.place l.places.entries
