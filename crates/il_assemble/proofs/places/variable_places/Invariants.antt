use Rattle.il_assemble.specs.Names.{is_called}
use Rattle.name_places.proofs.Places.{Counted}
use Rattle.il_assemble.proofs.places.variable_places.Given as goal

abbrev pub invariant-loop-place : goal.invariant-loop-place
invariant-loop-place l = Counted is_called l.variables l.place l.places.entries
