use Rattle.il_assemble.specs.Names.{is_external}
use Rattle.name_places.proofs.Places.{Counted}
use Rattle.il_assemble.proofs.places.external_places.Given as goal

abbrev pub invariant-loop-place : goal.invariant-loop-place
invariant-loop-place l = Counted is_external l.externals l.place l.places.entries
