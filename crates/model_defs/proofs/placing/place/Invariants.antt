use Rattle.model_defs.specs.Descriptions.{descriptions_view}
use Rattle.model_defs.proofs.Placed.{IsPlaced}
use Rattle.model_defs.proofs.placing.place.Given as goal

abbrev pub invariant-loop-name : goal.invariant-loop-name
invariant-loop-name l = IsPlaced (descriptions_view l.points.entries) l.placed.items (descriptions_view l.name-iterator) l.offset
