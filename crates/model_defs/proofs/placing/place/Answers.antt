use Rattle.std.proofs.Common.{refl}
use Rattle.std.proofs.lemmas.Map.Iter.{rest_more, rest_all}
use Rattle.std.specs.Map.Iter.{deref_pair}
use Rattle.model_defs.specs.Descriptions.{descriptions_view}
use Rattle.model_defs.proofs.Placed.{placed_step, placed_end}
use Rattle.model_defs.proofs.Whole.{names_told}
use Rattle.model_defs.proofs.placing.place.Goals as goal

pub loop-name-preserved : goal.loop-name-preserved
loop-name-preserved c =
    let step = rest_more deref_pair _ _ _ _ c.in-Some.is c.next.ensures.steps in
    placed_step (descriptions_view c.args.points.now.entries) c.loop-name.placed.items c.push.new.self.items c.loop-name.name-iterator c.next.new.self c.in-Some.name.now c.in-Some.description.now
    c.loop-name.offset _ c.loop-name.invariant step c.in_ok-push.ensures.items refl c.in_ok-new.ensures refl refl refl c.in-Some-place_factor.ensures.told c.in-Some-place_factor.ensures.among c.in-Some-place_factor.ensures.found

pub returns-clause-distinct : goal.returns-clause-distinct
returns-clause-distinct c =
    let none = rest_all deref_pair _ _ _ c.in-None.is c.next.ensures.steps in
    rw c.new-2.ensures
    (names_told c.args.points.now.entries c.loop-name.placed.items (placed_end (descriptions_view c.args.points.now.entries) c.loop-name.placed.items c.loop-name.name-iterator c.loop-name.offset c.loop-name.invariant none)
    c.iter-name-items.ensures.unique)
