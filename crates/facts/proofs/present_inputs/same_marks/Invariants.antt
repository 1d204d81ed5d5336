use Rattle.std.proofs.Common.{◌≡◌, length, map}
use Rattle.facts.specs.Fact.{same_bool, same_list}
use Rattle.facts.specs.Places.{is_filled}
use Rattle.facts.proofs.present_inputs.same_marks.Given as goal

abbrev pub invariant-loop-one : goal.invariant-loop-one
invariant-loop-one l = same_list same_bool (map is_filled l.ones) (map is_filled l.others) ≡ same_list same_bool (map is_filled l.fn.ones) (map is_filled l.fn.others)

abbrev pub decreases-loop-one : goal.decreases-loop-one
decreases-loop-one l = length l.ones
