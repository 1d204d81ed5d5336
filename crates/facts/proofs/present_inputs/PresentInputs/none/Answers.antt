use Rattle.facts.proofs.Marking.{none_filled}
use Rattle.facts.proofs.present_inputs.PresentInputs.none.Goals as goal

pub returns : goal.returns
returns c = rw (c.empty-kept.ensures) (none_filled c.args.count)
