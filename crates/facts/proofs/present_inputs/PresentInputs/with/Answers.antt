use Rattle.facts.proofs.Marking.{filled_set}
use Rattle.facts.proofs.present_inputs.PresentInputs.with.Goals as goal

pub returns : goal.returns
returns c = rw (← c.self.view_is, c.in_ok-kept.ensures) (filled_set c.self.inside.kept c.args.number tt)
