use Rattle.facts.proofs.Marking.{filled_both}
use Rattle.facts.proofs.present_inputs.PresentInputs.both.Goals as goal

pub returns : goal.returns
returns c = rw (← c.self.view_is, ← c.other.view_is, c.in_ok-kept.ensures) (filled_both c.self.inside.kept c.other.inside.kept)
