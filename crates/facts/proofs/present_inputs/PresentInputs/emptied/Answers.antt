use Rattle.std.proofs.Common.{false}
use Rattle.facts.specs.Places.{is_filled}
use Rattle.facts.proofs.Marking.{mapped_one}
use Rattle.facts.proofs.present_inputs.PresentInputs.emptied.Goals as goal

pub returns : goal.returns
returns c = rw (← c.self.view_is, mapped_one is_filled c.self.inside.kept false, ← c.len.ensures) c.none.ensures
