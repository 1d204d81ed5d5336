use Rattle.service.proofs.ByNotes.{states_are_by_notes}
use Rattle.service.proofs.laws.states_are_by_notes.Goals as goal

pub returns : goal.returns
returns c = states_are_by_notes
