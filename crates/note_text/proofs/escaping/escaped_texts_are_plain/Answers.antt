use Rattle.note_text.proofs.Plain.{escaped_texts_are_plain}
use Rattle.note_text.proofs.escaping.escaped_texts_are_plain.Goals as goal

pub returns : goal.returns
returns c = escaped_texts_are_plain
