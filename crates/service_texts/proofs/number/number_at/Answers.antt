use Rattle.service_texts.proofs.number.number_at.Goals as goal

pub returns : goal.returns
returns c = rw c.tag_factor.ensures at c.number_by.ensures
