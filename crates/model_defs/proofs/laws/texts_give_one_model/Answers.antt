use Rattle.model_defs.proofs.Uniqueness.{texts_give_one_model}
use Rattle.model_defs.proofs.laws.texts_give_one_model.Goals as goal

pub returns : goal.returns
returns c = texts_give_one_model
