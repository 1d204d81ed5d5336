use Rattle.commands.proofs.Texts.{texts_define_one_list}
use Rattle.commands.proofs.laws.texts_define_one_list.Goals as goal

pub returns : goal.returns
returns c = texts_define_one_list c.texts_give_one_model.ensures
