use Rattle.model_defs.proofs.Lookup.{named_in}
use Rattle.model_defs.proofs.model.ModelDef.find.Goals as goal

pub returns-clause-named : goal.returns-clause-named
returns-clause-named c = named_in c.args.name.now c.args.self.now.points c.find.result c.find.ensures
