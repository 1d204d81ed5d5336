use Rattle.serde_json.specs.View.{view}
use Rattle.model_defs.proofs.Trees.{refused_by}
use Rattle.model_defs.proofs.Refused.{text_refused}
use Rattle.model_defs.proofs.reader.read_to.Goals as goal

pub returns-in-Ok-clause-refused : goal.returns-in-Ok-clause-refused
returns-in-Ok-clause-refused c = refused_by c.args.text.now (view c.in-Ok.tree) c.read_tree.result c.in-Ok.ensures.ok c.read_tree.ensures.refused

pub returns-in-Ok-clause-placed : goal.returns-in-Ok-clause-placed
returns-in-Ok-clause-placed c = text_refused c.args.text.now (view c.in-Ok.tree) _ c.read_tree.result c.in-Ok.ensures.ok c.read_tree.ensures.placed
