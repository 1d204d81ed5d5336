use Rattle.site_model.proofs.Refused.{text_refused}
use Rattle.site_model.proofs.file.read_to.Goals as goal

pub returns-in-Ok-clause-placed : goal.returns-in-Ok-clause-placed
returns-in-Ok-clause-placed c =
    let t = c.in-Ok.ensures in
    text_refused c.args.defs.now c.args.file.now t.0 _ _ c.read_tree.result t.1 t.2 c.read_tree.ensures.placed
