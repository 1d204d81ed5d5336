use Rattle.std.proofs.Common.{sym, ◌∙◌}
use Rattle.toml.specs.View.{view}
use Rattle.site_model.proofs.Refused.{tree_refused}
use Rattle.site_model.proofs.file.read_tree.Goals as goal

pub returns-clause-placed : goal.returns-clause-placed
returns-clause-placed c =
    tree_refused c.args.defs.now (view c.args.file.now) _ c.read_sections.result
    (sym c.has_many_models.ensures ∙ c.if-has_many_models.false) (sym c.has_long_section.ensures ∙ c.if-has_long_section.false) c.read_sections.ensures.placed
