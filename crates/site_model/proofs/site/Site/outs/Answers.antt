use Rattle.std.proofs.Common.{◌∙◌}
use Rattle.site_model.proofs.Outs.{outs-outputs}
use Rattle.site_model.proofs.site.Site.outs.Goals as goal

pub returns-clause-outputs : goal.returns-clause-outputs
returns-clause-outputs c = outs-outputs c.args.self.now.tags c.as_slice.result.now (c.as_slice.ensures ∙ c.args.self.now.written)
