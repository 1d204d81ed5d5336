use Rattle.site_model.proofs.ToldSite.{sites_are_told}
use Rattle.site_model.proofs.laws.sites_are_told.Goals as goal

pub returns : goal.returns
returns c = sites_are_told
