use Rattle.site_model.proofs.site.Site.readings.Goals as goal

pub readings-requires-clause-settings : goal.readings-requires-clause-settings
readings-requires-clause-settings c = rw c.tags.ensures c.requires.settings
