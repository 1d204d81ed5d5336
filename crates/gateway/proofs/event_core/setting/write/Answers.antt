use Rattle.std.proofs.Common.{subst, List}
use Rattle.site_model.specs.declared.tag.SiteTag.{SiteTag}
use Rattle.site_model.specs.Readings.{AreSettings}
use Rattle.gateway.proofs.event_core.setting.write.Goals as goal

pub set_points-requires-clause-ranged : goal.set_points-requires-clause-ranged
set_points-requires-clause-ranged c = rw (c.tags.ensures, c.copy_from_slice.ensures.after) c.requires.ranged

pub returns-clause-ranged : goal.returns-clause-ranged
returns-clause-ranged c = rw c.copy_from_slice-2.ensures.after (subst (λ (ts : List SiteTag). AreSettings ts c.set_points.new.sets) c.tags.ensures c.set_points.ensures.ranged)
