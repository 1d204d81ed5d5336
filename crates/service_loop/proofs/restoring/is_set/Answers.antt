use Rattle.std.proofs.Common.{rules, w64, FitsSigned}
use Rattle.std.proofs.lemmas.Int.{to_z-of_z}
use Rattle.service_loop.proofs.Settings.{set_by}
use Rattle.service_loop.proofs.restoring.is_set.Goals as goal

pub returns-in-Sets : goal.returns-in-Sets
returns-in-Sets c =
    let fits : FitsSigned w64 c.in-Sets.number = search rules in
    set_by c.args.line c.in-Sets.tag c.in-Sets.number _ c.args.service.now.cycle.core.value c.restore.result c.restore.new.self.cycle.core.value
    c.in-Sets.is (to_z-of_z w64 c.in-Sets.number fits) c.restore.ensures.sets c.restore.ensures.refused
