use Rattle.std.proofs.Common.{refl}
use Rattle.history.proofs.StepsOver.{step_more}
use Rattle.history.proofs.series.Series.pass.Goals as goal

pub returns : goal.returns
returns c = λ put is.
    let held = rw (← c.self.view_is) at is in
    let more = step_more 359 put.over c.self.inside.over.items put.running c.self.inside.running held.0 held.1 in
    (rw (c.push_last.ensures.items) more, refl)
