use Rattle.history.specs.Steps.{nothing_put}
use Rattle.history.proofs.Places.{one_added}
use Rattle.history.proofs.quantities.Quantities.add.Goals as goal

pub returns-clause-kept : goal.returns-clause-kept
returns-clause-kept c = λ puts are.
    let held = rw (← c.self.view_is) at are in
    rw (c.in_ok-push.ensures.items) (one_added puts c.self.inside.series.items nothing_put c.in_ok-series.series held c.in_ok-series.ensures)
