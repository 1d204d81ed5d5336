use Rattle.std.proofs.Common.{◌≤◌, ap, ◌∙◌, arith}
use Rattle.history.specs.Recorded.{Recorded}
use Rattle.history.proofs.Places.{one_later}
use Rattle.history.proofs.quantities.Quantities.turn_to.Goals as goal

pub loop-preserved : goal.loop-preserved
loop-preserved c =
    let same = ap (λ (r : Recorded). r.over) c.self.view_is in
    let begun : c.args.self.now.over ≤ c.loop.counter = omega (arith, same, c.loop.auto.counter) in
    let held = c.loop.invariant in (
      c.pass.ensures.over ∙ held.0,
      c.pass.ensures.names ∙ held.1,
      omega (arith, begun, c.loop-test.true),
      λ puts are. one_later c.args.self.now.over c.loop.counter puts c.pass.new.self.series begun (c.pass.ensures.kept _ (held.3 puts are)),
    )
