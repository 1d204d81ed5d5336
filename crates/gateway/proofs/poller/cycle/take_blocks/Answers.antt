use Rattle.std.proofs.Common.{◌≡◌, ◌+◌, ◌∙◌, ap, arith}
use Rattle.std.specs.Prelude.{count_by, [], ◌∷◌}
use Rattle.gateway.specs.poller.Cycle.{is_lost}
use Rattle.gateway.proofs.Blocks.{takes_more, stops_taking}
use Rattle.gateway.proofs.Reading.{turned_both}
use Rattle.gateway.proofs.poller.cycle.take_blocks.Goals as goal

pub returns-in-Err-clause-stopped : goal.returns-in-Err-clause-stopped
returns-in-Err-clause-stopped g c =
    let so_far = c.loop-i.invariant in
    let end = c.wants-i-end.ensures.value in
    let first = c.site.ensures in
    let within = rw first at (rw end at c.loop-i-test.true) in
    let want = rw so_far.1 at (rw c.site-in-loop-i.ensures at c.want_at-want.ensures) in
    stops_taking g.C.ScanCore.step_of _ _ c.loop-i.i c.want_at-want.result _ _ _ _ _ c.loop-i.lost c.in-Err.fault within want so_far.0
    (rw (c.site-in-loop-i-2.ensures, so_far.1, c.maps.ensures, so_far.2) at c.in-Err.ensures.stopped)

pub loop-i-preserved : goal.loop-i-preserved
loop-i-preserved g c =
    let so_far = c.loop-i.invariant in
    let end = c.wants-i-end.ensures.value in
    let first = c.site.ensures in
    let within = rw first at (rw end at c.loop-i-test.true) in
    let want = rw so_far.1 at (rw c.site-in-loop-i.ensures at c.want_at-want.ensures) in
    let one = rw (c.site-in-loop-i-2.ensures, so_far.1, c.maps.ensures, so_far.2) at c.in-Ok.ensures.taken in
    let counted : c.loop-i.lost + c.lost_by-lost.result ≡ c.loop-i.lost + count_by is_lost (c.in-Ok.event ∷ []) = ap (λ n. c.loop-i.lost + n) c.lost_by-lost.ensures.lost in (
      takes_more g.C.ScanCore.step_of _ _ c.loop-i.i c.want_at-want.result _ _ _ _ _ _ c.loop-i.lost c.in-Ok.event c.step.result within want so_far.0 one c.step.ensures.stepped (c.loop-i.lost + c.lost_by-lost.result) counted,
      c.step.ensures.site ∙ so_far.1,
      c.step.ensures.maps ∙ so_far.2,
      turned_both _ _ _ so_far.3 c.in-Ok.ensures.turned,
      one.2.fault,
      omega (arith, so_far.5, c.lost_by-lost.ensures.most),
    )
