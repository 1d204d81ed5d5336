use Rattle.std.proofs.Common.{◌≡◌, ◌+◌, ap, sym, length, ◌∙◌, arith}
use Rattle.std.specs.Prelude.{count_by}
use Rattle.std.specs.Option.{option_to_list}
use Rattle.gateway.specs.poller.Cycle.{first_order, is_refusal}
use Rattle.gateway.proofs.Turns.{none_past, turn_within, turns_none, turns_over, turns_stop, turns_then}
use Rattle.gateway.proofs.Reading.{turned_none, turned_both}
use Rattle.gateway.proofs.poller.cycle.write_points.Goals as goal

pub loop-k-init : goal.loop-k-init
loop-k-init g c =
    let first = c.begin.ensures ∙ ap first_order c.site.ensures in
    (turns_none g.C.ScanCore.plan_of _ _ _ _ c.requires first, turned_none _, c.requires, omega arith, omega arith)

pub write-requires : goal.write-requires
write-requires g c =
    let next = sym c.get.ensures ∙ c.in-Some.is in
    turn_within g.C.ScanCore.plan_of _ c.loop-k.k _ _ _ _ _ _ c.in-Some.output c.loop-k.invariant.0 next

pub returns-in-Err-clause-stopped : goal.returns-in-Err-clause-stopped
returns-in-Err-clause-stopped g c =
    let next = sym c.get.ensures ∙ c.in-Some.is in
    let stops = rw (c.devices.ensures, c.site-in-loop-k.ensures) at c.in-Err.ensures.stopped in
    turns_stop g.C.ScanCore.plan_of _ c.loop-k.k _ _ _ _ _ _ _ c.in-Some.output c.write.result c.in-Err.fault c.loop-k.invariant.0 next c.write.ensures.planned stops

pub loop-k-preserved : goal.loop-k-preserved
loop-k-preserved g c =
    let so_far = c.loop-k.invariant in
    let call = c.in-Ok.ensures in
    let next = sym c.get.ensures ∙ c.in-Some.is in
    let one = rw (c.devices.ensures, c.site-in-loop-k.ensures) at call.written in
    let after = rw (c.is_taken.ensures, c.site-in-Ok.ensures) at c.follow.ensures in
    let sent : c.loop-k.writes + c.counts_by-sent.result.0 ≡ c.loop-k.writes + length (option_to_list c.in-Ok.outcome) = ap (λ n. c.loop-k.writes + n) c.counts_by-sent.ensures.sent in
    let not : c.loop-k.refused + c.counts_by-sent.result.1 ≡ c.loop-k.refused + count_by is_refusal (option_to_list c.in-Ok.outcome) = ap (λ n. c.loop-k.refused + n) c.counts_by-sent.ensures.refused in (
      turns_then g.C.ScanCore.plan_of _ c.loop-k.k _ _ _ _ _ _ c.loop-k.writes c.loop-k.refused c.in-Some.output c.write.result c.in-Ok.outcome _ _ so_far.0 next c.write.ensures.planned one after sent not,
      turned_both _ _ _ so_far.1 call.turned,
      one.3.fault,
      omega (arith, so_far.3, c.counts_by-sent.ensures.most.0),
      omega (arith, so_far.4, c.counts_by-sent.ensures.most.1),
    )

pub returns-in_default-clause-written : goal.returns-in_default-clause-written
returns-in_default-clause-written g c =
    turns_over g.C.ScanCore.plan_of _ c.loop-k.k _ _ _ _ _ _ c.loop-k.invariant.0 (none_past _ _ (sym c.get.ensures ∙ c.in_default.is))
