use Rattle.std.proofs.Common.{rules, subst, sym, ◌∙◌}
use Rattle.service_parts.proofs.Frames.{not_begun}
use Rattle.service.specs.declared.held_writes.HeldWrites.{HeldWrites}
use Rattle.service.specs.Cycle.{stage_of}
use Rattle.service.specs.Having.{Has, IsToldBy}
use Rattle.service.specs.LeftOut.{left_by}
use Rattle.service.specs.Pairing.{IsPaired}
use Rattle.service.proofs.Courses.{right_rounds}
use Rattle.service.proofs.Going.{goes_then}
use Rattle.service.proofs.Having.{told_left, told_within}
use Rattle.service.proofs.LeftOut.{left_one, none_due, none_left, one_due, paired_next}
use Rattle.service.proofs.service_state.Service.next_due.Goals as goal

pub invariant_of-self : goal.invariant_of-self
invariant_of-self c = record { rightful = right_rounds _ _ c.loop.self.lines c.next_write.ensures.goes c.loop.self.rightful; right = c.loop.self.right }

pub loop-preserved : goal.loop-preserved
loop-preserved c = (
  search rules,
  search rules,
  search rules,
  (λ first within may has from before.
      let told = told_left c.loop.self.held c.args.device c.args.number _ c.loop.self.side.now _ _ c.in-Some-left_out.left (sym c.left_out.ensures ∙ c.in-Some-left_out.is) in
      c.leave_out.ensures.stands may (λ which became this. has which became (told_within first c.args.self.now.held within which became (subst (λ s. IsToldBy s which became) c.loop.invariant.1 (told which became this)))) from (c.loop.invariant.3 first within may has from before)),
  left_one c.args.device c.args.number c.args.self.now.held c.loop.self.held c.args.self.now.side.now c.loop.self.side.now (stage_of c.args.self.now.cycle) (stage_of c.loop.self.cycle) (stage_of c.next_write.new.self) (stage_of c.leave_out.new.self.cycle) c.in-Some.wish c.in-Some-left_out.left c.loop.invariant.4 (c.in-Some.ensures).next c.loop.invariant.1 c.loop.invariant.2.time.side.now (sym c.left_out.ensures ∙ c.in-Some-left_out.is) c.leave_out.ensures.ends,
  (λ link most from led.
      c.leave_out.ensures.lines link most from (not_begun _ _ _ _ _ _ (c.in-Some.ensures).due link most from (goes_then c.loop.self.side c.leave_out.new.self.side c.leave_out.ensures.rest.time.side.now c.leave_out.ensures.rest.time.side.limits link _ _ _ _ (c.loop.invariant.5 link) most from led))),
  search rules,
  search rules,
  (λ held first within before. c.leave_out.ensures.together held first (c.loop.invariant.7 held within) (c.loop.invariant.8 held first within before)),
)

pub returns-clause-left_out : goal.returns-clause-left_out
returns-clause-left_out c = none_left c.args.device (left_by c.args.self.now.held c.args.device c.args.number c.args.self.now.side.now) (stage_of c.args.self.now.cycle) (stage_of c.loop.self.cycle) (stage_of c.loop.self.cycle) c.loop.invariant.4

pub returns-in_default-clause-left_out : goal.returns-in_default-clause-left_out
returns-in_default-clause-left_out c = none_due c.args.device (left_by c.args.self.now.held c.args.device c.args.number c.args.self.now.side.now) (stage_of c.args.self.now.cycle) (stage_of c.loop.self.cycle) (stage_of c.next_write.new.self) c.loop.invariant.4 (c.in_default.ensures).next

pub returns-in_default-left_out-clause-left_out : goal.returns-in_default-left_out-clause-left_out
returns-in_default-left_out-clause-left_out c = one_due c.args.device (left_by c.args.self.now.held c.args.device c.args.number c.args.self.now.side.now) (stage_of c.args.self.now.cycle) (stage_of c.loop.self.cycle) (stage_of c.next_write.new.self) c.in-Some.wish c.loop.invariant.4 (c.in-Some.ensures).next

pub returns-in_default-left_out-clause-opens : goal.returns-in_default-left_out-clause-opens
returns-in_default-left_out-clause-opens c = record {
  before = c.loop.self.cycle.round.writes;
  goes = c.loop.invariant.5;
  takes = (c.in-Some.ensures).due;
}

pub returns-in_default-left_out-clause-paired : goal.returns-in_default-left_out-clause-paired
returns-in_default-left_out-clause-paired c =
    subst (λ (h : HeldWrites). IsPaired h.companions.items (Has h) c.args.number c.in-Some.wish.aim) c.loop.invariant.1
    (paired_next c.loop.self.held c.args.device c.args.number _ c.loop.self.side.now c.in-Some.wish.aim c.in-Some.wish.request (sym c.left_out.ensures ∙ c.in_default-left_out.is))
