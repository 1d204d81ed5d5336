use Rattle.std.proofs.Common.{refl, subst, sym, ◌∙◌}
use Rattle.service.specs.declared.cycle.Cycle.{Cycle}
use Rattle.service.specs.declared.held_writes.HeldWrites.{HeldWrites}
use Rattle.service.specs.Comparing.{TellsOthers, WritesAnew}
use Rattle.service.specs.Cycle.{EndsOwn, LeadsOn, stage_of}
use Rattle.service.specs.Having.{HasNoMore, IsAnsweredBy, IsRefusedBy, taken_by}
use Rattle.service.specs.Identity.{IsSaidBy}
use Rattle.service.specs.ReadBack.{IsShownBy}
use Rattle.service.specs.Told.{BecomesBy, ShowsBy}
use Rattle.service.proofs.ByNotes.{goes_compare}
use Rattle.service.proofs.Compared.{anew_since, writes_anew}
use Rattle.service.proofs.Differing.{others_since, tells_others}
use Rattle.service.proofs.Having.{had_from, had_since, had_then, says_since, says_then, takes_on}
use Rattle.service.proofs.Together.{taken_then}
use Rattle.service.proofs.service_state.Service.take_answer.Goals as goal

pub returns-clause-answers : goal.returns-clause-answers
returns-clause-answers c = record {
  middle = stage_of c.take-foreign.new.self.cycle;
  ends = subst (λ (x : Cycle). EndsOwn c.args.asked.aim c.args.asked.device c.args.outcome (stage_of x) (stage_of c.take-foreign.new.self.cycle)) (c.compare.ensures.cycle ∙ (c.note_refusal.ensures.cycle ∙ c.note_reply.ensures.cycle)) c.take-foreign.ensures.ends;
  goes = λ from before. subst (λ (x : Cycle). LeadsOn x c.go_on.new.self.cycle) c.leave_turn.ensures.cycle c.go_on.ensures.goes from (c.forget_if.ensures.goes from before);
}

pub returns-clause-held : goal.returns-clause-held
returns-clause-held c =
    let now = c.compare.ensures.time.side.now ∙ (c.note_refusal.ensures.time.side.now ∙ (c.note_reply.ensures.time.side.now ∙ c.hear.ensures.time.now)) in
    let compared : HasNoMore c.args.self.now.held c.compare.new.self.held = subst (λ s. HasNoMore s c.compare.new.self.held) (c.note_refusal.ensures.held ∙ c.note_reply.ensures.held) c.compare.ensures.held in
    let more = had_since _ _ _ _ compared (had_from c.args.outcome c.args.asked _ _ _ _ _ now refl c.take-foreign.ensures.held) in
    had_then _ _ _ _ more (λ first within. subst (λ s. HasNoMore s c.go_on.new.self.held) c.leave_turn.ensures.held c.go_on.ensures.held first (c.forget_if.ensures.held first within))

pub returns-clause-stands : goal.returns-clause-stands
returns-clause-stands c may has shows from before =
    let now = c.compare.ensures.time.side.now ∙ (c.note_refusal.ensures.time.side.now ∙ (c.note_reply.ensures.time.side.now ∙ c.hear.ensures.time.now)) in
    let compared : HasNoMore c.args.self.now.held c.compare.new.self.held = subst (λ s. HasNoMore s c.compare.new.self.held) (c.note_refusal.ensures.held ∙ c.note_reply.ensures.held) c.compare.ensures.held in
    let more = had_since _ _ _ _ compared (had_from c.args.outcome c.args.asked _ _ _ _ _ now refl c.take-foreign.ensures.held) in
    let no_more = subst (λ s. HasNoMore c.take-foreign.new.self.held s) (sym c.leave_turn.ensures.held) c.forget_if.ensures.held in
    let takes = subst (λ n. BecomesBy (IsAnsweredBy (taken_by c.args.outcome c.args.asked n) (IsRefusedBy c.args.outcome c.args.asked)) c.compare.new.self.side c.take-foreign.new.self.side) now c.take-foreign.ensures.stands in
    let shown_by = subst (λ (x : Cycle). ShowsBy (IsShownBy x.core.value.site.wants c.args.self.now.held c.args.asked c.args.outcome) c.note_refusal.new.self.side c.compare.new.self.side) (c.note_refusal.ensures.cycle ∙ c.note_reply.ensures.cycle)
    (subst (λ (h : HeldWrites). ShowsBy (IsShownBy c.note_refusal.new.self.cycle.core.value.site.wants h c.args.asked c.args.outcome) c.note_refusal.new.self.side c.compare.new.self.side) (c.note_refusal.ensures.held ∙ c.note_reply.ensures.held) c.compare.ensures.stands) in
    takes_on (taken_by c.args.outcome c.args.asked c.args.self.now.side.now) (IsRefusedBy c.args.outcome c.args.asked) _ _ _ _ _ _ _ takes more no_more (λ m f led. c.leave_turn.ensures.stands m f (c.forget_if.ensures.stands m f led)) c.go_on.ensures.stands may has from
    (shown_by may shows from (c.note_refusal.ensures.stands may from (c.note_reply.ensures.stands may from (c.hear.ensures.stands may from before))))

pub returns-clause-anew : goal.returns-clause-anew
returns-clause-anew c =
    let left : HasNoMore c.take-foreign.new.self.held c.go_on.new.self.held = λ first within. subst (λ s. HasNoMore s c.go_on.new.self.held) c.leave_turn.ensures.held c.go_on.ensures.held first (c.forget_if.ensures.held first within) in
    let anew = writes_anew c.note_refusal.new.self.cycle.core.value.site.wants c.args.asked c.args.outcome _ c.note_refusal.new.self c.compare.new.self c.take-foreign.new.self.held c.go_on.new.self.held c.compare.ensures.compared c.take-foreign.ensures.held left in
    let of_site = subst (λ (x : Cycle). WritesAnew (IsShownBy x.core.value.site.wants c.args.self.now.held c.args.asked c.args.outcome) c.note_refusal.new.self.side c.go_on.new.self.held) (c.note_refusal.ensures.cycle ∙ c.note_reply.ensures.cycle)
    (subst (λ (h : HeldWrites). WritesAnew (IsShownBy c.note_refusal.new.self.cycle.core.value.site.wants h c.args.asked c.args.outcome) c.note_refusal.new.self.side c.go_on.new.self.held) (c.note_refusal.ensures.held ∙ c.note_reply.ensures.held) anew) in
    anew_since (IsShownBy c.args.self.now.cycle.core.value.site.wants c.args.self.now.held c.args.asked c.args.outcome) c.args.self.now.side c.note_refusal.new.self.side c.go_on.new.self.held (goes_compare c.args.self.now.side c.note_refusal.new.self.side (λ may from before. c.note_refusal.ensures.stands may from (c.note_reply.ensures.stands may from (c.hear.ensures.stands may from before)))) of_site

pub returns-clause-says : goal.returns-clause-says
returns-clause-says c =
    let compared : HasNoMore c.args.self.now.held c.compare.new.self.held = subst (λ s. HasNoMore s c.compare.new.self.held) (c.note_refusal.ensures.held ∙ c.note_reply.ensures.held) c.compare.ensures.held in
    let more = says_since (IsSaidBy c.args.outcome c.args.asked) c.args.self.now.held c.compare.new.self.held c.take-foreign.new.self.held compared c.take-foreign.ensures.says in
    says_then (IsSaidBy c.args.outcome c.args.asked) c.args.self.now.held c.take-foreign.new.self.held c.go_on.new.self.held more (λ first within. subst (λ s. HasNoMore s c.go_on.new.self.held) c.leave_turn.ensures.held c.go_on.ensures.held first (c.forget_if.ensures.held first within))

pub returns-clause-differing : goal.returns-clause-differing
returns-clause-differing c =
    let noted = c.note_refusal.new.self in
    let end = c.go_on.new.self.side in
    let left = c.leave_turn.new.self.held in
    let then_none : HasNoMore c.take-foreign.new.self.held left = subst (λ s. HasNoMore c.take-foreign.new.self.held s) (sym c.leave_turn.ensures.held) c.forget_if.ensures.held in
    let anew = writes_anew noted.cycle.core.value.site.wants c.args.asked c.args.outcome _ noted c.compare.new.self c.take-foreign.new.self.held left c.compare.ensures.compared c.take-foreign.ensures.held then_none in
    let told = tells_others noted.cycle.core.value.site.wants c.args.asked c.args.outcome _ noted c.compare.new.self c.take-foreign.new.self.side c.forget_if.new.self.side c.leave_turn.new.self.side end left c.compare.ensures.compared
    c.take-foreign.ensures.stands c.forget_if.ensures.stands c.leave_turn.ensures.stands anew c.go_on.ensures.stands in
    let of_site = subst (λ (x : Cycle). TellsOthers (IsShownBy x.core.value.site.wants c.args.self.now.held c.args.asked c.args.outcome) noted.side end) (c.note_refusal.ensures.cycle ∙ c.note_reply.ensures.cycle)
    (subst (λ (h : HeldWrites). TellsOthers (IsShownBy noted.cycle.core.value.site.wants h c.args.asked c.args.outcome) noted.side end) (c.note_refusal.ensures.held ∙ c.note_reply.ensures.held) told) in
    others_since (IsShownBy c.args.self.now.cycle.core.value.site.wants c.args.self.now.held c.args.asked c.args.outcome) c.args.self.now.side noted.side end
    (goes_compare c.args.self.now.side noted.side (λ may from before. c.note_refusal.ensures.stands may from (c.note_reply.ensures.stands may from (c.hear.ensures.stands may from before)))) of_site

pub returns-clause-together : goal.returns-clause-together
returns-clause-together c =
    let now = c.compare.ensures.time.side.now ∙ (c.note_refusal.ensures.time.side.now ∙ (c.note_reply.ensures.time.side.now ∙ c.hear.ensures.time.now)) in
    let compared : HasNoMore c.args.self.now.held c.compare.new.self.held = subst (λ s. HasNoMore s c.compare.new.self.held) (c.note_refusal.ensures.held ∙ c.note_reply.ensures.held) c.compare.ensures.held in
    let more = had_since _ _ _ _ compared (had_from c.args.outcome c.args.asked _ _ _ _ _ now refl c.take-foreign.ensures.held) in
    let left = had_then _ _ _ _ more (subst (λ s. HasNoMore c.take-foreign.new.self.held s) (sym c.leave_turn.ensures.held) c.forget_if.ensures.held) in
    let lines = c.leave_turn.ensures.lines ∙ (c.forget_if.ensures.same ∙ (c.take-foreign.ensures.same ∙ (c.compare.ensures.lines ∙ (c.note_refusal.ensures.lines ∙ c.note_reply.ensures.lines)))) in
    taken_then (taken_by c.args.outcome c.args.asked c.args.self.now.side.now) c.args.self.now c.leave_turn.new.self c.go_on.new.self left lines c.go_on.ensures.together
