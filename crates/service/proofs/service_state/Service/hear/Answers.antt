use Rattle.std.proofs.Common.{None, Some, ap, subst, sym, ◌∙◌}
use Rattle.std.specs.Prelude.{option_and_then}
use Rattle.service_parts.specs.declared.device_connection.DeviceConnection.{DeviceConnection}
use Rattle.service_parts.specs.declared.stations.Stations.{Stations}
use Rattle.service.specs.Having.{HasMoreBy, HasOrTook, IsHeardBy, IsRefusedIf, taken_if}
use Rattle.service.specs.Losing.{LostByHearing}
use Rattle.service.specs.ReadBack.{IsShownIf}
use Rattle.service.specs.Together.{AllGoWith}
use Rattle.service.specs.Told.{TellsAllBy}
use Rattle.service.proofs.Compared.{shown_of_none}
use Rattle.service.proofs.Carried.{asked_own, heard_nothing, heard_so}
use Rattle.service.proofs.Having.{told_within, unasked, unless_asked}
use Rattle.service.proofs.Together.{heard_none, heard_then, own_together, taken_together}
use Rattle.service.proofs.service_state.Service.hear.Goals as goal

pub returns-in-Some-clause-hears : goal.returns-in-Some-clause-hears
returns-in-Some-clause-hears c line at =
    let now = c.settle.ensures.rest.time.side.now in
    let tells = subst (λ t. TellsAllBy (LostByHearing c.args.self.now.lines.links.stations.items c.args.link c.take-used.result.asked (Some c.in-Some.fate)) (IsHeardBy (taken_if c.take-used.result.asked (Some c.in-Some.fate) t) (IsRefusedIf c.take-used.result.asked (Some c.in-Some.fate)) c.args.self.now.held) (IsShownIf c.args.self.now.cycle.core.value.site.wants c.args.self.now.held c.take-used.result.asked (Some c.in-Some.fate)) c.args.self.now.side c.settle.new.self.side) (sym now)
    (subst (λ (l : Stations). TellsAllBy (LostByHearing l.stations.items c.args.link c.take-used.result.asked (Some c.in-Some.fate)) (IsHeardBy (taken_if c.take-used.result.asked (Some c.in-Some.fate) c.args.self.now.side.now) (IsRefusedIf c.take-used.result.asked (Some c.in-Some.fate)) c.args.self.now.held) (IsShownIf c.args.self.now.cycle.core.value.site.wants c.args.self.now.held c.take-used.result.asked (Some c.in-Some.fate)) c.args.self.now.side c.settle.new.self.side) c.take-used.ensures.links c.settle.ensures.stands) in
    let has = subst (λ t. HasMoreBy (taken_if c.take-used.result.asked (Some c.in-Some.fate) t) c.args.self.now.held c.settle.new.self.held) (sym now) c.settle.ensures.held in
    let with_ = heard_then c.args.self.now.held.companions.items (HasOrTook (taken_if c.take-used.result.asked (Some c.in-Some.fate) c.args.self.now.side.now) c.args.self.now.held) c.args.link _ _ c.take-used.result.fate c.args.self.now.lines c.take-used.new.self c.settle.new.self.lines c.take-used.ensures.links c.take-used.ensures.others c.take-used.ensures.hears c.settle.ensures.rest.links c.settle.ensures.together in
    heard_so _ c.args.link line _ _ _ _ c.in-Some.fate _ _ _ _ _ _ _ c.take-used.new.self.lines.items _ _ _ c.in-Some.is (asked_own c.take-used.result.fate c.in-Some.fate _ _ c.in-Some.is c.take-used.ensures.ended ∙ ap (option_and_then (λ (l : DeviceConnection). l.asked)) at) (c.take-used.ensures.hears line at)
    (c.settle.ensures.lines c.args.link) c.settle.ensures.settles has c.settle.ensures.says tells c.settle.ensures.differing c.settle.ensures.anew (subst (λ t. AllGoWith c.args.self.now.held.companions.items (HasOrTook (taken_if c.take-used.result.asked (Some c.in-Some.fate) t) c.args.self.now.held) c.args.self.now.lines.lines.items c.settle.new.self.lines.links.numbers.items c.settle.new.self.lines.lines.items) (sym now) with_)

pub returns-in_default-clause-hears : goal.returns-in_default-clause-hears
returns-in_default-clause-hears c line at = heard_nothing _ c.args.link line _ _ _ _ c.args.self.now.cycle _ _ c.take-used.new.self.lines.items _ _ c.in_default.is (c.take-used.ensures.hears line at)
    (taken_together c.args.self.now.held.companions.items (HasOrTook (taken_if line.asked None c.args.self.now.side.now) c.args.self.now.held) c.args.self.now.lines.lines.items c.args.link _ _ c.take-used.result.fate c.args.self.now.lines c.take-used.new.self c.take-used.ensures.links c.take-used.ensures.others c.take-used.ensures.hears (own_together c.args.self.now.held.companions.items (HasOrTook (taken_if line.asked None c.args.self.now.side.now) c.args.self.now.held) c.args.self.now.lines.links.numbers.items c.args.self.now.lines.lines.items))

pub returns-in-Some-clause-stands : goal.returns-in-Some-clause-stands
returns-in-Some-clause-stands c none first within may has =
    c.settle.ensures.stands may (λ device why is. absurd (subst (λ a. LostByHearing c.take-used.new.self.links.stations.items c.args.link a (Some c.in-Some.fate) device why) (asked_own c.take-used.result.fate c.in-Some.fate _ _ c.in-Some.is c.take-used.ensures.ended ∙ ap (option_and_then (λ (l : DeviceConnection). l.asked)) none) is))
    (λ output became is. has output became (told_within first c.args.self.now.held within output became (unless_asked _ _ _ _ (asked_own c.take-used.result.fate c.in-Some.fate _ _ c.in-Some.is c.take-used.ensures.ended ∙ ap (option_and_then (λ (l : DeviceConnection). l.asked)) none) output became is)))
    (λ output this is. absurd (shown_of_none c.args.self.now.cycle.core.value.site.wants c.args.self.now.held c.take-used.result.asked (Some c.in-Some.fate) output this (asked_own c.take-used.result.fate c.in-Some.fate _ _ c.in-Some.is c.take-used.ensures.ended ∙ ap (option_and_then (λ (l : DeviceConnection). l.asked)) none) is))

pub returns-in-Some-clause-held : goal.returns-in-Some-clause-held
returns-in-Some-clause-held c none = unasked _ _ _ _ _ (asked_own c.take-used.result.fate c.in-Some.fate _ _ c.in-Some.is c.take-used.ensures.ended ∙ ap (option_and_then (λ (l : DeviceConnection). l.asked)) none) c.settle.ensures.held c.settle.ensures.says

pub returns-in-Some-clause-together : goal.returns-in-Some-clause-together
returns-in-Some-clause-together c none = heard_none c.args.link _ _ c.take-used.result.fate c.take-used.result.asked c.in-Some.fate c.args.self.now.side.now c.args.self.now c.take-used.new.self c.settle.new.self
    (asked_own c.take-used.result.fate c.in-Some.fate _ _ c.in-Some.is c.take-used.ensures.ended ∙ ap (option_and_then (λ (l : DeviceConnection). l.asked)) none) c.take-used.ensures.links c.take-used.ensures.others c.take-used.ensures.hears c.settle.ensures.rest.links c.settle.ensures.together

pub returns-in_default-clause-together : goal.returns-in_default-clause-together
returns-in_default-clause-together c none = λ held first within before. taken_together held.companions.items _ first c.args.link _ _ c.take-used.result.fate c.args.self.now.lines c.take-used.new.self c.take-used.ensures.links c.take-used.ensures.others c.take-used.ensures.hears before
