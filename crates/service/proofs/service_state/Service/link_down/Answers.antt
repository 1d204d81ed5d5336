use Rattle.std.proofs.Common.{ap, max, subst}
use Rattle.service_parts.specs.Frames.{GoesDown}
use Rattle.service.specs.declared.device_side.DeviceSide.{DeviceSide}
use Rattle.service.proofs.Carried.{goes_from}
use Rattle.service.proofs.Going.{goes_then}
use Rattle.service_parts.specs.declared.stations.Stations.{Stations}
use Rattle.service.specs.declared.notice.Loss.TheVariants as loss
use Rattle.service.specs.Losing.{AreLost}
use Rattle.service.proofs.Together.{cut_together}
use Rattle.std.specs.Prelude.{slice_get}
use Rattle.service.proofs.service_state.Service.link_down.Goals as goal

pub returns-clause-ends : goal.returns-clause-ends
returns-clause-ends c line at =
    let (cut, there, is) = c.go_down.ensures.ends line at in
    let at_time = subst (λ (x : DeviceSide). GoesDown x.now x.limits line cut) c.turn_to.ensures.now is in
    goes_from (GoesDown (max c.args.self.now.side.now c.args.now) c.args.self.now.side.limits line) c.args.link c.args.self.now c.go_on.new.self c.go_down.new.self.lines.items (cut, there, at_time)
    (λ most from led.
    c.go_on.ensures.lines c.args.link most from (goes_then c.lose_unless.new.self.side c.go_on.new.self.side c.go_on.ensures.rest.time.side.now c.go_on.ensures.rest.time.side.limits c.args.link _ _ _ _ (c.lose_unless.ensures.lines c.args.link) most from led))

pub returns-clause-held : goal.returns-clause-held
returns-clause-held c = λ first within. c.go_on.ensures.held first (c.lose_unless.ensures.held first within)

pub returns-clause-stands : goal.returns-clause-stands
returns-clause-stands c = λ first within may lost has from before.
    c.go_on.ensures.stands first (c.lose_unless.ensures.held first within) may has from
    (c.lose_unless.ensures.stands may (λ device why is. lost device why (subst (λ (s : Stations). AreLost s.stations.items c.args.link loss.Down device why) c.go_down.ensures.links is)) from (c.turn_to.ensures.stands may from before))

pub returns-clause-together : goal.returns-clause-together
returns-clause-together c = λ held first within before.
    c.go_on.ensures.together held first (c.lose_unless.ensures.held held within) (c.lose_unless.ensures.together held first within
    (cut_together held first c.args.self.now.lines c.go_down.new.self c.args.link (λ other away. ap (λ (l : Stations). slice_get l.numbers.items other) c.go_down.ensures.links) c.go_down.ensures.others
    (λ line there. let (cut, is, down) = c.go_down.ensures.ends line there in (cut, is, down.cut.none)) before))
