use Rattle.std.proofs.Common.{rules, ◌<◌, List, inl, refl, ap, subst, ◌∙◌}
use Rattle.service_parts.specs.declared.limits.Station.{Station}
use Rattle.service_parts.specs.declared.stations.Stations.{Stations}
use Rattle.service.specs.Losing.{AreLost}
use Rattle.service.proofs.Counted.{one_more_lost}
use Rattle.service.proofs.Losing.{below_other}
use Rattle.service.proofs.service_state.Service.lose_all.Goals as goal

pub loop-device-init : goal.loop-device-init
loop-device-init c = (search rules, search rules, search rules, search rules, search rules, search rules, (λ k. inl refl), (λ k from. refl), (λ held first within before. before))

pub loop-device-preserved : goal.loop-device-preserved
loop-device-preserved c =
    let so_far = c.loop-device.invariant in (
      search rules,
      (λ may has from before. c.lose_if_at.ensures.stands may
          (λ device why is. has device why (subst (λ (s : List Station). AreLost s c.args.link c.args.loss device why) (ap (λ (l : Stations). l.stations.items) so_far.0.links) is))
          from (so_far.1 may has from before)),
      search rules,
      search rules,
      search rules,
      (λ first within. c.lose_if_at.ensures.held first (so_far.5 first within)),
      one_more_lost c.args.loss c.loop-device.device c.args.self.now.side c.loop-device.self.side c.lose_if_at.new.self.side so_far.6 so_far.7 c.lose_if_at.ensures.counts c.lose_if_at.ensures.others,
      (λ k after. let below : c.loop-device.device < k = search rules in c.lose_if_at.ensures.others k (below_other k c.loop-device.device below) ∙ so_far.7 k (search rules)),
      (λ held first within before. c.lose_if_at.ensures.together held first (so_far.5 held within) (so_far.8 held first within before)),
    )
