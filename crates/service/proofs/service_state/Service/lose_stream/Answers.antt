use Rattle.std.proofs.Common.{subst}
use Rattle.service_parts.specs.declared.stations.Stations.{Stations}
use Rattle.service.specs.declared.notice.Loss.TheVariants as loss
use Rattle.service.specs.Losing.{AreLost}
use Rattle.service.proofs.Together.{all_together}
use Rattle.service.proofs.service_state.Service.lose_stream.Goals as goal

pub returns-clause-held : goal.returns-clause-held
returns-clause-held c = λ first within. c.go_on.ensures.held first (c.lose_all.ensures.held first within)

pub returns-clause-stands : goal.returns-clause-stands
returns-clause-stands c = λ first within may lost has from before.
    c.go_on.ensures.stands first (c.lose_all.ensures.held first within) may has from
    (c.lose_all.ensures.stands may (λ device why is. lost device why (subst (λ (s : Stations). AreLost s.stations.items c.args.link loss.Frame device why) c.spoil.ensures.links is)) from (c.lose_write.ensures.stands may from before))

pub returns-clause-together : goal.returns-clause-together
returns-clause-together c = λ held first within before. c.go_on.ensures.together held first (c.lose_all.ensures.held held within) (c.lose_all.ensures.together held first within (all_together held first c.args.self.now.lines c.spoil.new.self c.spoil.ensures.links c.spoil.ensures.lines before))
