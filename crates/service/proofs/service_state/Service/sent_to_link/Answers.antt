use Rattle.service.proofs.Carried.{goes_from}
use Rattle.service.proofs.Together.{sent_together}
use Rattle.service.proofs.service_state.Service.sent_to_link.Goals as goal

pub returns-then-is_free-clause-sends : goal.returns-then-is_free-clause-sends
returns-then-is_free-clause-sends c line at = goes_from _ c.args.link c.args.self.now c.go_on.new.self c.sent.new.self.lines.items (c.sent.ensures.sends line at) (c.go_on.ensures.lines c.args.link)

pub returns-else-is_free-clause-sends : goal.returns-else-is_free-clause-sends
returns-else-is_free-clause-sends c line at = goes_from _ c.args.link c.args.self.now _ c.sent.new.self.lines.items (c.sent.ensures.sends line at) (λ most from led. led)

pub returns-then-is_free-clause-together : goal.returns-then-is_free-clause-together
returns-then-is_free-clause-together c = λ held first within before. c.go_on.ensures.together held first within
    (sent_together held first c.args.self.now.lines c.sent.new.self c.args.link c.args.n c.sent.ensures.links c.sent.ensures.others c.sent.ensures.sends before)

pub returns-else-is_free-clause-together : goal.returns-else-is_free-clause-together
returns-else-is_free-clause-together c = λ held first within before. sent_together held first c.args.self.now.lines c.sent.new.self c.args.link c.args.n c.sent.ensures.links c.sent.ensures.others c.sent.ensures.sends before
