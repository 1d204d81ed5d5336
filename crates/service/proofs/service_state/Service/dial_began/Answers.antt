use Rattle.service.proofs.Together.{all_together}
use Rattle.service.proofs.service_state.Service.dial_began.Goals as goal

pub returns-clause-together : goal.returns-clause-together
returns-clause-together c = λ held first within before. all_together held first c.args.self.now.lines c.dial.new.self c.dial.ensures.links c.dial.ensures.lines before
