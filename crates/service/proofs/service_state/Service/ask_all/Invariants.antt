use Rattle.service.specs.Going.{LinksGo}
use Rattle.service.specs.Cycle.{LeadsOn}
use Rattle.service.specs.Having.{HasNoMore, WritesHad}
use Rattle.service.specs.Staying.{Stays}
use Rattle.service.specs.Together.{GoTogether}
use Rattle.service.proofs.service_state.Service.ask_all.Given as goal

abbrev pub invariant-loop-link : goal.invariant-loop-link
invariant-loop-link l = Stays l.fn.self l.self × (WritesHad l.fn.self.held l.fn.self.side l.self.side) × LinksGo l.fn.self l.self × LeadsOn l.fn.self.cycle l.self.cycle × HasNoMore l.fn.self.held l.self.held × GoTogether l.fn.self l.self
