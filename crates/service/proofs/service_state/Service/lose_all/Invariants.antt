use Rattle.std.proofs.Common.{◌≡◌}
use Rattle.service.specs.Going.{LinksGo}
use Rattle.service.specs.Counting.{CountsOneLossAtMost}
use Rattle.service.proofs.Counted.{StaysFrom}
use Rattle.service.specs.Cycle.{LeadsOn}
use Rattle.service.specs.Having.{HasNoMore}
use Rattle.service.specs.Losing.{AreLost}
use Rattle.service.specs.Told.{LosesBy}
use Rattle.service.specs.Staying.{Stays}
use Rattle.service.specs.Together.{GoTogether}
use Rattle.service.proofs.service_state.Service.lose_all.Given as goal

abbrev pub invariant-loop-device : goal.invariant-loop-device
invariant-loop-device l = Stays l.fn.self l.self × (LosesBy (AreLost l.fn.self.lines.links.stations.items l.fn.link l.fn.loss) l.fn.self.side l.self.side) × (l.self.lines ≡ l.fn.self.lines) × LinksGo l.fn.self l.self × LeadsOn l.fn.self.cycle l.self.cycle × HasNoMore l.fn.self.held l.self.held × CountsOneLossAtMost l.fn.loss l.fn.self.side l.self.side × StaysFrom l.device l.fn.self.side l.self.side × GoTogether l.fn.self l.self
