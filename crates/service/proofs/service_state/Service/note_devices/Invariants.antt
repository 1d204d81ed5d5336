use Rattle.service.specs.Going.{LinksGo}
use Rattle.service.specs.Cycle.{LeadsOn}
use Rattle.service.specs.Having.{HasNoMore}
use Rattle.service.specs.Told.{Goes}
use Rattle.service.specs.Staying.{Stays}
use Rattle.service.specs.Together.{GoTogether}
use Rattle.service.proofs.service_state.Service.note_devices.Given as goal

abbrev pub invariant-loop-device : goal.invariant-loop-device
invariant-loop-device l = Stays l.fn.self l.self × (Goes l.fn.self.side l.self.side) × LinksGo l.fn.self l.self × LeadsOn l.fn.self.cycle l.self.cycle × HasNoMore l.fn.self.held l.self.held × GoTogether l.fn.self l.self
