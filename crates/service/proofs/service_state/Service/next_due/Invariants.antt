use Rattle.std.proofs.Common.{◌≡◌}
use Rattle.service.specs.Going.{LinksGo}
use Rattle.service.specs.Cycle.{LeadsOn, stage_of}
use Rattle.service.specs.Having.{HasNoMore, WritesHad}
use Rattle.service.specs.LeftOut.{LeavesOut, left_by}
use Rattle.service.specs.Staying.{Stays}
use Rattle.service.specs.Together.{GoTogether}
use Rattle.service.proofs.service_state.Service.next_due.Given as goal

abbrev pub invariant-loop : goal.invariant-loop
invariant-loop l =
    (l.self.lines ≡ l.initial.self.lines)
    × (l.self.held ≡ l.initial.self.held)
    × Stays l.initial.self l.self
    × WritesHad l.initial.self.held l.initial.self.side l.self.side
    × LeavesOut l.fn.device (left_by l.initial.self.held l.fn.device l.fn.number l.initial.self.side.now) (stage_of l.initial.self.cycle) (stage_of l.self.cycle)
    × LinksGo l.initial.self l.self
    × LeadsOn l.initial.self.cycle l.self.cycle
    × HasNoMore l.initial.self.held l.self.held
    × GoTogether l.initial.self l.self
