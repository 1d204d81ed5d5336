use Rattle.std.proofs.Common.{◌≡◌}
use Rattle.service_parts.specs.Frames.{LinesGo}
use Rattle.service_parts.specs.Requests.{StayRightful}
use Rattle.service_parts.proofs.connections.Connections.stir_all.Given as goal

abbrev pub invariant-loop-link : goal.invariant-loop-link
invariant-loop-link l = (StayRightful l.fn.self l.self) × (l.self.links ≡ l.fn.self.links) × (l.self.found_on ≡ l.fn.self.found_on) × (LinesGo l.fn.self.lines.items l.self.lines.items)
