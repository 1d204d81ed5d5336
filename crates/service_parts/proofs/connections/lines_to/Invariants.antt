use Rattle.std.proofs.Common.{All}
use Rattle.service_parts.specs.Frames.{IsCut}
use Rattle.service_parts.proofs.connections.lines_to.Given as goal

abbrev pub invariant-loop-link : goal.invariant-loop-link
invariant-loop-link l = All IsCut l.lines.items
