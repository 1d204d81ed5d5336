use Rattle.std.proofs.Common.{◌≡◌, ◌++◌, drop}
use Rattle.commands.specs.Probe.{point_lines}
use Rattle.commands.proofs.unit_points.push_present.Given as goal

abbrev pub invariant-loop-point : goal.invariant-loop-point
invariant-loop-point l = l.initial.lines.items ++ point_lines l.point-items l.words ≡ l.lines.items ++ point_lines (drop l.point-index l.point-items) l.words
