use Rattle.std.proofs.Common.{◌≡◌, ◌+◌, length, None}
use Rattle.il_assemble.specs.Kept.{seen}
use Rattle.il_assemble.specs.StaticFault.{checked_lines}
use Rattle.il_assemble.proofs.check.check_lines.Given as goal

abbrev pub invariant-loop-rest : goal.invariant-loop-rest
invariant-loop-rest l =
    (checked_lines (seen l.scope) l.place l.running l.rest ≡ checked_lines (seen l.scope) 0 None l.statements)
    × (l.place + length l.rest ≡ length l.statements)

abbrev pub decreases-loop-rest : goal.decreases-loop-rest
decreases-loop-rest l = length l.rest
