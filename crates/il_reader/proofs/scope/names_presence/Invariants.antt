use Rattle.std.proofs.Common.{◌≡◌, length}
use Rattle.il_reader.specs.Declaration.{is_presence}
use Rattle.il_reader.proofs.scope.names_presence.Given as goal

abbrev pub invariant-loop-rest : goal.invariant-loop-rest
invariant-loop-rest l = is_presence l.fn.presence l.fn.name ≡ is_presence l.presence l.rest

abbrev pub decreases-loop-rest : goal.decreases-loop-rest
decreases-loop-rest l = length l.rest
