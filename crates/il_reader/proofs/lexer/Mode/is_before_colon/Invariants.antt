use Rattle.std.proofs.Common.{◌≡◌, length}
use Rattle.il_reader.specs.Tokens.{colon_comes}
use Rattle.il_reader.proofs.lexer.Mode.is_before_colon.Given as goal

abbrev pub invariant-loop-rest : goal.invariant-loop-rest
invariant-loop-rest l = colon_comes l.fn.self l.bytes ≡ colon_comes l.mode l.rest

abbrev pub decreases-loop-rest : goal.decreases-loop-rest
decreases-loop-rest l = length l.rest
