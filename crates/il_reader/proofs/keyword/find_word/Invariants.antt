use Rattle.std.proofs.Common.{◌≡◌, length, map}
use Rattle.il_reader.specs.Tokens.{look_up}
use Rattle.il_reader.proofs.keyword.find_word.Given as goal

abbrev pub invariant-loop-rest : goal.invariant-loop-rest
invariant-loop-rest l = look_up l.word (map (λ e. (e.0.now, e.1)) l.words) ≡ look_up l.word (map (λ e. (e.0.now, e.1)) l.rest)

abbrev pub decreases-loop-rest : goal.decreases-loop-rest
decreases-loop-rest l = length l.rest
