use Rattle.std.proofs.Common.{◌≡◌, drop}
use Rattle.service_edges.specs.Answers.{word_end_from}
use Rattle.service_edges.proofs.answer.word_end.Given as goal

-- the first blank of the rest is the first one
abbrev pub invariant-loop-number : goal.invariant-loop-number
invariant-loop-number l = word_end_from 0 l.answer ≡ word_end_from l.number (drop l.number l.answer)
