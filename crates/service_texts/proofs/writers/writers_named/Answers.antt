use Rattle.std.proofs.Common.{arith}
use Rattle.service_texts.proofs.Named.{named_all}
use Rattle.service_texts.proofs.writers.writers_named.Goals as goal

-- src/writers.rt:54:1
pub returns-clause-named : goal.returns-clause-named
returns-clause-named c = named_all c.args.words.now c.loop-word.word-index c.loop-word.writers c.loop-word.invariant (omega (arith, c.loop-word-test.false))
