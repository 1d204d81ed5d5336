use Rattle.std.proofs.Common.{List, ◌++◌, drop}
use Rattle.service_texts.specs.declared.writers.Writer.{Writer}
use Rattle.service_texts.specs.Writers.{AreNamed}
use Rattle.service_texts.proofs.writers.writers_named.Given as goal

-- whatever the rest of the words name, all name what is named so far, and then that
abbrev pub invariant-loop-word : goal.invariant-loop-word
invariant-loop-word l = (more : List Writer) → AreNamed (drop l.word-index l.words) more → AreNamed l.words (l.writers ++ more)
