use Rattle.std.proofs.Common.{◌↔◌, drop}
use Rattle.service_texts.specs.Writers.{SomeAdmits}
use Rattle.service_texts.proofs.writers.is_among.Given as goal

-- some of all admits it exactly where some of the rest does
abbrev pub invariant-loop-writer : goal.invariant-loop-writer
invariant-loop-writer l = SomeAdmits (drop l.writer-index l.writers) l.address ↔ SomeAdmits l.writers l.address
