use Rattle.std.proofs.Common.{◌≡◌, ◌+◌, ◌≤◌, length}
use Rattle.il_reader.specs.Reading.{fed, opening}
use Rattle.il_reader.proofs.reader.read_bytes.Given as goal

abbrev pub invariant-loop-rest : goal.invariant-loop-rest
invariant-loop-rest l = record { reads : fed opening l.text ≡ fed l.reader l.rest; few_lines : l.reader.line + length l.rest ≤ 1048577 }

abbrev pub decreases-loop-rest : goal.decreases-loop-rest
decreases-loop-rest l = length l.rest
