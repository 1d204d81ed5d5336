use Rattle.std.proofs.Common.{◌≡◌, ◌++◌, ◌+◌, [], length}
use Rattle.program_notes.specs.Rows.{rows_from}
use Rattle.program_notes.proofs.rows.push_unjudged.Given as goal

abbrev pub invariant-loop-rest : goal.invariant-loop-rest
invariant-loop-rest l = record {
  made : l.rows ++ rows_from l.lines l.number l.rest [] ≡ l.fn.rows ++ rows_from l.lines l.first l.listing [];
  counted : l.number + length l.rest ≡ l.first + length l.listing;
}

abbrev pub decreases-loop-rest : goal.decreases-loop-rest
decreases-loop-rest l = length l.rest
