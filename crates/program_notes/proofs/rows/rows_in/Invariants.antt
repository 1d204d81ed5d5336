use Rattle.std.proofs.Common.{◌≡◌, ◌++◌, ◌+◌, length}
use Rattle.std.specs.Vec.Iter.{into_iter_items}
use Rattle.program_notes.specs.Rows.{rows_from}
use Rattle.program_notes.proofs.rows.rows_in.Given as goal

-- what is made, and then what remains
abbrev pub invariant-loop-standing : goal.invariant-loop-standing
invariant-loop-standing l = record {
  made : l.rows ++ rows_from l.lines l.number l.rest (into_iter_items l.standing-iterator) ≡ rows_from l.lines 0 l.listing l.fn.standings;
  counted : l.number + length l.rest ≡ length l.listing;
}
