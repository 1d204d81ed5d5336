use Rattle.std.proofs.Common.{◌≡◌, ◌++◌, ◌≤◌, length, None}
use Rattle.il_assemble.specs.Elaboration.{measured}
use Rattle.il_assemble.specs.Limit.{most_counted, most_code}
use Rattle.il_assemble.specs.Kept.{addresses_of, seen}
use Rattle.il_assemble.proofs.measure.measure.Given as goal

abbrev pub invariant-loop-rest : goal.invariant-loop-rest
invariant-loop-rest l = record {
  fits : length l.code.items ≤ most_code;
  few : l.counter ≤ most_counted;
  short : measured (seen l.scope) l.end_line (length l.code.items) l.counter l.running l.rest ≡ measured (seen l.scope) l.end_line 0 0 None l.statements;
  found : l.addresses.items ++ addresses_of (seen l.scope) (length l.code.items) l.counter l.running l.rest ≡ addresses_of (seen l.scope) 0 0 None l.statements;
}

abbrev pub decreases-loop-rest : goal.decreases-loop-rest
decreases-loop-rest l = length l.rest
