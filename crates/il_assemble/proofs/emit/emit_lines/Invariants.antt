use Rattle.std.proofs.Common.{◌≡◌, ◌+◌, ◌≤◌, length, None}
use Rattle.il_assemble.specs.Elaboration.{limits_of}
use Rattle.il_assemble.specs.Limit.{most_counted}
use Rattle.il_assemble.specs.Kept.{address_in, seen}
use Rattle.il_assemble.proofs.Writing.{after_lines}
use Rattle.il_assemble.proofs.emit.emit_lines.Given as goal

abbrev pub invariant-loop-rest : goal.invariant-loop-rest
invariant-loop-rest l = record {
  few : l.counter + length (limits_of l.rest) ≤ most_counted;
  same : after_lines l.code.items (address_in l.addresses) (seen l.scope) l.counter l.running l.rest
      ≡ after_lines l.initial.code.items (address_in l.addresses) (seen l.scope) 0 None l.statements;
}

abbrev pub decreases-loop-rest : goal.decreases-loop-rest
decreases-loop-rest l = length l.rest
