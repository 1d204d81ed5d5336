use Rattle.std.proofs.Common.{◌≡◌, drop, length}
use Rattle.il_assemble.specs.Elaboration.{inner_parts, reached}
use Rattle.il_assemble.specs.Kept.{seen}
use Rattle.il_assemble.specs.Written.{written_inner}
use Rattle.il_assemble.proofs.passing.+write_parts.Given as goal

abbrev pub invariant-write_inner-loop-line : goal.invariant-write_inner-loop-line
invariant-write_inner-loop-line l = record {
  behind : l.rest ≡ drop l.line-index l.inner;
  same : reached (length l.code.items) (inner_parts (seen l.scope) l.before l.unless_next (written_inner (drop l.line-index l.inner)))
      ≡ reached (length l.initial.code.items) (inner_parts (seen l.scope) l.fn.running l.fn.otherwise (written_inner l.inner));
}
