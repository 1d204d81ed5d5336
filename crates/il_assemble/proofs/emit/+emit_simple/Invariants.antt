use Rattle.std.proofs.Common.{◌≡◌, drop}
use Rattle.il_assemble.specs.Kept.{seen}
use Rattle.il_assemble.specs.Written.{written_inner}
use Rattle.il_assemble.proofs.Writing.{after_inner}
use Rattle.il_assemble.proofs.emit.+emit_simple.Given as goal

abbrev pub invariant-emit_inner-loop-line : goal.invariant-emit_inner-loop-line
invariant-emit_inner-loop-line l = record {
  behind : l.rest ≡ drop l.line-index l.inner;
  same : after_inner l.code.items (seen l.scope) l.before l.unless_next (written_inner (drop l.line-index l.inner))
      ≡ after_inner l.initial.code.items (seen l.scope) l.fn.running l.fn.otherwise (written_inner l.inner);
}
