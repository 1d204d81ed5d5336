use Rattle.il_assemble.specs.Kept.{seen}
use Rattle.il_assemble.proofs.Elaborating.{few_counted}
use Rattle.il_assemble.proofs.assembler.code_of.Goals as goal

pub emit_lines-requires : goal.emit_lines-requires
emit_lines-requires c = few_counted (seen c.args.scope) c.args.end_line c.args.scope.statements.now c.in_ok-addresses.ensures.short
