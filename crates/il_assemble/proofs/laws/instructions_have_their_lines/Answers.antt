use Rattle.il_assemble.proofs.TabledLines.{instructions_have_their_lines}
use Rattle.il_assemble.proofs.laws.instructions_have_their_lines.Goals as goal

pub returns : goal.returns
returns c = instructions_have_their_lines
