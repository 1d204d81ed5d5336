use Rattle.std.proofs.Common.{append_assoc}
use Rattle.commands.proofs.report.unassembled.Goals as goal

pub returns : goal.returns
returns c = record { ok = simp append_assoc c.in_ok-text.ensures.ok }
