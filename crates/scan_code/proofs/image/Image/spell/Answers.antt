use Rattle.std.proofs.Common.{subst}
use Rattle.scan_code.specs.Image.{IsProper}
use Rattle.scan_code.proofs.image.Image.spell.Goals as goal

pub returns-clause-proper : goal.returns-clause-proper
returns-clause-proper c = subst IsProper c.self.view_is c.self.invariant
