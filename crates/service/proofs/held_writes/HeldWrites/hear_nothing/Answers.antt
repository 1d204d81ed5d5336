use Rattle.std.proofs.Common.{refl}
use Rattle.service.proofs.Having.{said_no_more}
use Rattle.service.proofs.held_writes.HeldWrites.hear_nothing.Goals as goal

pub returns-clause-no_more : goal.returns-clause-no_more
returns-clause-no_more c = said_no_more c.args.device c.args.self.now (record { writes = c.args.self.now.writes; companions = c.args.self.now.companions; identities = c.hear.new.self }) refl refl c.hear.ensures.wanted c.hear.ensures.found c.hear.ensures.last
