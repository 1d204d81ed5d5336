use Rattle.std.proofs.Common.{refl}
use Rattle.service.proofs.Having.{found_no_more}
use Rattle.service.proofs.held_writes.HeldWrites.find_if.Goals as goal

pub returns-clause-no_more : goal.returns-clause-no_more
returns-clause-no_more c = found_no_more c.args.is_found c.args.device c.args.self.now (record { writes = c.args.self.now.writes; companions = c.args.self.now.companions; identities = c.find_if.new.self }) refl refl c.find_if.ensures.wanted c.find_if.ensures.last c.find_if.ensures.found
