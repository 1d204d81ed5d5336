-- The next of a list of reads is one.
use Rattle.register_map.specs.Reads.{TakesNext}
use Rattle.register_map.specs.Search.{all_registers}
use Rattle.register_map.proofs.Once.{search-once, next-once}
use Rattle.register_map.proofs.laws.reads_have_one_result.Goals as goal

pub returns : goal.returns
returns c bases reads r q x y = (search-once TakesNext next-once all_registers reads bases _ _ r q x y).0
