use Rattle.std.proofs.Common.{refl, arith}
use Rattle.std.proofs.lemmas.Int.{ints}
use Rattle.machine_tests.proofs.worked.tags.limit.Goals as goal

pub invariant_of-result : goal.invariant_of-result
invariant_of-result c = record { ranged = refl; scaled = (omega (arith, ints), omega (arith, ints)); numeric = λ e. cc; meant = λ e. cc; writes = refl }
