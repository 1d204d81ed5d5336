-- Whatever the search from the next base on gives, the whole search gives; and no read so far was a fault.
use Rattle.std.proofs.Common.{drop, Result, false}
use Rattle.register_map.specs.declared.layout.MapFault.{MapFault}
use Rattle.register_map.specs.Layout.{Layout}
use Rattle.register_map.specs.Reads.{Counts}
use Rattle.register_map.specs.Search.{IsSearch}
use Rattle.register_map.proofs.discovery.search.Given as goal

abbrev pub invariant-loop-base : goal.invariant-loop-base
invariant-loop-base g l =
    ((t : _) (result : Result Layout MapFault) →
    IsSearch g.R.Registers.reads l.limit l.registers (drop l.base-index l.bases) t result →
    IsSearch g.R.Registers.reads l.limit l.initial.registers l.bases t result)
    × Counts (g.R.Registers.faults l.initial.registers) (g.R.Registers.faults l.registers) false
