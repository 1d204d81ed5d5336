-- The blocks so far are the models from the start on, and no read of them was a fault.
use Rattle.std.proofs.Common.{◌≤◌, ◌-◌, length, false}
use Rattle.register_map.specs.declared.layout.TheConstants.{MOST_MODELS}
use Rattle.register_map.specs.Reads.{Counts}
use Rattle.register_map.specs.Chain.{AreModels}
use Rattle.register_map.proofs.discovery.models.Given as goal

abbrev pub invariant-loop-block : goal.invariant-loop-block
invariant-loop-block g l =
    AreModels g.R.Registers.reads l.limit l.initial.registers 0 l.start l.blocks.items l.next l.registers
    × Counts (g.R.Registers.faults l.initial.registers) (g.R.Registers.faults l.registers) false
    × (length l.blocks.items ≤ MOST_MODELS)

abbrev pub decreases-loop-block : goal.decreases-loop-block
decreases-loop-block g l = MOST_MODELS - length l.blocks.items
