use Rattle.std.proofs.Common.{◌≡◌, ◌+◌, drop, length}
use Rattle.inverter_sim.specs.Image.{stored}
use Rattle.inverter_sim.proofs.reader.image.store.Given as goal

abbrev pub invariant-loop-word : goal.invariant-loop-word
invariant-loop-word l =
    (stored l.initial.at l.words l.initial.registers.items ≡ stored l.at (drop l.word-index l.words) l.registers.items)
    × (length l.registers.items ≡ length l.initial.registers.items)
    × (l.at ≡ l.initial.at + l.word-index)
