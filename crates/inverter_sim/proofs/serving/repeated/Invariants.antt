use Rattle.std.proofs.Common.{◌≡◌, ◌+◌, ◌*◌, ◌≤◌, ◌++◌, map, length}
use Rattle.modbus_frame.specs.Bytes.{words_of}
use Rattle.inverter_sim.proofs.serving.repeated.Given as goal

abbrev pub invariant-loop-rest : goal.invariant-loop-rest
invariant-loop-rest l = (map (λ _. l.word) (words_of l.values) ≡ l.words ++ map (λ _. l.word) (words_of l.rest)) × (2 * length l.words + length l.rest ≤ 251)

abbrev pub decreases-loop-rest : goal.decreases-loop-rest
decreases-loop-rest l = length l.rest
