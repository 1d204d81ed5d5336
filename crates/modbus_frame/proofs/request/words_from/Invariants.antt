use Rattle.std.proofs.Common.{◌≡◌, ◌+◌, ◌*◌, ◌≤◌, ◌++◌, length}
use Rattle.modbus_frame.specs.Bytes.{words_of}
use Rattle.modbus_frame.proofs.request.words_from.Given as goal

abbrev pub invariant-loop-rest : goal.invariant-loop-rest
invariant-loop-rest l = (l.words ++ words_of l.rest ≡ words_of l.bytes) × (2 * length l.words + length l.rest ≤ 250)

abbrev pub decreases-loop-rest : goal.decreases-loop-rest
decreases-loop-rest l = length l.rest
