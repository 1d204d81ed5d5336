use Rattle.std.proofs.Common.{◌≡◌, ◌+◌, ◌*◌, ◌++◌, length, take}
use Rattle.modbus_frame.specs.Bytes.{word_bytes}
use Rattle.modbus_frame.proofs.request.with_words.Given as goal

abbrev pub invariant-loop-word : goal.invariant-loop-word
invariant-loop-word l = (l.bytes.items ≡ l.front ++ word_bytes (take l.word-index l.words)) × (length l.bytes.items ≡ length l.front + 2 * l.word-index)
