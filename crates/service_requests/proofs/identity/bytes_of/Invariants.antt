use Rattle.std.proofs.Common.{◌≡◌, ◌*◌, length, take}
use Rattle.modbus_frame.specs.Bytes.{word_bytes}
use Rattle.service_requests.proofs.identity.bytes_of.Given as goal

abbrev pub invariant-loop-word : goal.invariant-loop-word
invariant-loop-word l = (l.bytes.items ≡ word_bytes (take l.word-index l.words)) × (length l.bytes.items ≡ 2 * l.word-index)
