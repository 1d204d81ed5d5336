use Rattle.std.proofs.Common.{◌≡◌, ◌^◌, ◌<◌, take}
use Rattle.point_types.specs.Point.{number_of}
use Rattle.point_types.proofs.words.number_in.Given as goal

abbrev pub invariant-loop-word : goal.invariant-loop-word
invariant-loop-word l = (l.number ≡ number_of (take l.word-index l.words)) × (l.number < 65536 ^ l.word-index)
