use Rattle.std.proofs.Common.{w64}
use Rattle.std.proofs.lemmas.Int.{to_z-of_z}
use Rattle.il_reader.proofs.TypingLemmas.{typing_is}
use Rattle.il_reader.proofs.typing.Typing.new.Goals as goal

pub returns-then-high : goal.returns-then-high
returns-then-high c =
    typing_is c.args.kind _ _ _ _ c.args.low c.args.high c.args.start (to_z-of_z w64 _ c.ranges.low) (to_z-of_z w64 _ c.ranges.high) (to_z-of_z w64 _ c.ranges.start)
