use Rattle.std.proofs.Common.{w64, rules}
use Rattle.std.proofs.lemmas.Int.{to_z-of_z}
use mir.Val.{SFits}
use Rattle.il_reader.proofs.TypingLemmas.{variable_is}
use Rattle.il_reader.proofs.typing.Typing.variable.Goals as goal

pub returns : goal.returns
returns c =
    let low : SFits w64 c.args.self.now.low = search rules in
    let high : SFits w64 c.args.self.now.high = search rules in
    let start : SFits w64 c.args.self.now.start = search rules in
    variable_is c.args.self.now c.args.entry _ _ _ _ (to_z-of_z w64 _ low) (to_z-of_z w64 _ high) (to_z-of_z w64 _ start)
