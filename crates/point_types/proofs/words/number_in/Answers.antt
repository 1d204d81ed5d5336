use Rattle.std.proofs.Common.{◌<◌, arith, rules}
use Rattle.point_types.proofs.Numbers.{number_of_more, shifted_in, grown_below}
use Rattle.point_types.proofs.words.number_in.Goals as goal

pub loop-word-preserved : goal.loop-word-preserved
loop-word-preserved c =
    let small : c.from.result < 65536 = search rules in
    let joined = shifted_in c.loop-word.number c.loop-word.word-index c.from.result (omega arith) c.loop-word.invariant.1 small in
    let more = number_of_more c.args.words.now c.loop-word.word-index c.loop-word-test.true in
    (grind (arith, joined, more), rw joined (grown_below _ _ _ c.loop-word.invariant.1 small))
