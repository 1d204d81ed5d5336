use Rattle.std.proofs.Common.{arith}
use Rattle.point_types.proofs.NameLemmas.{folded_more}
use Rattle.point_types.proofs.name.in_lower_case.Goals as goal

pub loop-i-preserved : goal.loop-i-preserved
loop-i-preserved c =
    folded_more c.args.text.now c.loop-i.bytes c.loop-i.i c.lower_case.result (omega arith) (omega arith) c.loop-i.invariant c.lower_case.ensures
