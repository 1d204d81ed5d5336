use Rattle.std.proofs.Common.{rules}
use Rattle.intervals.proofs.Sums.{same_ends, least_of_four, greatest_of_four}
use Rattle.intervals.proofs.Span.over.Goals as goal

pub returns : goal.returns
returns c =
    same_ends _ _ _ _
    (least_of_four c.args.a c.args.b c.args.c c.args.d c.min.result c.min-2.result _ (search rules) (search rules) (search rules))
    (greatest_of_four c.args.a c.args.b c.args.c c.args.d c.max.result c.max-2.result _ (search rules) (search rules) (search rules))
