use Rattle.std.proofs.Common.{◌∙◌, ap, length}
use Rattle.verifier.proofs.Passing.{passed_is, reached_long}
use Rattle.verifier.proofs.verify.judge_frame.Goals as goal

pub most_steps-requires-clause-each : goal.most_steps-requires-clause-each
most_steps-requires-clause-each c =
    let context = c.args.context.now in
    ap length (c.as_slice.ensures ∙ (passed_is context c.in-Ok.reached c.in-Ok.ensures).1) ∙ reached_long context
