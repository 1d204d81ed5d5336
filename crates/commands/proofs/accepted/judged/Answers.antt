use Rattle.std.proofs.Common.{ℕ, Err, Ok, ap}
use Rattle.commands.proofs.AcceptedLemmas.{verdict_told}
use Rattle.commands.proofs.accepted.judged.Goals as goal

pub returns-in_ok-outcome-in-Err : goal.returns-in_ok-outcome-in-Err
returns-in_ok-outcome-in-Err c =
    verdict_told {E = ℕ} c.args.site.now c.args.image c.in-Err.refused.at c.in-Err.refused.kind (Ok (Err c.in_ok-outcome-in-Err.outcome)) c.in-Err.ensures.verdict.1
    (c.in_ok-outcome-in-Err.ensures.0, ap Err c.in_ok-outcome-in-Err.ensures.1)
