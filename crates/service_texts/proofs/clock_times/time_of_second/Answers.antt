use Rattle.std.proofs.Common.{arith}
use Rattle.std.proofs.lemmas.Result.{IfOk-weaker}
use Rattle.service_texts.proofs.clock_times.time_of_second.Goals as goal

pub returns-in-Some : goal.returns-in-Some
returns-in-Some c =
    IfOk-weaker c.in_utc.result _ _ (λ text e. ((λ early. (c.in-Some.shown, c.in-Some.ensures.1, e)), (λ late. absurd (omega (arith, c.in-Some.ensures.0, late))))) c.in_utc.ensures
