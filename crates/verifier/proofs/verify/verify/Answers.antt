use Rattle.std.proofs.Common.{rules}
use Rattle.verifier.specs.Verified.{Acceptance, IsVerified}
use Rattle.verifier.proofs.Promised.{fit_facts, never_go_wrong}
use Rattle.verifier.proofs.verify.verify.Goals as goal

pub returns-in-Ok-judge-clause-safe : goal.returns-in-Ok-judge-clause-safe
returns-in-Ok-judge-clause-safe g c =
    let a : Acceptance = record { image = c.args.image; links = c.in-Ok.links; budget = c.in-Ok-judge.budget } in
    let verified : IsVerified g.row.DEPTH a = search rules in
    never_go_wrong g.row.DEPTH a verified

pub returns-in-Ok-judge-clause-fits : goal.returns-in-Ok-judge-clause-fits
returns-in-Ok-judge-clause-fits g c =
    let a : Acceptance = record { image = c.args.image; links = c.in-Ok.links; budget = c.in-Ok-judge.budget } in
    let verified : IsVerified g.row.DEPTH a = search rules in
    fit_facts g.row.DEPTH a verified
