use Rattle.std.proofs.Common.{rules}
use Rattle.commands.specs.Accepted.{IsAcceptedOn}
use Rattle.commands.proofs.ExplainLemmas.{accepted_told, refused_told}
use Rattle.commands.proofs.explained.outcome_of_image.Goals as goal

pub returns-in-Ok : goal.returns-in-Ok
returns-in-Ok g c =
    let on : IsAcceptedOn c.args.site.now c.args.image c.in-Ok.verified = search rules in
    accepted_told c.args.site.now c.args.image c.in-Ok.verified c.outcome_of_accepted.result on c.outcome_of_accepted.ensures

pub returns-in-Err : goal.returns-in-Err
returns-in-Err g c = refused_told c.args.site.now c.args.image c.in-Err.refused.at c.in-Err.refused.kind c.outcome_of_refused.result c.in-Err.ensures.verdict.1 c.outcome_of_refused.ensures
