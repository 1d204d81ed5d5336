use Rattle.std.proofs.Common.{◌≡◌, ◌∙◌}
use Rattle.facts.specs.Flow.{Flow, flow}
use Rattle.verifier.specs.Passing.{flow_stood}
use Rattle.verifier.proofs.SameFacts.{flow_same, if_ok_then}
use Rattle.verifier.proofs.fact_domain.FactFactDomain.flow.Goals as goal

pub returns : goal.returns
returns c =
    let after = flow c.args.context.now c.args.at c.args.op c.args.self in
    if_ok_then c.flow.result (λ (ways : Flow). ways ≡ after) (λ (ways : Flow). flow_stood (λ f. f) ways ≡ after) (λ ways h. flow_same ways ∙ h) c.flow.ensures
