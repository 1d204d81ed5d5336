use Rattle.std.proofs.Common.{◌≡◌, ◌∙◌, Option, option_map}
use Rattle.facts.specs.declared.fact.Fact.{Fact}
use Rattle.facts.specs.Fact.{met}
use Rattle.verifier.proofs.SameFacts.{both_same, if_ok_then}
use Rattle.verifier.proofs.fact_domain.FactFactDomain.meet.Goals as goal

pub returns : goal.returns
returns c =
    let both = met c.args.self c.args.other in
    if_ok_then c.meet.result (λ (o : Option Fact). o ≡ both) (λ (o : Option Fact). option_map (λ f. f) o ≡ both) (λ o h. both_same o ∙ h) c.meet.ensures
