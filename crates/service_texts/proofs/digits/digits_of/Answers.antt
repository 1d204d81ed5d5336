use Rattle.std.proofs.Common.{◌≤◌, ◌∙◌, ap, length, rules}
use Rattle.std.proofs.lemmas.Result.{IfOk-weaker}
use Rattle.service_texts.proofs.Spelled.{digits_shown}
use Rattle.service_texts.specs.Starting.{digits}
use Rattle.service_texts.proofs.digits.digits_of.Goals as goal

pub returns : goal.returns
returns c =
    let long : 6 ≤ length c.digest-digest.result = search rules in
    IfOk-weaker c.encode.result _ _ (λ shown e. digits_shown _ _ _ _ long c.digest-digest.ensures c.front_of.ensures e ∙ ap digits c.as_bytes.ensures.value) c.encode.ensures
