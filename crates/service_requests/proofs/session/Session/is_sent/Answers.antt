use Rattle.std.proofs.Common.{◌≡◌, ◌∙◌, sym, ap, rules}
use Rattle.service_requests.specs.Talk.{Talk}
use Rattle.service_requests.proofs.Waiting.{nothing_left, nothing_waits}
use Rattle.service_requests.proofs.session.Session.is_sent.Goals as goal

pub returns : goal.returns
returns c =
    let s = c.self.inside in
    let len : c.len.result ≡ _ = c.len.ensures.value in (
      λ all.
          let at : s.start ≡ c.len.result = search (rules, all) in
          sym (ap (λ (t : Talk). t.waiting) c.self.view_is) ∙ nothing_left s.start s.piece.items s.answer.bytes (at ∙ len) (c.self.invariant.1 (at ∙ len)),
      λ none.
          let all : s.start ≡ c.len.result = nothing_waits s.start s.piece.items s.answer.bytes c.self.invariant.0 (ap (λ (t : Talk). t.waiting) c.self.view_is ∙ none) ∙ sym len in
          search (rules, all),
    )
