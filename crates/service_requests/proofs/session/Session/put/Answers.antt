use Rattle.std.proofs.Common.{rules}
use Rattle.service_requests.proofs.Waiting.{goes_out}
use Rattle.service_requests.proofs.session.Session.put.Goals as goal

pub returns-else-self-len-clause-puts : goal.returns-else-self-len-clause-puts
returns-else-self-len-clause-puts c =
    let s = c.self.inside in
    rw (← c.self.view_is)
    (record {
      front = goes_out s.start c.min-end.result s.piece.items s.answer.bytes _ _ (search (rules, c.self.invariant.0)) (search (rules, c.self.invariant.0)) (rw c.deref.ensures.0 at c.copy_from_slice.ensures.after);
      held = search rules;
      goes_on = search rules;
    })
