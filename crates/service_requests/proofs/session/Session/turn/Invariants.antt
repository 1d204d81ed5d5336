use Rattle.std.proofs.Common.{◌≡◌, ◌≤◌, ◌<◌, [], length, take}
use Rattle.service_requests.specs.Sessions.{IsFree, ServesOn}
use Rattle.service_requests.proofs.session.Session.turn.Given as goal

-- The frames so far are answered.
abbrev pub invariant-loop-i : goal.invariant-loop-i
invariant-loop-i g l = record {
  used : l.used ≤ length l.piece;
  put : l.put ≤ length l.out;
  serves : ServesOn g.R.Responder.answers l.frames l.fn.responder l.fn.self (take l.used l.piece) (take l.put l.out) l.responder l.self;
  takes : IsFree l.fn.self → 0 < length l.piece → 0 < l.used;
  empties : 0 < length l.fn.out → l.put ≡ 0 → l.fn.self.waiting ≡ [];
  rests : 0 < length l.fn.out → l.put ≡ 0 → l.self.waiting ≡ [];
  frames : l.frames ≤ l._i;
}
