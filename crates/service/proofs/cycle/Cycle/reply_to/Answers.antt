use Rattle.std.proofs.Common.{rules, refl}
use Rattle.gateway.specs.event_core.Control.{AnswersOn}
use Rattle.service.proofs.ToldWrites.{framed}
use Rattle.service.proofs.Courses.{answered_in, answered_site, reached_clients, round_for, sought_for}
use Rattle.service.proofs.cycle.Cycle.reply_to.Goals as goal

pub invariant_of-self : goal.invariant_of-self
invariant_of-self c =
    let g = c.args.self.now.core.value in
    let on : AnswersOn g c.args.frame.now c.core_reply.result c.core_reply.new.core = search rules in
    let answers = framed g c.args.frame.now c.core_reply.result c.core_reply.new.core on in
    let site = answered_site g g c.core_reply.new.core _ _ _ refl answers in
    record {
      reached = reached_clients _ _ c.args.self.now.reached (answered_in g g c.core_reply.new.core c.args.self.now.round _ _ _ refl answers);
      fits = round_for g c.core_reply.new.core c.args.self.now.round site c.args.self.now.fits;
      sought = sought_for g c.core_reply.new.core c.args.self.now.searches.items site c.args.self.now.sought;
    }
