use Rattle.service_loop.proofs.Admitted.{right_given}
use Rattle.service_loop.proofs.clients.admitted.Goals as goal

pub returns : goal.returns
returns c = right_given c.args.writers.now c.args.address c.may_write.result c.client_came.new.self.side.now c.client_came.new.self.places.items c.client_came.result c.client_came.ensures.open c.may_write.ensures
