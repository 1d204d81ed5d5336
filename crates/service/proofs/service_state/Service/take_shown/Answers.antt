use Rattle.service.proofs.Compared.{one_shown}
use Rattle.service.proofs.service_state.Service.take_shown.Goals as goal

pub returns-clause-compared : goal.returns-clause-compared
returns-clause-compared c = one_shown c.args.output c.args.shown c.is_to_write-is_over.result c.args.self.now _ c.is_to_write-is_over.ensures c.drop_if.ensures.dropped c.show.ensures.shows
