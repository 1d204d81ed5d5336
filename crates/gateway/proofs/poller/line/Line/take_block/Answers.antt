use Rattle.std.proofs.Common.{sym, ◌∙◌, ◌≡◌, Some}
use Rattle.gateway.specs.poller.Cycle.{read_of}
use Rattle.gateway.proofs.Blocks.{takes_call}
use Rattle.gateway.proofs.poller.line.Line.take_block.Goals as goal

pub returns-in-Ok-clause-taken : goal.returns-in-Ok-clause-taken
returns-in-Ok-clause-taken g c =
    let asked : read_of c.args.site.now c.args.maps.now c.args.want ≡ Some c.in-Some.call = sym c.read_of.ensures.read ∙ c.in-Some.is in
    rw (asked, c.event_by.ensures) (takes_call c.args.want c.in-Some.call _ _ c.in-Ok.outcome c.in-Ok.ensures.done)
