use Rattle.std.proofs.Common.{rules, ◌≡◌, None, Some, position}
use Rattle.service.specs.Rounds.{is_untold}
use Rattle.service.proofs.LastTold.{untold_want}
use Rattle.service.proofs.cycle.Cycle.next_read.Goals as goal

pub lack-requires : goal.lack-requires
lack-requires c = record {
  none = λ want at.
      let first : position (is_untold c.args.device) c.loop.self.round.told ≡ Some c.in-Some.i = search rules in
      let none : c.read_of.result ≡ None = search rules in
      c.read_of.ensures.none none want at (untold_want c.loop.self.round.told c.loop.self.core.value.site.wants c.args.device c.in-Some.i c.loop.self.fits.told first want at);
}
