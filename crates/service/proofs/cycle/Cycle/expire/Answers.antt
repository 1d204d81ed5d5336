use Rattle.std.proofs.Common.{rules, ◌≡◌, ◌∙◌, sym, length}
use Rattle.service.proofs.Timing.{recent_all, wanted_length}
use Rattle.service.proofs.cycle.Cycle.expire.Goals as goal

pub returns-clause-recent : goal.returns-clause-recent
returns-clause-recent c =
    let end : c.loop-i.i ≡ length c.args.self.now.core.value.site.wants = search rules in
    let sized : length c.args.self.now.round.told ≡ length c.args.self.now.core.value.site.wants = wanted_length c.args.self.now.round.told c.args.self.now.core.value.site.wants c.args.self.now.fits.told in
    recent_all c.loop-i.self.round.told c.loop-i.i (end ∙ (sym sized ∙ sym c.loop-i.invariant.3)) c.loop-i.invariant.4
