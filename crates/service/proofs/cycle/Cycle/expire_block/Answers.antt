use Rattle.std.proofs.Common.{rules, ◌≡◌, ◌+◌, None, slice_get, subst, sym}
use Rattle.service.specs.Rounds.{AreRecentTo, Progress}
use Rattle.service.proofs.Timing.{past_told, recent_further, recent_told}
use Rattle.service.proofs.cycle.Cycle.expire_block.Goals as goal

pub returns-then-is_recent-clause-recent : goal.returns-then-is_recent-clause-recent
returns-then-is_recent-clause-recent c before = recent_further c.args.self.now.round.told c.args.i (λ t at. (c.is_recent.ensures t at).0 (search rules)) before

pub returns-in-Some-clause-recent : goal.returns-in-Some-clause-recent
returns-in-Some-clause-recent c before =
    subst (λ (p : Progress). AreRecentTo (c.args.i + 1) p.told) (sym c.lose_want.ensures.round) (recent_told c.args.self.now.round.told c.args.i before)

pub returns-in_default-clause-recent : goal.returns-in_default-clause-recent
returns-in_default-clause-recent c before =
    let past : slice_get c.args.self.now.core.value.site.wants c.args.i ≡ None = search rules in
    let none : slice_get c.args.self.now.round.told c.args.i ≡ None = past_told c.args.self.now.round.told c.args.self.now.core.value.site.wants c.args.i c.args.self.now.fits.told past in
    recent_further c.args.self.now.round.told c.args.i (λ t at. absurd (cc)) before
