use Rattle.served_ranges.proofs.Sums.{partial_is_shown}
use Rattle.served_ranges.proofs.shown.always_shows_partial.Goals as goal

pub returns-in-Some : goal.returns-in-Some
returns-in-Some c = λ yes.
    partial_is_shown c.args.site.now c.args.entry.now c.args.parts.now c.in-Some.demand (c.is_always_met.ensures.shown yes) (c.is_always_met.ensures.low yes) (c.is_always_met.ensures.high yes) c.in-Some.ensures.value
