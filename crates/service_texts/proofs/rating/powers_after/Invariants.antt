use Rattle.std.proofs.Common.{◌≡◌, drop, []}
use Rattle.toml.specs.View.{items_view}
use Rattle.service_texts.specs.RatedPowers.{powers_after}
use Rattle.service_texts.proofs.rating.powers_after.Given as goal

-- what the entries that are left give after the powers so far
abbrev pub invariant-loop-entry : goal.invariant-loop-entry
invariant-loop-entry l = powers_after [] (items_view l.entries) ≡ powers_after l.powers (items_view (drop l.entry-index l.entries))
