use Rattle.std.proofs.Common.{◌≡◌, drop, []}
use Rattle.toml.specs.View.{items_view}
use Rattle.service_texts.specs.Identities.{identities_after}
use Rattle.service_texts.proofs.identities.identities_after.Given as goal

-- what the entries that are left give after what was wanted so far
abbrev pub invariant-loop-entry : goal.invariant-loop-entry
invariant-loop-entry l = identities_after [] (items_view l.entries) ≡ identities_after l.identities (items_view (drop l.entry-index l.entries))
