use Rattle.std.proofs.Common.{◌≡◌, drop, []}
use Rattle.toml.specs.View.{items_view}
use Rattle.service_texts.specs.Sleeping.{hours_after}
use Rattle.service_texts.proofs.sleeping.hours_after.Given as goal

-- what the entries that are left give after the hours so far
abbrev pub invariant-loop-entry : goal.invariant-loop-entry
invariant-loop-entry l = hours_after [] (items_view l.entries) ≡ hours_after l.hours (items_view (drop l.entry-index l.entries))
