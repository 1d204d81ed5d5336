use Rattle.std.proofs.Common.{◌≡◌, ℕ, None}
use Rattle.site_model.specs.Readings.{known_at}
use Rattle.service.proofs.held_writes.no_writes.Given as goal

abbrev pub invariant-loop : goal.invariant-loop
invariant-loop l = (output : ℕ) → known_at l.writes.items output ≡ None
