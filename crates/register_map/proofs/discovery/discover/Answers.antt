-- The reads are written down from the last to the first.
use Rattle.std.proofs.Common.{[], ◌∷◌, refl}
use Rattle.register_map.specs.Reads.{Runs, TakesNext}
use Rattle.register_map.proofs.Carried.{IsSearch-back}
use Rattle.register_map.proofs.discovery.discover.Goals as goal

pub returns-clause-searched : goal.returns-clause-searched
returns-clause-searched g c =
    let logged = IsSearch-back g.R.Registers.reads TakesNext (λ s log. Runs g.R.Registers.reads s log c.search.new.registers)
    (λ s t log address count answer step run. (record { address = address; count = count; answer = answer } ∷ log, (t, step, run), refl))
    _ _ _ [] _ _ c.search.ensures.searched refl in
    (logged.0, (logged.1, logged.2))
