-- What one scan of an accepted program is, in `run` and in `serve` alike: safe, and what the program means.
-- IEC 61131-3 edition 2, 3.2 (instruction list; one scan after another).
use Rattle.std.specs.Prelude.{◌≡◌, ℕ, ◌≤◌, ℤ, List, length, map, Option}
use Rattle.point_types.specs.declared.reading.Reading.{Reading}
use Rattle.site_model.specs.Readings.{AreReadings, AreSettings}
use Rattle.site_model.specs.declared.site.Site.{Site}
use Rattle.scan_code.specs.Machine.{Ending, State, Ended, opening, run}
use Rattle.il_assemble.specs.Correct.{AreVariables}
use Rattle.il_assemble.specs.Meaning.{Program, Done, meaning}
use Rattle.verifier.specs.Verified.{Acceptance}
use Rattle.gateway.specs.event_core.Core.{numbers_of}
use Rattle.gateway.specs.event_core.SiteRun.{Standing, none_of, reading_at, stored_at}

-- what is read for the program's tags, of the readings of the site's
abbrev pub inputs_of : Acceptance → List Reading → List Reading
inputs_of a readings = map (reading_at readings) (numbers_of a)

-- what the program stored, by the site's tags
abbrev pub stored_of : Site → Acceptance → State → List (Option ℤ)
stored_of site a end = stored_at (numbers_of a) end.outputs (none_of site.tags)

-- the machine after at most so many instructions of the scan on these readings, from these variables on
abbrev pub run_of : Acceptance → List Reading → List ℤ → ℕ → Ending
run_of a readings before n = run a.image (inputs_of a readings) 0 n (opening a.image before)

-- no trap, at most the budget's instructions; all numbers in their declared ranges
pub record IsSafe (site : Site) (a : Acceptance) (readings : List Reading) (before : List ℤ) (steps : ℕ) (end : State) : Type 0 where
  pub ended : run_of a readings before a.budget ≡ Ended steps end
  pub bounded : steps ≤ a.budget
  pub variables : AreVariables a.image.vars end.variables
  pub outputs : AreSettings site.tags (stored_of site a end)

-- on a reading of each tag by what is known and set, and by the time since the scan before, the variables and outputs are those that the program means
pub record IsMeant (site : Site) (a : Acceptance) (p : Program) (standing : Standing) (readings : List Reading) (end : State) : Type 0 where
  pub each : length readings ≡ length site.tags
  pub read : AreReadings site.tags site.wants standing.blocks standing.sets standing.elapsed readings
  pub computed : meaning p (inputs_of a readings) standing.variables ≡ Done end.variables end.outputs
