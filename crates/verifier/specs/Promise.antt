-- What is promised of each state of a scan of a program that was accepted.
-- IEC 61131-3 edition 2, 3.2 (instruction list), 2.4.3 (values of variables before and between scans).
use Rattle.std.specs.Prelude.{◌≡◌, ℕ, ℤ, List, map, Ok}
use Rattle.point_types.specs.declared.reading.Reading.{Reading}
use Rattle.scan_code.specs.Machine.{run, opening}
use Rattle.verifier.specs.Budget.{budget}
use Rattle.facts.specs.Flow.{Context}
use Rattle.verifier.specs.Listing.{listing_of}
use Rattle.verifier.specs.Ranges.{range_of}
use Rattle.verifier.specs.Sound.{AreInRanges, AreReadings, IsFine}
use Rattle.verifier.specs.Verified.{Acceptance, IsVerified}

-- what the program is judged by: its variables and instructions, the site's ranges of its tags
pub record IsFrameOf (most : ℕ) (a : Acceptance) (c : Context) : Type 0 where
  pub variables : c.variables ≡ a.image.vars
  pub tags : c.tags ≡ map range_of a.links
  pub depth : c.depth ≡ most
  pub listing : listing_of a.image ≡ Ok c.listing

-- whatever the readings, each number within the site's range, and whatever the variables within theirs
pub record FitsFacts (depth : ℕ) (a : Acceptance) : Type 0 where
  pub context : Context
  pub framed : IsFrameOf depth a context
  pub budgeted : a.budget ≡ budget context
  -- after any number of instructions nothing has trapped, the state fits the fact of its instruction, and variables,
  -- outputs that are set and the number of deferred values are in range
  pub fine : (rs : List Reading) → AreReadings context rs → (variables : List ℤ) → AreInRanges a.image.vars variables → (n : ℕ) → IsFine context rs (run a.image rs 0 n (opening a.image variables))

abbrev pub AcceptedFitFacts : Type 0
AcceptedFitFacts = (depth : ℕ) (a : Acceptance) → IsVerified depth a → FitsFacts depth a
