-- A program no scan of which goes wrong, whatever is read for its tags.
-- IEC 61131-3 edition 2, 3.2 (instruction list), 2.4.3 (values of variables before and between scans).
use Rattle.std.specs.Prelude.{◌≡◌, ℕ, ◌≤◌, true, false, ℤ, ◌≤ℤ◌, List, [], ◌∷◌, map, Option, Some, None, slice_get}
use Rattle.point_types.specs.declared.reading.Reading.{Reading}
use Rattle.point_types.specs.declared.variable.Var.{Var}
use Rattle.scan_code.specs.Machine.{State, Ending, Ended, Trapped, Unfinished, run, opening}
use Rattle.scan_code.specs.Table.{start_of}
use Rattle.site_model.specs.Readings.{IsUsable}
use Rattle.verifier.specs.declared.tag_link.TagLink.{TagLink}
use Rattle.verifier.specs.Links.{is_stored}
use Rattle.verifier.specs.Verdict.{most_steps}
use Rattle.verifier.specs.Verified.{Acceptance, IsVerified}

-- ---- what may be read

-- for a tag that the program loads: a number in the site's range, or none where there is no default
abbrev pub IsReadFor : Option TagLink → Option Reading → Type 0
IsReadFor None r = Unit {0}
IsReadFor (Some link) None = ⊥
IsReadFor (Some link) (Some r) = is_stored link.site.access ≡ false → IsUsable link.site r

abbrev pub AreReadFor : List TagLink → List Reading → Type 0
AreReadFor links rs = (t : ℕ) → IsReadFor (slice_get links t) (slice_get rs t)

-- for each of some scans
abbrev pub AreRowsFor : List TagLink → List (List Reading) → Type 0
AreRowsFor links [] = Unit {0}
AreRowsFor links (rs ∷ rows) = AreReadFor links rs × AreRowsFor links rows

-- ---- what a scan leaves

-- a variable's number lies in its declared range
abbrev pub IsValueOf : Option Var → Option ℤ → Type 0
IsValueOf None n = Unit {0}
IsValueOf (Some d) None = ⊥
IsValueOf (Some d) (Some n) = (d.low ≤ℤ n) × (n ≤ℤ d.high)

abbrev pub AreValuesOf : List Var → List ℤ → Type 0
AreValuesOf vars variables = (i : ℕ) → IsValueOf (slice_get vars i) (slice_get variables i)

-- an output that is set lies in the site's range of its tag, which is one that programs store
abbrev pub IsOutputFor : Option TagLink → Option (Option ℤ) → Type 0
IsOutputFor link None = Unit {0}
IsOutputFor link (Some None) = Unit {0}
IsOutputFor None (Some (Some n)) = ⊥
IsOutputFor (Some link) (Some (Some n)) = (link.site.low ≤ℤ n) × (n ≤ℤ link.site.high) × (is_stored link.site.access ≡ true)

-- all lie in their ranges
pub record LeavesInRange (a : Acceptance) (s : State) : Type 0 where
  pub variables : AreValuesOf a.image.vars s.variables
  pub outputs : (t : ℕ) → IsOutputFor (slice_get a.links t) (slice_get s.outputs t)

-- ---- scans

-- without a trap, after at most the budget's instructions, with all in range; and then what is said of the variables that are left
abbrev pub EndsWell : Acceptance → Ending → (List ℤ → Type 0) → Type 0
EndsWell a (Ended steps t) P = (steps ≤ a.budget) × LeavesInRange a t × P t.variables
EndsWell a (Trapped at e) P = ⊥
EndsWell a (Unfinished t) P = ⊥

-- one scan after another on these rows of readings, each with the variables that the one before left
abbrev pub EachEndsWell : Acceptance → List (List Reading) → List ℤ → Type 0
EachEndsWell a [] variables = Unit {0}
EachEndsWell a (rs ∷ rows) variables = EndsWell a (run a.image rs 0 a.budget (opening a.image variables)) (EachEndsWell a rows)

-- over any number of scans, from the start values on, or from any that lie in their ranges
pub record NeverGoesWrong (a : Acceptance) : Type 0 where
  pub bounded : a.budget ≤ most_steps
  pub starts : AreValuesOf a.image.vars (map start_of a.image.vars)
  pub scans : (rows : List (List Reading)) → AreRowsFor a.links rows → (variables : List ℤ) → AreValuesOf a.image.vars variables → EachEndsWell a rows variables

abbrev pub AcceptedNeverGoWrong : Type 0
AcceptedNeverGoWrong = (depth : ℕ) (a : Acceptance) → IsVerified depth a → NeverGoesWrong a
