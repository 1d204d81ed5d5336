-- What the verdict promises of the scans of an accepted program.
-- IEC 61131-3 edition 2, 3.2 (instruction list), 2.3.1 table 10 (the ranges of the types).
use Rattle.std.specs.Prelude.{◌≡◌, ℕ, ◌≤◌, true, false, ℤ, List, [], ◌∷◌, length, if◌then◌else◌, Ok, Option, Some, None, slice_get}
use Rattle.point_types.specs.declared.reading.Cause.TheVariants as cause
use Rattle.point_types.specs.declared.reading.Reading.{Reading}
use Rattle.point_types.specs.declared.reading.Reading.TheVariants as reading
use Rattle.point_types.specs.declared.variable.Var.{Var}
use Rattle.scan_code.specs.Image.{Image, IsProper}
use Rattle.scan_code.specs.declared.op.Op.{Op}
use Rattle.scan_code.specs.Machine.{State, Ending, Ended, Trapped, Unfinished, run, opening}
use Rattle.site_model.specs.declared.tag.SiteTag.{SiteTag}
use Rattle.facts.specs.Span.{Between}
use Rattle.facts.specs.declared.fact.Fact.{Fact}
use Rattle.facts.specs.Fact.{zipped}
use Rattle.facts.specs.Flow.{Context, TagRange}
use Rattle.facts.specs.Fit.{IsIn, Fits}
use Rattle.facts.specs.Slots.{Holds, slots}
use Rattle.verifier.specs.Budget.{budget}
use Rattle.verifier.specs.Verdict.{frame_of, refusal_of, judged, most_steps}

-- c is what an image is judged by, and no instruction that a fact reaches refuses
pub record IsAccepted (image : Image) (site : List SiteTag) (depth : ℕ) (c : Context) : Type 0 where
  pub proper : IsProper image
  pub framed : frame_of image site depth ≡ Ok c
  pub unrefused : refusal_of c ≡ None

-- what it means that the verdict on an image is yes, with this budget
pub record IsYes (image : Image) (site : List SiteTag) (depth steps : ℕ) : Type 0 where
  pub context : Context
  pub accepted : IsAccepted image site depth context
  pub budgeted : steps ≡ budget context
  pub bounded : steps ≤ most_steps

abbrev pub YesIsAccepted : Type 0
YesIsAccepted = (image : Image) (site : List SiteTag) (depth steps : ℕ) → IsProper image → judged image site depth ≡ Ok steps → IsYes image site depth steps

-- a number in the tag's range, or none where there is no default
abbrev pub IsInputOf : TagRange → Reading → Type 0
IsInputOf t (reading.Value n) = IsIn (Between t.low t.high) n
IsInputOf t (reading.Default n c) = IsIn (Between t.low t.high) n
IsInputOf t (reading.Absent c) = t.has_default ≡ false

-- those of outputs aren't looked at
abbrev pub IsReadingOf : Option TagRange → Option Reading → Type 0
IsReadingOf None r = Unit {0}
IsReadingOf (Some t) None = ⊥
IsReadingOf (Some t) (Some r) = t.output ≡ false → IsInputOf t r

-- a reading for each tag
abbrev pub AreReadings : Context → List Reading → Type 0
AreReadings c rs = (t : ℕ) → IsReadingOf (slice_get c.tags t) (slice_get rs t)

abbrev pub loaded_of : TagRange → Reading → Reading
loaded_of t r = if t.output then reading.Absent cause.NoBlock else r

-- the readings of inputs alone
abbrev pub inputs_of : Context → List Reading → List Reading
inputs_of c rs = zipped loaded_of c.tags rs

abbrev pub HasRange : Option Var → Option ℤ → Type 0
HasRange None n = Unit {0}
HasRange (Some d) None = ⊥
HasRange (Some d) (Some n) = IsIn (Between d.low d.high) n

-- variables lie in their declared ranges
abbrev pub AreInRanges : List Var → List ℤ → Type 0
AreInRanges vars variables = (i : ℕ) → HasRange (slice_get vars i) (slice_get variables i)

-- an output that is set lies in the range of its tag, which is one that programs store
abbrev pub OutputInRange : Option TagRange → Option (Option ℤ) → Type 0
OutputInRange t None = Unit {0}
OutputInRange t (Some None) = Unit {0}
OutputInRange None (Some (Some n)) = ⊥
OutputInRange (Some t) (Some (Some n)) = IsIn (Between t.low t.high) n × (t.output ≡ true)

pub record InRanges (c : Context) (s : State) : Type 0 where
  pub variables : AreInRanges c.variables s.variables
  pub outputs : (t : ℕ) → OutputInRange (slice_get c.tags t) (slice_get s.outputs t)
  pub deferred : length s.deferred ≤ c.depth

-- a state stands before an instruction, and fits its fact
pub record IsCovered (c : Context) (rs : List Reading) (s : State) : Type 0 where
  pub number : ℕ
  pub instruction : Op
  pub listed : slice_get c.listing number ≡ Some (s.address, instruction)
  pub fact : Fact
  pub slot : slice_get (slots c (length c.listing)) number ≡ Some (Holds fact)
  pub fits : Fits (inputs_of c rs) fact s

-- nothing trapped: each state is in its ranges, and fits the fact of its instruction where it goes on
abbrev pub IsFine : Context → List Reading → Ending → Type 0
IsFine c rs (Ended steps t) = InRanges c t
IsFine c rs (Trapped at e) = ⊥
IsFine c rs (Unfinished t) = InRanges c t × IsCovered c rs t

-- whatever the variables and the readings, after any number of steps
abbrev pub RunsWell : Type 0
RunsWell =
    (image : Image) (site : List SiteTag) (depth : ℕ) (c : Context) → IsAccepted image site depth c
    → (rs : List Reading) → AreReadings c rs → (variables : List ℤ) → AreInRanges image.vars variables
    → (n : ℕ) → IsFine c rs (run image rs 0 n (opening image variables))

-- a run that ends after at most so many steps
abbrev pub EndsWithin : ℕ → Ending → Type 0
EndsWithin most (Ended steps t) = steps ≤ most
EndsWithin most (Trapped at e) = ⊥
EndsWithin most (Unfinished t) = ⊥

-- a scan ends within the budget
abbrev pub RunsOut : Type 0
RunsOut =
    (image : Image) (site : List SiteTag) (depth : ℕ) (c : Context) → IsAccepted image site depth c
    → (rs : List Reading) → AreReadings c rs → (variables : List ℤ) → AreInRanges image.vars variables
    → EndsWithin (budget c) (run image rs 0 (budget c) (opening image variables))

-- one scan, and what is said of the variables that it leaves
abbrev pub EndsAndThen : Context → Ending → (List ℤ → Type 0) → Type 0
EndsAndThen c (Ended steps t) P = (steps ≤ budget c) × InRanges c t × P t.variables
EndsAndThen c (Trapped at e) P = ⊥
EndsAndThen c (Unfinished t) P = ⊥

-- scans on these rows of readings, each with the variables that the one before left
abbrev pub ScansEnd : Image → Context → List (List Reading) → List ℤ → Type 0
ScansEnd image c [] variables = Unit {0}
ScansEnd image c (rs ∷ rows) variables = EndsAndThen c (run image rs 0 (budget c) (opening image variables)) (ScansEnd image c rows)

abbrev pub AreRows : Context → List (List Reading) → Type 0
AreRows c [] = Unit {0}
AreRows c (rs ∷ rows) = AreReadings c rs × AreRows c rows

-- every number of scans: each ends within the budget, and leaves all in range
abbrev pub EveryScanEnds : Type 0
EveryScanEnds =
    (image : Image) (site : List SiteTag) (depth : ℕ) (c : Context) → IsAccepted image site depth c
    → (rows : List (List Reading)) → AreRows c rows → (variables : List ℤ) → AreInRanges image.vars variables
    → ScansEnd image c rows variables
