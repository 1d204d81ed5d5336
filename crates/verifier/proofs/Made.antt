-- What the proofs know of a context that is made from an image and the tags of a site.
use Rattle.std.specs.Prelude.{◌≡◌, ℕ, ◌<◌, ◌≤◌, Bool, true, false, pos, ◌≤ℤ◌, List, [], ◌∷◌, length, Option, Some, None, slice_get}
use Rattle.scan_code.specs.declared.op.Op.{Op}
use Rattle.scan_code.specs.declared.op.Op.TheVariants as does
use Rattle.point_types.specs.Value.{is_bool, low_of, high_of}
use Rattle.point_types.specs.declared.variable.Var.{Var}
use Rattle.point_types.specs.declared.reading.Reading.{Reading}
use Rattle.point_types.specs.declared.reading.Reading.TheVariants as reading
use Rattle.scan_code.specs.Instruction.{decoded_at}
use Rattle.scan_code.specs.Machine.{State}
use Rattle.facts.specs.Span.{Between}
use Rattle.facts.specs.Flow.{Context, TagRange}
use Rattle.facts.specs.Fit.{IsIn}
use Rattle.verifier.specs.Sound.{AreInRanges, OutputInRange}
use Rattle.scan_code.specs.Image.{Image}
use Rattle.scan_code.specs.declared.image.Tag.{Tag}

-- from an address on every instruction decodes, and the last one is END
abbrev pub IsWhole : List ℕ → ℕ → List (ℕ × Op) → Type 0
IsWhole code at [] = ⊥
IsWhole code at (e ∷ []) = (e.0 ≡ at) × (e.1 ≡ does.End) × ((next : ℕ) × (decoded_at code at ≡ Some (e.1, next)))
IsWhole code at (e ∷ f ∷ rest) = (e.0 ≡ at) × ((next : ℕ) × (decoded_at code at ≡ Some (e.1, next)) × IsWhole code next (f ∷ rest))

abbrev pub IsTag : Bool → Option TagRange → Type 0
IsTag output None = ⊥
IsTag output (Some t) = t.output ≡ output

-- each place is of the right direction, each counter is there, each number is one of its type
abbrev pub IsPlaced : Image → Context → ℕ → Op → Type 0
IsPlaced image c counters (does.LoadInput t) = IsTag false (slice_get c.tags t)
IsPlaced image c counters (does.LoadPresence t) = IsTag false (slice_get c.tags t)
IsPlaced image c counters (does.StoreOutput t) = IsTag true (slice_get c.tags t)
IsPlaced image c counters (does.SetOutput t) = IsTag true (slice_get c.tags t)
IsPlaced image c counters (does.ResetOutput t) = IsTag true (slice_get c.tags t)
IsPlaced image c counters (does.LoadNumber k n) = IsIn (Between (low_of k) (high_of k)) n
IsPlaced image c counters (does.Repeat condition k n to) = (image.version ≡ 2) × (k < counters)
IsPlaced image c counters other = Unit {0}

-- an image's tag, and what the site says of it
abbrev pub SameTag : Option Tag → Option TagRange → Type 0
SameTag None None = Unit {0}
SameTag None (Some r) = ⊥
SameTag (Some g) None = ⊥
SameTag (Some g) (Some r) = (g.output ≡ r.output) × (g.kind ≡ r.kind)

-- a context is made from an image and the ranges of its tags
pub record IsMadeFrom (image : Image) (counters : ℕ) (c : Context) : Type 0 where
  pub variables : image.vars ≡ c.variables
  pub tags : (t : ℕ) → SameTag (slice_get image.tags t) (slice_get c.tags t)
  pub whole : IsWhole image.code 0 c.listing
  pub placed : (n : ℕ) (e : ℕ × Op) → slice_get c.listing n ≡ Some e → IsPlaced image c counters e.1
  -- ranges lie in their types
  pub of_variables : (i : ℕ) (d : Var) → slice_get c.variables i ≡ Some d → (low_of d.kind ≤ℤ d.low) × (d.high ≤ℤ high_of d.kind)
  pub of_tags : (t : ℕ) (r : TagRange) → slice_get c.tags t ≡ Some r → (low_of r.kind ≤ℤ r.low) × (r.high ≤ℤ high_of r.kind)
  -- a BOOL has no subrange
  pub of_bools : (i : ℕ) (d : Var) → slice_get c.variables i ≡ Some d → is_bool d.kind ≡ true → (d.low ≡ pos 0) × (d.high ≡ pos 1)

-- a state in its ranges, with so many counters
pub record Within (c : Context) (counters : ℕ) (s : State) : Type 0 where
  pub variables : AreInRanges c.variables s.variables
  pub outputs : (t : ℕ) → OutputInRange (slice_get c.tags t) (slice_get s.outputs t)
  pub deferred : length s.deferred ≤ c.depth
  pub counted : length s.taken ≡ counters

-- a reading of an input in its range, none where there is no default; or none of an output
abbrev pub IsLoaded : Option TagRange → Option Reading → Type 0
IsLoaded None r = Unit {0}
IsLoaded (Some t) None = ⊥
IsLoaded (Some t) (Some (reading.Value n)) = IsIn (Between t.low t.high) n
IsLoaded (Some t) (Some (reading.Default n c)) = IsIn (Between t.low t.high) n
IsLoaded (Some t) (Some (reading.Absent c)) = t.output ≡ false → t.has_default ≡ false

abbrev pub AreLoaded : Context → List Reading → Type 0
AreLoaded c rs = (t : ℕ) → IsLoaded (slice_get c.tags t) (slice_get rs t)
