-- The verdict on a program for a site: its budget, or the first refusal.
-- IEC 61131-3 edition 2, 3.2.2 table 52 (instruction list operators), 2.4.3 (external variables).
use Rattle.std.specs.Prelude.{ℕ, ◌+◌, List, [], ◌∷◌, length, map, if◌then◌else◌, Result, Ok, Err, Option, Some, None, slice_get, nat_le}
use Rattle.point_types.specs.Value.{◌>>=◌}
use Rattle.scan_code.specs.Image.{Image}
use Rattle.site_model.specs.declared.tag.SiteTag.{SiteTag}
use Rattle.facts.specs.declared.refusal.RefusalKind.TheVariants.{OverBudget}
use Rattle.facts.specs.Flow.{Context}
use Rattle.facts.specs.declared.refusal.Refusal.{Refusal}
use Rattle.facts.specs.declared.refusal.RefusedAt.TheVariants as spot
use Rattle.verifier.specs.Links.{links_from}
use Rattle.verifier.specs.Listing.{listing_of}
pub use Rattle.verifier.specs.Ranges.{range_of}
use Rattle.facts.specs.Slots.{Slot, flow_of, slots}
use Rattle.verifier.specs.Budget.{budget}

-- first the tags are looked at, then the code
abbrev pub frame_of : Image → List SiteTag → ℕ → Result Context Refusal
frame_of image site depth = links_from site 0 image.tags >>= λ links. listing_of image >>= λ listing.
    Ok (record { variables = image.vars; tags = map range_of links; depth = depth; listing = listing })

-- of the instructions from number at on, the first that a fact reaches and that refuses
abbrev pub first_refusal : Context → ℕ → List Slot → Option Refusal
first_refusal c at [] = None
first_refusal c at (s ∷ rest) = elim (flow_of c at s (slice_get c.listing at)) [ Err e ↦ Some (record { at = spot.Instruction at; kind = e }) | Ok ways ↦ first_refusal c (at + 1) rest ]

abbrev pub refusal_of : Context → Option Refusal
refusal_of c = first_refusal c 0 (slots c (length c.listing))

abbrev pub most_steps : ℕ
most_steps = 1000000

abbrev pub budgeted : Context → Option Refusal → Result ℕ Refusal
budgeted c (Some refusal) = Err refusal
budgeted c None = if nat_le (budget c) most_steps then Ok (budget c) else Err (record { at = spot.Program; kind = OverBudget })

-- the greatest number of steps of a scan with so many deferred values at most, or why there is none
abbrev pub judged : Image → List SiteTag → ℕ → Result ℕ Refusal
judged image site depth = frame_of image site depth >>= λ c. budgeted c (refusal_of c)
