-- inner: the answer on an image that is judged for a site.
-- IEC 61131-3 edition 2, 3.2 leaves verification open; this is this project's.
use Rattle.std.specs.Prelude.{◌≡◌, ◌⊎◌, ℕ, List, map, Result, Ok, Err, nat_le, if◌then◌else◌}
use Rattle.point_types.specs.Value.{◌>>=◌}
use Rattle.scan_code.specs.Image.{Image}
use Rattle.scan_code.specs.declared.op.Op.{Op}
use Rattle.site_model.specs.declared.tag.SiteTag.{SiteTag}
use Rattle.verifier.specs.declared.tag_link.TagLink.{TagLink}
use Rattle.facts.specs.declared.refusal.Refusal.{Refusal}
use Rattle.facts.specs.declared.refusal.RefusedAt.TheVariants as spot
use Rattle.verifier.specs.declared.refused.Refused.{Refused}
use Rattle.facts.specs.declared.refusal.RefusalKind.TheVariants.{OverBudget}
use Rattle.facts.specs.Flow.{Context}
use Rattle.verifier.specs.Links.{links_from}
use Rattle.verifier.specs.Listing.{listing_of}
use Rattle.verifier.specs.Ranges.{range_of}
use Rattle.verifier.specs.Verdict.{budgeted, judged, most_steps, refusal_of}
use Rattle.verifier.specs.Verified.{Acceptance}
use Rattle.facts.specs.Word.{out_of_memory}

-- with the image that was handed in
abbrev pub refused : Image → Refusal → Refused
refused image refusal = record { image = image; at = refusal.at; kind = refusal.kind }

-- the verdict, or memory was refused
abbrev pub IsVerdict : ℕ → Image → List SiteTag → Result Acceptance Refused → Type 0
IsVerdict depth image site (Ok a) = (a.image ≡ image) × (links_from site 0 image.tags ≡ Ok a.links) × (judged image site depth ≡ Ok a.budget)
IsVerdict depth image site (Err r) = (r.image ≡ image) × ((judged image site depth ≡ Err (record { at = r.at; kind = r.kind })) ⊎ ((r.at ≡ out_of_memory.at) × (r.kind ≡ out_of_memory.kind)))

-- what a program is judged by, once the site's tags are found
abbrev pub linked_frame : Image → List TagLink → ℕ → List (ℕ × Op) → Context
linked_frame image links depth listing = record { variables = image.vars; tags = map range_of links; depth = depth; listing = listing }

abbrev pub judged_of : Context → Result ℕ Refusal
judged_of c = budgeted c (refusal_of c)

abbrev pub judged_with : Image → List TagLink → ℕ → Result ℕ Refusal
judged_with image links depth = listing_of image >>= λ listing. judged_of (linked_frame image links depth listing)

abbrev pub within_budget : ℕ → Result ℕ Refusal
within_budget steps = if nat_le steps most_steps then Ok steps else Err (record { at = spot.Program; kind = OverBudget })
