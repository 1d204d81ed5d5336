-- Which tag of the site each tag of an image is.
-- IEC 61131-3 edition 2, 2.4.3 (external variables are declared with one type everywhere).
use Rattle.std.specs.Prelude.{ℕ, ◌+◌, Bool, true, false, not, List, [], ◌∷◌, if◌then◌else◌, Result, Ok, Err, Option, Some, None, nat_eq, slice_get}
use Rattle.std.specs.List.{position}
use Rattle.std.specs.Str.{bytes_eq}
use Rattle.point_types.specs.Value.{code_of, ◌>>=◌}
use Rattle.scan_code.specs.declared.image.Tag.{Tag}
use Rattle.site_model.specs.declared.access.Access.{Access}
use Rattle.site_model.specs.declared.access.Access.TheVariants as access
use Rattle.site_model.specs.declared.tag.SiteTag.{SiteTag}
use Rattle.facts.specs.Fact.{same_bool}
use Rattle.verifier.specs.declared.tag_link.TagLink.{TagLink}
use Rattle.facts.specs.declared.refusal.Refusal.{Refusal}
use Rattle.facts.specs.declared.refusal.RefusedAt.TheVariants as spot
use Rattle.facts.specs.declared.refusal.RefusalKind.{RefusalKind}
use Rattle.facts.specs.declared.refusal.RefusalKind.TheVariants.{TagUnknown, TagType, TagAccess}

-- a program stores these, and loads the others
abbrev pub is_stored : Access → Bool
is_stored access.Input = false
is_stored access.Output = true
is_stored access.Setting = false
is_stored access.Shown = true
is_stored access.Time = false

abbrev pub allowed : Tag → TagLink → Result TagLink RefusalKind
allowed tag link =
    if not (nat_eq (code_of tag.kind) (code_of link.site.kind)) then Err TagType
    else if not (same_bool tag.output (is_stored link.site.access)) then Err TagAccess
    else Ok link

-- a tag of the site, if it is there
abbrev pub there : Tag → ℕ → Option SiteTag → Result TagLink RefusalKind
there tag n None = Err TagUnknown
there tag n (Some s) = allowed tag (record { number = n; site = s })

abbrev pub found : List SiteTag → Tag → Option ℕ → Result TagLink RefusalKind
found site tag None = Err TagUnknown
found site tag (Some n) = there tag n (slice_get site n)

abbrev pub is_called : List ℕ → SiteTag → Bool
is_called name s = bytes_eq s.name name

-- the first tag of the site that has a name
abbrev pub number_of : List SiteTag → List ℕ → Option ℕ
number_of site name = position (is_called name) site

abbrev pub link_of : List SiteTag → Tag → Result TagLink RefusalKind
link_of site tag = found site tag (number_of site tag.name)

abbrev pub refused_at : {A : Type 0} → ℕ → Result A RefusalKind → Result A Refusal
refused_at n (Ok a) = Ok a
refused_at n (Err kind) = Err (record { at = spot.Tag n; kind = kind })

-- of tags that are numbered from n on: the link of each, or the first refusal
abbrev pub links_from : List SiteTag → ℕ → List Tag → Result (List TagLink) Refusal
links_from site n [] = Ok []
links_from site n (tag ∷ tags) = refused_at n (link_of site tag) >>= λ link. links_from site (n + 1) tags >>= λ links. Ok (link ∷ links)
