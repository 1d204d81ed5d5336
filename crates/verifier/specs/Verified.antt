-- A program that was accepted, and whether another site has what it was accepted for.
-- IEC 61131-3 edition 2, 2.4.3 (external variables are declared with one type everywhere).
use Rattle.std.specs.Prelude.{◌≡◌, ℕ, List, [], ◌∷◌, Option, Some, None, Ok, slice_get}
use Rattle.scan_code.specs.Image.{Image, IsProper}
use Rattle.site_model.specs.declared.tag.SiteTag.{SiteTag}
use Rattle.verifier.specs.declared.tag_link.TagLink.{TagLink}
use Rattle.verifier.specs.Links.{links_from}
use Rattle.verifier.specs.Verdict.{judged}

-- an image, the site's tag of each of its tags, and the greatest number of steps of a scan
pub record Acceptance : Type 0 where
  pub image : Image
  pub links : List TagLink
  pub budget : ℕ

-- it is an image, and for some site these are the links, and the verdict with so many deferred values is this budget
pub record IsVerified (depth : ℕ) (a : Acceptance) : Type 0 where
  pub proper : IsProper a.image
  pub site : List SiteTag
  pub linked : links_from site 0 a.image.tags ≡ Ok a.links
  pub judged : judged a.image site depth ≡ Ok a.budget

-- the tag at the link's number is as the link's, in all that a verdict looks at
pub record IsAlike (t s : SiteTag) : Type 0 where
  pub name : t.name ≡ s.name
  pub access : t.access ≡ s.access
  pub kind : t.kind ≡ s.kind
  pub low : t.low ≡ s.low
  pub high : t.high ≡ s.high
  pub default : t.default ≡ s.default

abbrev pub HasAlike : Option SiteTag → SiteTag → Type 0
HasAlike None s = ⊥
HasAlike (Some t) s = IsAlike t s

-- each link's number is that of such a tag
abbrev pub HasLinks : List SiteTag → List TagLink → Type 0
HasLinks site [] = Unit {0}
HasLinks site (link ∷ links) = HasAlike (slice_get site link.number) link.site × HasLinks site links
