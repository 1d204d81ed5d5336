-- The texts of a site and of a program that break no rule, with all that reading, elaborating and linking them gives.
-- IEC 61131-3 edition 2, annex B; SunSpec Device Information Model Specification, model definitions.
use Rattle.std.specs.Prelude.{◌≡◌, ◌≤◌, ℕ, List, length, Ok}
use Rattle.model_defs.specs.declared.model.ModelDef.{ModelDef}
use Rattle.site_model.specs.File.{site_in}
use Rattle.site_model.specs.Views.{site_view}
use Rattle.site_model.specs.declared.site.Site.{Site}
use Rattle.il_assemble.specs.Code.{image_of}
use Rattle.il_assemble.specs.Elaboration.{elaborated}
use Rattle.il_assemble.specs.Meaning.{Program}
use Rattle.il_reader.specs.declared.tree.Program.{Program as Tree}
use Rattle.il_reader.specs.Grammar.{IsProgramText}
use Rattle.il_reader.specs.Limit.{most_bytes}
use Rattle.verifier.specs.Links.{links_from}
use Rattle.verifier.specs.Verified.{Acceptance}
use Rattle.commands.specs.Defined.{AreDefined}

-- a text that spells a program, by the grammar, and keeps to the limit on its size
pub record IsTextOf (text : List ℕ) (p : Program) : Type 0 where
  pub tree : Tree
  pub spelled : IsProgramText text tree
  pub short : length text ≤ most_bytes
  pub resolved : elaborated tree ≡ Ok p

-- a site's text, over the definitions that are shipped and after them those of the texts
pub record IsSiteOf (text : List ℕ) (texts : List (List ℕ)) (site : Site) : Type 0 where
  pub models : List ModelDef
  pub defined : AreDefined texts models
  pub located : site_in models text ≡ Ok (site_view site)

-- the texts are a site's and a program's, whose code it is, and each of its tags is the site's of that name
pub record AreTextsOf (site_text program_text : List ℕ) (texts : List (List ℕ)) (site : Site) (p : Program) (a : Acceptance) : Type 0 where
  pub of_site : IsSiteOf site_text texts site
  pub of_program : IsTextOf program_text p
  pub coded : a.image ≡ image_of p
  pub linked : links_from site.tags 0 a.image.tags ≡ Ok a.links

-- of some program
abbrev pub HasTexts : List ℕ → List ℕ → List (List ℕ) → Site → Acceptance → Type 0
HasTexts site_text program_text texts site a = (p : Program) × AreTextsOf site_text program_text texts site p a
