-- The site that a text describes, the program that a text spells, and the site's tags that the program names.
-- That the texts break no rule, and that each name in the program is known, stands in Sources.
-- IEC 61131-3 edition 2, annex B and 2.4.3; SunSpec Device Information Model Specification, model definitions.
use Rattle.std.specs.Prelude.{◌≡◌, ℕ, List, [], ◌∷◌, Some, slice_get}
use Rattle.model_defs.specs.Definition.{IsTree}
use Rattle.model_defs.specs.declared.model.ModelDef.{ModelDef}
use Rattle.serde_json.specs.Data.{Data}
use Rattle.scan_code.specs.declared.image.Tag.{Tag}
use Rattle.site_model.specs.Told.{IsTold}
use Rattle.site_model.specs.declared.site.Site.{Site}
use Rattle.site_model.specs.declared.tag.SiteTag.{SiteTag}
use Rattle.il_assemble.specs.Elaboration.{program_of, scope_of}
use Rattle.il_assemble.specs.Meaning.{Program}
use Rattle.il_reader.specs.declared.tree.Program.{Program as Tree}
use Rattle.il_reader.specs.Grammar.{IsProgramText}
use Rattle.verifier.specs.Links.{is_stored}
use Rattle.verifier.specs.declared.tag_link.TagLink.{TagLink}
use Rattle.commands.specs.Defined.{all_texts}
use Rattle.commands.specs.Modelled.{IsModelOf}

-- ---- a program

-- by the grammar, with its names resolved, its literals typed and its lines numbered
pub record Spells (text : List ℕ) (p : Program) : Type 0 where
  pub tree : Tree
  pub spelled : IsProgramText text tree
  pub resolved : p ≡ program_of (scope_of tree)

-- ---- a site

-- a definition's text, which is JSON
abbrev pub Defines : List ℕ → ModelDef → Type 0
Defines text model = (tree : Data) × IsTree text tree × IsModelOf tree model

abbrev pub DefineAll : List (List ℕ) → List ModelDef → Type 0
DefineAll [] [] = Unit {0}
DefineAll [] (model ∷ models) = ⊥
DefineAll (text ∷ texts) [] = ⊥
DefineAll (text ∷ texts) (model ∷ models) = Defines text model × DefineAll texts models

-- over the definitions that are shipped and after them those of the texts
pub record Describes (text : List ℕ) (texts : List (List ℕ)) (site : Site) : Type 0 where
  pub models : List ModelDef
  pub defined : DefineAll (all_texts texts) models
  pub told : IsTold models text site

-- ---- the tags that a program names

-- its link is to the site's tag of its name and type, and it is stored just where programs store that one
pub record IsTagOf (tags : List SiteTag) (tag : Tag) (link : TagLink) : Type 0 where
  pub there : slice_get tags link.number ≡ Some link.site
  pub name : link.site.name ≡ tag.name
  pub kind : link.site.kind ≡ tag.kind
  pub stored : is_stored link.site.access ≡ tag.output

abbrev pub AreTagsOf : List SiteTag → List Tag → List TagLink → Type 0
AreTagsOf site [] [] = Unit {0}
AreTagsOf site [] (link ∷ links) = ⊥
AreTagsOf site (tag ∷ tags) [] = ⊥
AreTagsOf site (tag ∷ tags) (link ∷ links) = IsTagOf site tag link × AreTagsOf site tags links
