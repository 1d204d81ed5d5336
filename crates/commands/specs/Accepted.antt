-- A program that is accepted for a site, and what is told of one that isn't.
-- SunSpec Device Information Model Specification, model definitions; IEC 61131-3 edition 2, 3.2.
use Rattle.std.specs.Prelude.{◌≡◌, ◌⊎◌, ℕ, List, Result, Ok, Err, map}
use Rattle.model_defs.specs.declared.fault.DefFault.{DefFault}
use Rattle.model_defs.specs.declared.model.ModelDef.{ModelDef}
use Rattle.model_defs.specs.Fault as definition
use Rattle.site_model.specs.File.{Layout, site_in}
use Rattle.site_model.specs.Fault as site
use Rattle.site_model.specs.Views.{site_view}
use Rattle.site_model.specs.TagView.{tag_view}
use Rattle.site_model.specs.declared.fault.SiteFault.{SiteFault}
use Rattle.site_model.specs.declared.site.Site.{Site}
use Rattle.site_model.specs.declared.tag.SiteTag.{SiteTag}
use Rattle.scan_code.specs.Image.{Image}
use Rattle.il_assemble.specs.declared.fault.AsmFault.{AsmFault}
use Rattle.il_assemble.specs.Code.{image_of}
use Rattle.il_assemble.specs.Correct.{DoesWhatItMeans}
use Rattle.il_assemble.specs.Elaboration.{elaborated}
use Rattle.il_assemble.specs.Meaning.{Program}
use Rattle.il_assemble.specs.Texts.{elaborated_text}
use Rattle.il_assemble.specs.Word as assemble
use Rattle.il_reader.specs.declared.fault.ReadFault.{ReadFault}
use Rattle.il_reader.specs.declared.tree.Program.{Program as Tree}
use Rattle.il_reader.specs.Fault as read
use Rattle.il_reader.specs.Reading.{reading}
use Rattle.verifier.specs.Links.{links_from}
use Rattle.verifier.specs.Safe.{NeverGoesWrong}
use Rattle.verifier.specs.Verdict.{judged}
use Rattle.verifier.specs.Verified.{Acceptance}
use Rattle.facts.specs.Word as verify
use Rattle.facts.specs.declared.refusal.Refusal.{Refusal}
use Rattle.commands.specs.declared.accepted.Accepted.{Accepted}
use Rattle.commands.specs.Defined.{AreDefined, IsUndefined}
use Rattle.commands.specs.Told.{Told, refused_with}
use Rattle.commands.specs.Report.{bad_definition_line, bad_site_line, unassembled_line, unread_line, unverified_line}

-- how many values a program may defer
abbrev pub most_deferred : ℕ
most_deferred = 32

-- ---- what is accepted

-- An image that no scan on the site can go wrong with: its links are to the site's tags, its budget is the verdict's.
pub record IsAcceptedOn (site : Site) (image : Image) (a : Acceptance) : Type 0 where
  pub kept : a.image ≡ image
  pub linked : links_from site.tags 0 image.tags ≡ Ok a.links
  pub judged : judged image site.tags most_deferred ≡ Ok a.budget
  pub safe : NeverGoesWrong a

-- A program whose image does what the program means, and is accepted.
pub record IsAcceptedFor (site : Site) (tree : Tree) (p : Program) (a : Acceptance) : Type 0 where
  pub resolved : elaborated tree ≡ Ok p
  pub right : DoesWhatItMeans p (image_of p)
  pub accepted : IsAcceptedOn site (image_of p) a

-- The texts of a site and of a program, over the definitions that are shipped and after them those of the texts.
pub record Accepts (site_text program_text : List ℕ) (texts : List (List ℕ)) (site : Site) (p : Program) (a : Acceptance) : Type 0 where
  pub models : List ModelDef
  pub defined : AreDefined texts models
  pub located : site_in models site_text ≡ Ok (site_view site)
  pub tree : Tree
  pub read : reading program_text ≡ Ok tree
  pub accepted : IsAcceptedFor site tree p a

-- ---- what is told of a refusal

abbrev pub RefusesVerdict : Result ℕ Refusal → Told → Type 0
RefusesVerdict (Ok budget) told = ⊥
RefusesVerdict (Err refusal) told = told ≡ refused_with (unverified_line (verify.word_of refusal.kind) (verify.number_of refusal.at))

-- the verdict is on the program's image, for these tags of the site
abbrev pub RefusesAssembled : List SiteTag → Result Program AsmFault → Told → Type 0
RefusesAssembled tags (Ok program) told = RefusesVerdict (judged (image_of program) tags most_deferred) told
RefusesAssembled tags (Err fault) told = told ≡ refused_with (unassembled_line (assemble.word_of fault.kind) fault.line)

-- a program that is read has the faults that a text can have alone
abbrev pub RefusesProgram : List SiteTag → Result Tree ReadFault → Told → Type 0
RefusesProgram tags (Ok tree) told = RefusesAssembled tags (elaborated_text tree) told
RefusesProgram tags (Err fault) told = told ≡ refused_with (unread_line (read.word_of fault.kind) fault.line)

abbrev pub RefusesSite : Result Layout SiteFault → List ℕ → Told → Type 0
RefusesSite (Ok layout) program told = (tags : List SiteTag) × (layout.tags ≡ map tag_view tags) × RefusesProgram tags (reading program) told
RefusesSite (Err fault) program told = told ≡ refused_with (bad_site_line (site.fault_word fault))

-- by the definitions that are shipped, and after them those of the texts
abbrev pub RefusesDefined : List ℕ → List ℕ → List (List ℕ) → Told → Type 0
RefusesDefined site program texts told =
    (models : List ModelDef) × AreDefined texts models × RefusesSite (site_in models site) program told

abbrev pub TellsUndefined : List (List ℕ) → Told → Type 0
TellsUndefined texts told = (fault : DefFault) × IsUndefined texts fault × (told ≡ refused_with (bad_definition_line (definition.fault_word fault)))

-- first the definitions are looked at, then the site, then the program
abbrev pub Refuses : List ℕ → List ℕ → List (List ℕ) → Told → Type 0
Refuses site program texts told = RefusesDefined site program texts told ⊎ TellsUndefined texts told

-- ---- what is given: the site with the program that was accepted for it, or what is told

abbrev pub GivesVerdict : Site → Image → Result Acceptance Told → Type 0
GivesVerdict site image (Ok a) = IsAcceptedOn site image a
GivesVerdict site image (Err told) = RefusesVerdict (judged image site.tags most_deferred) told

abbrev pub AcceptsProgram : Site → Result Tree ReadFault → Acceptance → Type 0
AcceptsProgram site (Ok tree) a = (p : Program) × IsAcceptedFor site tree p a
AcceptsProgram site (Err fault) a = ⊥

abbrev pub GivesVerified : Site → Result Tree ReadFault → Result Acceptance Told → Type 0
GivesVerified site tree (Ok a) = AcceptsProgram site tree a
GivesVerified site tree (Err told) = RefusesProgram site.tags tree told

abbrev pub GivesProgram : Site → Result Tree ReadFault → Result Accepted Told → Type 0
GivesProgram site tree (Ok given) = (given.site ≡ site) × AcceptsProgram site tree given.verified
GivesProgram site tree (Err told) = RefusesProgram site.tags tree told

abbrev pub GivesSite : List ModelDef → List ℕ → List ℕ → Result Accepted Told → Type 0
GivesSite models site program (Ok given) = (site_in models site ≡ Ok (site_view given.site)) × AcceptsProgram given.site (reading program) given.verified
GivesSite models site program (Err told) = RefusesSite (site_in models site) program told

abbrev pub Gives : List ℕ → List ℕ → List (List ℕ) → Result Accepted Told → Type 0
Gives site program texts (Ok given) = (p : Program) × Accepts site program texts given.site p given.verified
Gives site program texts (Err told) = Refuses site program texts told
