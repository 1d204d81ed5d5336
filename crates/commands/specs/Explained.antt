-- What `explain` tells: of a program that is accepted the status 0, and else what `check` tells of the first refusal, after other lines.
-- Which lines these are, and those of a program that is accepted, isn't said.
use Rattle.std.specs.Prelude.{◌≡◌, ◌≢◌, ◌⊎◌, ℕ, List, ◌++◌, Option, Result, Ok, Err}
use Rattle.model_defs.specs.declared.model.ModelDef.{ModelDef}
use Rattle.site_model.specs.declared.site.Site.{Site}
use Rattle.scan_code.specs.Image.{Image}
use Rattle.il_reader.specs.declared.fault.ReadFault.{ReadFault}
use Rattle.il_reader.specs.declared.tree.Program.{Program as Tree}
use Rattle.verifier.specs.Verified.{Acceptance}
use Rattle.facts.specs.Word as verify
use Rattle.facts.specs.declared.refusal.RefusedAt.{RefusedAt}
use Rattle.facts.specs.declared.refusal.RefusalKind.{RefusalKind}
use Rattle.facts.specs.declared.refusal.RefusalKind.TheVariants as refusal
use Rattle.commands.specs.declared.accepted.Accepted.{Accepted}
use Rattle.commands.specs.Accepted.{Gives, GivesSite, GivesVerdict, GivesVerified}
use Rattle.commands.specs.Report.{no_memory_line, unverified_line}
use Rattle.commands.specs.Told.{IsTold, Told, refused_with}

-- a refusal's lines are the last ones, and the status is its
pub record EndsBy (refused told : Told) : Type 0 where
  pub before : List ℕ
  pub lines : told.lines ≡ before ++ refused.lines
  pub status : told.status ≡ refused.status

-- of what is accepted, or what is told of the first refusal
abbrev pub Explains : {A : Type 0} → Result A Told → Told → Type 0
Explains (Ok accepted) told = told.status ≡ 0
Explains (Err refused) told = EndsBy refused told

abbrev pub ExplainsTexts : List ℕ → List ℕ → List (List ℕ) → Told → Type 0
ExplainsTexts site program texts told = (given : Result Accepted Told) × Gives site program texts given × Explains given told

-- what `explain` writes and its status, by the bytes of the writer before and after
abbrev pub IsExplained : List ℕ → List ℕ → List (List ℕ) → Option (List ℕ) → Option (List ℕ) → ℕ → Type 0
IsExplained site program texts old new status =
    (told : Told) × (ExplainsTexts site program texts told ⊎ (told ≡ refused_with no_memory_line)) × IsTold old new told status

-- ---- inner: the same of model definitions, a site, a program as it was read, and its image

abbrev pub ExplainsSite : List ModelDef → List ℕ → List ℕ → Told → Type 0
ExplainsSite models site program told = (given : Result Accepted Told) × GivesSite models site program given × Explains given told

abbrev pub ExplainsProgram : Site → Result Tree ReadFault → Told → Type 0
ExplainsProgram site tree told = (given : Result Acceptance Told) × GivesVerified site tree given × Explains given told

abbrev pub ExplainsImage : Site → Image → Told → Type 0
ExplainsImage site image told = (given : Result Acceptance Told) × GivesVerdict site image given × Explains given told

abbrev pub EndsRefused : RefusalKind → RefusedAt → Told → Type 0
EndsRefused kind at told = (kind ≢ refusal.OutOfMemory) × EndsBy (refused_with (unverified_line (verify.word_of kind) (verify.number_of at))) told
