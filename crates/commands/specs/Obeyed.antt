-- What comes of a command, by its own texts: what is printed and the status, and over a link what is asked and left.
-- IEC 61131-3 edition 2, 3.2; SunSpec Device Information Model Specification, model definitions and models in Modbus registers.
use Rattle.std.specs.Prelude.{◌≡◌, ◌⊎◌, ℕ, List, map, string_bytes, Option, None, Some, Ok}
use Rattle.model_defs.specs.declared.model.ModelDef.{ModelDef}
use Rattle.modbus_frame.specs.declared.link.LinkFault.{LinkFault}
use Rattle.site_model.specs.declared.site.Site.{Site}
use Rattle.il_assemble.specs.Correct.{DoesWhatItMeans}
use Rattle.il_assemble.specs.Meaning.{Program}
use Rattle.verifier.specs.Safe.{NeverGoesWrong}
use Rattle.verifier.specs.Verdict.{judged}
use Rattle.verifier.specs.Verified.{Acceptance}
use Rattle.gateway.specs.event_core.Core.{Gateway}
use Rattle.gateway.specs.poller.Polling.{Polling}
use Rattle.commands.specs.declared.obeyed.TextCommand.{TextCommand}
use Rattle.commands.specs.declared.obeyed.TextCommand.TheVariants.{Check, Explain, Trial}
use Rattle.commands.specs.declared.obeyed_over.LinkCommand.{LinkCommand}
use Rattle.commands.specs.declared.obeyed_over.LinkCommand.TheVariants.{Probe, Run}
use Rattle.commands.specs.Accepted.{TellsUndefined, most_deferred}
use Rattle.commands.specs.Check.{IsCheck, PrintsAccepted}
use Rattle.commands.specs.Defined.{AreDefined}
use Rattle.commands.specs.Explained.{IsExplained}
use Rattle.commands.specs.Headline.{IsAccepted, RunsProgram}
use Rattle.commands.specs.declared.pace.RunPace.{RunPace}
use Rattle.commands.specs.Opening.{IsRefused}
use Rattle.commands.specs.Outcome.{IsTrial}
use Rattle.commands.specs.Printed.{IsUnlinked}
use Rattle.commands.specs.Probe.{IsProbe}
use Rattle.commands.specs.Report.{no_memory_line}
use Rattle.commands.specs.Sources.{HasTexts}
use Rattle.commands.specs.Told.{IsTold, Told, refused_with}

-- ---- texts alone

-- the verdict accepts the code, no scan of it goes wrong, and it does what the program means
pub record IsSound (site : Site) (p : Program) (a : Acceptance) : Type 0 where
  pub judged : judged a.image site.tags most_deferred ≡ Ok a.budget
  pub safe : NeverGoesWrong a
  pub means : DoesWhatItMeans p a.image

-- what `check` prints of these texts; with status 0 it is `accepted`, of a program that is sound
pub record Checks (site program : List ℕ) (texts : List (List ℕ)) (old new : Option (List ℕ)) (status : ℕ) : Type 0 where
  pub told : IsCheck site program texts old new status
  pub sound : status ≡ 0 → PrintsAccepted site program texts old new IsSound

-- by the command
abbrev pub Obeys : TextCommand → Option (List ℕ) → Option (List ℕ) → ℕ → Type 0
Obeys (Trial input) old new status = IsTrial input.now old new status
Obeys (Check site program defs) old new status = Checks site.now program.now (map string_bytes defs.now) old new status
Obeys (Explain site program defs) old new status = IsExplained site.now program.now (map string_bytes defs.now) old new status

-- ---- over a link

-- at most so many scans of the program of these texts, so far apart, which is accepted for the site; or what is told where there is no core
abbrev pub Runs : List ℕ → List ℕ → List (List ℕ) → RunPace → Polling → Polling → Option (List ℕ) → Option (List ℕ) → Option Gateway → ℕ → Type 0
Runs site program texts n p q old new (Some core) status =
    HasTexts site program texts core.site core.machine.accepted × IsAccepted site program texts core.site core.machine.accepted
    × RunsProgram program n (record { link_before = p; link_behind = q; out_before = old; out_behind = new; status = status }) core
Runs site program texts n p q old new None status = IsRefused site program texts p q old new status

-- a link that works is probed; of one that failed the fault is told, and nothing is asked
abbrev pub ProbesOver : Option LinkFault → ℕ → List ModelDef → Polling → Polling → Option (List ℕ) → Option (List ℕ) → ℕ → Type 0
ProbesOver None unit models p q old new status = IsProbe unit models p old q new status
ProbesOver (Some fault) unit models p q old new status = IsUnlinked fault old new status × (q ≡ p)

-- the first text that is no definition is told, or that memory was refused
abbrev pub TellsNoModels : List (List ℕ) → Option (List ℕ) → Option (List ℕ) → ℕ → Type 0
TellsNoModels texts old new status = (told : Told) × (TellsUndefined texts told ⊎ (told ≡ refused_with no_memory_line)) × IsTold old new told status

-- by the shipped definitions and those of the texts; where these are none, nothing is asked
abbrev pub ProbesBy : ℕ → List (List ℕ) → Polling → Polling → Option (List ℕ) → Option (List ℕ) → ℕ → Type 0
ProbesBy unit texts p q old new status =
    ((models : List ModelDef) × AreDefined texts models × ProbesOver p.fault unit models p q old new status)
    ⊎ ((q ≡ p) × TellsNoModels texts old new status)

-- by the command, with the core after its scans
abbrev pub ObeysOver : LinkCommand → Polling → Polling → Option (List ℕ) → Option (List ℕ) → Option Gateway → ℕ → Type 0
ObeysOver (Run site program defs n) p q old new core status = Runs site.now program.now (map string_bytes defs.now) n p q old new core status
ObeysOver (Probe unit defs) p q old new core status = ProbesBy unit (map string_bytes defs.now) p q old new status
