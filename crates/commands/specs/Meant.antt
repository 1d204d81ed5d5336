-- The site run of a program whose scans do what the program means.
-- IEC 61131-3 edition 2, 3.2 (instruction list; one scan after another).
use Rattle.std.specs.Prelude.{◌≡◌, List, [], ◌∷◌, length, map}
use Rattle.site_model.specs.declared.site.Site.{Site}
use Rattle.il_assemble.specs.Meaning.{Program, Done, meaning}
use Rattle.verifier.specs.Verified.{Acceptance}
use Rattle.gateway.specs.event_core.Core.{Gateway, IsSame, numbers_of}
use Rattle.gateway.specs.event_core.Driving.{Drives}
use Rattle.gateway.specs.event_core.SiteRun.{IsScan, Standing, Steps, reading_at}
use Rattle.gateway.specs.declared.event_core.event.Answer.{Answer}
use Rattle.gateway.specs.declared.event_core.event.Answer.TheVariants as answer
use Rattle.gateway.specs.declared.event_core.event.Event.{Event}
use Rattle.gateway.specs.declared.event_core.event.Event.TheVariants as event
use Rattle.commands.specs.Accepted.{most_deferred}

-- On what is known and set the scan ends without a trap and within the budget, and leaves the variables and the outputs
-- that the program means on this scan's readings.
pub record IsMeantScan (p : Program) (site : Site) (a : Acceptance) (s t : Standing) : Type 0 where
  pub scan : IsScan site a.image (numbers_of a) a.budget s t
  pub means : meaning p (map (reading_at scan.readings) (numbers_of a)) s.variables ≡ Done (scan.end).variables (scan.end).outputs

-- one event of the site run
abbrev pub StepsAsMeant : Program → Site → Acceptance → Standing → Event → Answer → Standing → Type 0
StepsAsMeant p site a s event.Scan r t = (r ≡ answer.Writes (length site.outs)) × IsMeantScan p site a s t
StepsAsMeant p site a s (event.Block want words) r t = Steps site a.image (numbers_of a) a.budget s (event.Block want words) r t
StepsAsMeant p site a s (event.Lost want) r t = Steps site a.image (numbers_of a) a.budget s (event.Lost want) r t
StepsAsMeant p site a s (event.Time ms) r t = Steps site a.image (numbers_of a) a.budget s (event.Time ms) r t
StepsAsMeant p site a s (event.Client pdu) r t = Steps site a.image (numbers_of a) a.budget s (event.Client pdu) r t

-- one event at a core: the site run's step, a scan as the program means it, what it does to the machine, and nothing else changes
abbrev pub AdvancesAsMeant : Program → Gateway → Event → Answer → Gateway → Type 0
AdvancesAsMeant p old e r new = StepsAsMeant p old.site old.machine.accepted old.standing e r new.standing × IsSame old new × Drives most_deferred old e new

-- events, one after another, with their answers in order
abbrev pub RunsAsMeant : Program → Site → Acceptance → Standing → List Event → List Answer → Standing → Type 0
RunsAsMeant p site a s [] answers t = (answers ≡ []) × (t ≡ s)
RunsAsMeant p site a s (e ∷ es) answers t =
    (r : Answer) × (rest : List Answer) × (next : Standing) × StepsAsMeant p site a s e r next × (answers ≡ r ∷ rest) × RunsAsMeant p site a next es rest t
