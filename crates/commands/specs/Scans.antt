-- inner: how the loop over a link keeps its scans, and the site run that they are.
-- IEC 61131-3 edition 2, 3.2 (one scan after another); MODBUS Messaging on TCP/IP Implementation Guide, section 4.2.
use Rattle.std.specs.Prelude.{◌≡◌, ◌⊎◌, ℕ, ◌<◌, List, [], ◌∷◌, ◌++◌, length, map, Option}
use Rattle.std.specs.Io.KnownBytes.{Appends}
use Rattle.modbus_frame.specs.declared.link.LinkFault.{LinkFault}
use Rattle.register_map.specs.Layout.{Layout}
use Rattle.site_model.specs.declared.site.Site.{Site}
use Rattle.il_assemble.specs.Meaning.{Program}
use Rattle.scan_code.specs.Table.{start_of}
use Rattle.scan_vm.specs.Machine.{opened}
use Rattle.verifier.specs.Verified.{Acceptance, IsVerified}
use Rattle.gateway.specs.event_core.Control.{IsPlanned, after_wait, steps_of}
use Rattle.gateway.specs.event_core.Core.{Gateway, IsSame, gateway_of}
use Rattle.gateway.specs.event_core.Driving.{TakesEvent}
use Rattle.gateway.specs.poller.Cycle.{RunsTo, Scans, StopsBehind, StopsTaking}
use Rattle.gateway.specs.poller.Finding.{FindsAll}
use Rattle.gateway.specs.poller.Polling.{Polling}
use Rattle.gateway.specs.event_core.SiteRun as run
use Rattle.gateway.specs.declared.poller.cycle.Report.{Report}
use Rattle.gateway.specs.declared.event_core.event.Answer.{Answer}
use Rattle.gateway.specs.declared.event_core.event.Event.{Event}
use Rattle.gateway.specs.declared.event_core.event.Event.TheVariants as event
use Rattle.commands.specs.Accepted.{Accepts, most_deferred}
use Rattle.commands.specs.Clients.{AreOfClients}
use Rattle.commands.specs.Headline.{IsAccepted, RunsProgram}
use Rattle.commands.specs.Meant.{AdvancesAsMeant, RunsAsMeant}
use Rattle.commands.specs.Printed.{AreAllDone, IsLineLost, IsUnlinked, IsUnprinted}
use Rattle.commands.specs.Report.{scan_lines}
use Rattle.gateway.specs.poller.Telling.{scan_line}
use Rattle.commands.specs.Series.{Series}
use Rattle.commands.specs.Sources.{HasTexts}
use Rattle.commands.specs.declared.pace.RunPace.{RunPace}

-- ---- scans, one after another

-- `Steps` says what an event does to the core; so many milliseconds lie between two scans, and clients ask or not.
module _ (Steps : Gateway → Event → Answer → Gateway → Type 0) (pace : RunPace) where
  -- A whole scan over a link: clients asked, so much time went by, the core took what came of the wanted blocks, and then the
  -- scan; and what it then plans went out.
  abbrev pub IsWhole : Polling → Gateway → Polling → Gateway → Report → List Event → Type 0
  IsWhole p s q t report events =
      (heard : Gateway) × (asked : List Event) × AreOfClients pace.asked asked × RunsTo Steps s asked heard
      × (scan : Scans Steps IsPlanned steps_of heard.site heard.maps p (after_wait pace.every heard) q t report) × (events ≡ asked ++ (event.Time pace.every ∷ ((scan.taken).events ++ event.Scan ∷ [])))

  -- whole scans, with the events of them all
  abbrev pub AreScans : Polling → Gateway → List Report → List Event → Polling → Gateway → Type 0
  AreScans p s [] events q t = (events ≡ []) × (q ≡ p) × (t ≡ s)
  AreScans p s (report ∷ reports) events q t =
      (middle : Polling) × (between : Gateway) × (own : List Event) × (more : List Event)
      × (events ≡ own ++ more) × IsWhole p s middle between report own × AreScans middle between reports more q t

  -- A scan at which the link failed, at a read or at a write, with the events that the core took so far.
  abbrev pub IsBroken : Polling → Gateway → LinkFault → Polling → Gateway → List Event → Type 0
  IsBroken p s fault q t events =
      (heard : Gateway) × (asked : List Event) × AreOfClients pace.asked asked × RunsTo Steps s asked heard
      × (((stop : StopsTaking Steps heard.site heard.maps p (after_wait pace.every heard) fault q t) × (events ≡ asked ++ (event.Time pace.every ∷ (stop.taken).events)))
      ⊎ ((stop : StopsBehind Steps IsPlanned heard.site heard.maps p (after_wait pace.every heard) fault q t) × (events ≡ asked ++ (event.Time pace.every ∷ ((stop.taken).events ++ event.Scan ∷ [])))))

-- ---- how they end

-- The link failed at the next scan, which took these events so far; the lines of all scans before it are printed.
pub record IsLinkLost (Steps : Gateway → Event → Answer → Gateway → Type 0) (pace : RunPace) (reports : List Report) (events : List Event) (p : Polling) (s : Gateway) (q : Polling) (t : Gateway) (old new : Option (List ℕ)) (status : ℕ) : Type 0 where
  pub within : length reports < pace.scans
  pub fault : LinkFault
  pub broken : IsBroken Steps pace p s fault q t events
  pub written : Option (List ℕ)
  pub printed : Appends old written (scan_lines 1 reports)
  pub told : IsUnlinked fault written new status

-- the series of scans with these reports, of which at most n were to be done
abbrev pub series_of : ℕ → List Report → Polling → Gateway → Polling → Gateway → Option (List ℕ) → Option (List ℕ) → ℕ → Series
series_of n reports p s q t old new status = record {
  most = n;
  reports = reports;
  last = record { link = p; core = s };
  left = record { link = q; core = t };
  out_before = old;
  out_behind = new;
  status = status;
}

abbrev pub End : (Gateway → Event → Answer → Gateway → Type 0) → RunPace → List Report → List Event → Polling → Gateway → Polling → Gateway → Option (List ℕ) → Option (List ℕ) → ℕ → Type 0
End Steps pace reports events p s q t old new status =
    ((events ≡ []) × AreAllDone (series_of pace.scans reports p s q t old new status))
    ⊎ ((events ≡ []) × IsLineLost (series_of pace.scans reports p s q t old new status))
    ⊎ IsLinkLost Steps pace reports events p s q t old new status

-- At most so many scans, so far apart, with all their events, what is printed of them, and the status.
pub record DoesScans (Steps : Gateway → Event → Answer → Gateway → Type 0) (pace : RunPace) (p : Polling) (s : Gateway) (events : List Event) (q : Polling) (t : Gateway) (old new : Option (List ℕ)) (status : ℕ) : Type 0 where
  pub reports : List Report
  pub before : List Event
  pub behind : List Event
  pub split : events ≡ before ++ behind
  pub middle : Polling
  pub between : Gateway
  pub whole : AreScans Steps pace p s reports before middle between
  pub end : End Steps pace reports behind middle between q t old new status

abbrev pub LeavesOff : RunPace → Polling → Gateway → Polling → Gateway → Option (List ℕ) → Option (List ℕ) → ℕ → Type 0
LeavesOff pace p s q t old new status = (events : List Event) × DoesScans (TakesEvent most_deferred) pace p s events q t old new status

-- ---- one scan

-- Its line is printed.
abbrev pub IsPrinted : RunPace → (k : ℕ) → Polling → Gateway → Polling → Gateway → Option (List ℕ) → Option (List ℕ) → Type 0
IsPrinted pace k p s q t old new = (report : Report) × (events : List Event) × IsWhole (TakesEvent most_deferred) pace p s q t report events × Appends old new (scan_line k report)

-- Its line isn't printed, or the link failed: no scan comes after it.
abbrev pub IsLast : RunPace → (k : ℕ) → Polling → Gateway → Polling → Gateway → Option (List ℕ) → Option (List ℕ) → ℕ → Type 0
IsLast pace k p s q t old new status =
    ((report : Report) × (events : List Event) × IsWhole (TakesEvent most_deferred) pace p s q t report events × IsUnprinted k report old new status)
    ⊎ ((fault : LinkFault) × (events : List Event) × IsBroken (TakesEvent most_deferred) pace p s fault q t events × IsUnlinked fault old new status)

-- ---- the whole

-- From the opening of the site and the program that were given, at most so many scans are done, one after another, so far apart,
-- with what clients asked between them: each on the readings of the blocks that came, without a trap and within the budget, with the variables and outputs that the program
-- means on them; and what went out for its outputs are the set points of just these. The core stands at the site run of
-- all their events.
pub record RunsScans (site_text program_text : List ℕ) (texts : List (List ℕ)) (pace : RunPace) (p q : Polling) (old new : Option (List ℕ)) (core : Gateway) (status : ℕ) : Type 0 where
  pub site : Site
  pub program : Program
  pub accepted : Acceptance
  pub accepts : Accepts site_text program_text texts site program accepted
  pub maps : List (Option Layout)
  pub between : Polling
  pub found : FindsAll site.devices p maps between
  pub events : List Event
  pub scans : DoesScans (AdvancesAsMeant program) pace between (gateway_of site maps (opened accepted)) events q core old new status
  pub answers : List Answer
  pub runs : RunsAsMeant program site accepted (run.opened site (map start_of accepted.image.vars)) events answers core.standing
  pub same : IsSame (gateway_of site maps (opened accepted)) core

-- The parts of the headline say all of this, with the clause `texts`, of a core's program (that it was verified is said of each one).
abbrev pub PartsAreTheRun : Type 0
PartsAreTheRun =
    (site program : List ℕ) (texts : List (List ℕ)) (pace : RunPace) (p q : Polling) (old new : Option (List ℕ)) (core : Gateway) (status : ℕ)
    → IsVerified most_deferred core.machine.accepted → HasTexts site program texts core.site core.machine.accepted
    → IsAccepted site program texts core.site core.machine.accepted
    → RunsProgram program pace (record { link_before = p; link_behind = q; out_before = old; out_behind = new; status = status }) core
    → RunsScans site program texts pace p q old new core status
