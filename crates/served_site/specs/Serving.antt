-- What each scan of a service is, from the texts of its site and its program.
-- IEC 61131-3 edition 2, 3.2 (instruction list; one scan after another).
use Rattle.std.specs.Prelude.{◌≡◌, ℕ, ℤ, List, Option}
use Rattle.site_model.specs.declared.site.Site.{Site}
use Rattle.point_types.specs.declared.reading.Reading.{Reading}
use Rattle.scan_code.specs.Machine.{State}
use Rattle.scan_vm.specs.Resuming.{resumed}
use Rattle.il_assemble.specs.Meaning.{Program}
use Rattle.verifier.specs.Verified.{Acceptance, HasLinks}
use Rattle.gateway.specs.event_core.Core.{gateway_of, numbers_of}
use Rattle.gateway.specs.event_core.SiteRun.{Standing, after_time, none_of, scanned}
use Rattle.service.specs.Blocks.{IsOfWhatWasTold}
use Rattle.service.specs.Rounds.{ArePlanned, since}
use Rattle.service.specs.Stages.{Adopts, IsFirst, RunStep, Scans, Stage}
use Rattle.commands.specs.Accepted.{Accepts}
use Rattle.commands.specs.OneScan.{IsMeant, IsSafe}

-- Before its first round: nothing is known or set, no device has a map, and each variable of the program begins with what was
-- kept of it, in its declared range, or else with its start value.
pub record IsStart (site : Site) (a : Acceptance) (kept : List (Option ℤ)) (s : Stage) : Type 0 where
  pub core : s.core ≡ gateway_of site (none_of site.devices) (resumed a kept)
  pub first : IsFirst s

-- A service of the site of a text, whose programs were all accepted for it: begun with one, goes on by steps of its own and of its
-- clients, and takes others, each for the one before and with whatever numbers its variables are to begin with. The program that
-- it runs now is p, by the acceptance a.
pub data Serves (site_text : List ℕ) (texts : List (List ℕ)) (site : Site) : Program → Acceptance → Stage → Type 0 where
  starts : (text : List ℕ) (p : Program) (a : Acceptance) → Accepts site_text text texts site p a → HasLinks site.tags a.links → (kept : List (Option ℤ)) (first : Stage) → IsStart site a kept first → Serves site_text texts site p a first
  goes : {p : Program} {a : Acceptance} {s : Stage} → Serves site_text texts site p a s → (t : Stage) → RunStep s t → Serves site_text texts site p a t
  takes : {p : Program} {a : Acceptance} {s : Stage} → Serves site_text texts site p a s → (text : List ℕ) (q : Program) (b : Acceptance) → Accepts site_text text texts site q b
      → (kept : List (Option ℤ)) (t : Stage) → Adopts (resumed b kept) s t → Serves site_text texts site q b t

-- how a core stands at a scan at this time of the service: the time since the scan before went by, and what clients set
-- lapsed by it
abbrev pub at_scan : ℕ → Stage → Standing
at_scan now s = after_time s.core.site (since s.round.at now) s.core.standing

-- A scan from the one stage to the other, at this time of the service, of what was told last of each wanted block, a few scans ago
-- at most.
-- As in `run` it is safe, and computes what the program means; and for each output just what is due is to be written.
pub record IsScanOf (site : Site) (p : Program) (a : Acceptance) (now : ℕ) (old new : Stage) : Type 0 where
  pub same_site : old.core.site ≡ site
  pub same_program : old.core.machine.accepted ≡ a
  pub blocks : IsOfWhatWasTold old
  pub readings : List Reading
  pub steps : ℕ
  pub end : State
  pub safe : IsSafe site a readings old.core.standing.variables steps end
  pub means : IsMeant site a p (at_scan now old) readings end
  pub leaves : new.core.standing ≡ scanned site (numbers_of a) (at_scan now old) readings steps end
  pub planned : ArePlanned new.core old.round.told old.round.writes new.round.writes

-- Whatever a service of accepted programs does, each of its scans is so, of the program that it runs then.
abbrev pub ScansMeanTheProgram : Type 0
ScansMeanTheProgram = (site_text : List ℕ) (texts : List (List ℕ)) (site : Site) (p : Program) (a : Acceptance) (old new : Stage) (now : ℕ)
    → Serves site_text texts site p a old → Scans now old new → IsScanOf site p a now old new
