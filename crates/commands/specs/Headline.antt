-- Whatever words the devices answer and over any number of scans, a program accepted against the site's models never meets an
-- operand of the wrong type, an overflow, a zero divisor, a missing point or a jump out of its code; each scan ends within the
-- printed number of instructions, computes what Instruction List means, and writes only writable points, with values in their
-- stated ranges.
-- Accepted: `IsAccepted`. Safe, within the number: `IsSafe` and `IsShallow`. Means: `IsMeant`. Writes: `Writes`. Told: `Tells`.
-- IEC 61131-3 edition 2, 3.2 (instruction list; one scan after another); MODBUS Messaging on TCP/IP Implementation Guide, section 4.2.
use Rattle.std.specs.Prelude.{◌≡◌, ◌≢◌, ℕ, ◌≤◌, List, [], length, map, count_by}
use Rattle.modbus_frame.specs.declared.link.LinkFault.{LinkFault}
use Rattle.site_model.specs.declared.site.Site.{Site}
use Rattle.scan_code.specs.Machine.{State, Unfinished}
use Rattle.scan_vm.specs.Machine as vm
use Rattle.il_assemble.specs.Meaning.{Program}
use Rattle.verifier.specs.Safe.{NeverGoesWrong}
use Rattle.verifier.specs.Verified.{Acceptance}
use Rattle.gateway.specs.event_core.Control.{IsDue, Notes, after_scan}
use Rattle.gateway.specs.event_core.Core.{Gateway, gateway_of}
use Rattle.gateway.specs.poller.Cycle.{ArePlans, TakesBlocks, Turn, WritesInTurn, is_refused}
use Rattle.gateway.specs.poller.Finding.{FindsAll}
use Rattle.gateway.specs.poller.LinkRun.{Exchange}
use Rattle.gateway.specs.poller.Polling.{Polling, Talks}
use Rattle.commands.specs.Accepted.{most_deferred}
use Rattle.commands.specs.OneScan.{IsMeant, IsSafe, run_of}
use Rattle.commands.specs.Described.{AreTagsOf, Describes, Spells}
use Rattle.commands.specs.Printed.{AreAllDone, EndsEarly}
use Rattle.commands.specs.Clients.{ClientsAsk}
use Rattle.commands.specs.Series.{AreInOrder, Course, Moment, Scan, Series, at_core, waited}
use Rattle.commands.specs.Stopped.{StopsScan}
use Rattle.commands.specs.declared.pace.RunPace.{RunPace}

-- the site is the one that its text describes, the program the one that its text spells; the image has the program's variables
-- and tags, each of which is the site's tag of its name (that its code is the program's too stands in the clause `texts`)
pub record IsFor (site_text program_text : List ℕ) (texts : List (List ℕ)) (site : Site) (p : Program) (a : Acceptance) : Type 0 where
  pub described : Describes site_text texts site
  pub spelled : Spells program_text p
  pub variables : a.image.vars ≡ p.variables
  pub tags : a.image.tags ≡ p.tags
  pub linked : AreTagsOf site.tags p.tags a.links

-- no scan of this program on this site goes wrong, whatever the readings
pub record IsAccepted (site_text program_text : List ℕ) (texts : List (List ℕ)) (site : Site) (a : Acceptance) : Type 0 where
  pub program : Program
  pub is_for : IsFor site_text program_text texts site program a
  pub safe : NeverGoesWrong a

-- the values that the scan ever defers, after however many instructions, are never more than fit
abbrev pub IsShallow : Acceptance → Scan → Type 0
IsShallow a scan = (n : ℕ) (s : State) → run_of a scan.readings ((scan.taken).core).standing.variables n ≡ Unfinished s → length s.deferred ≤ most_deferred

-- in turn, for each output its tag's set point goes out where it has one, and nothing else does: first for those that go with no
-- other one, in the site's order, and after one that was acknowledged for those that go with it; these are left
pub record Writes (site : Site) (left : List ℕ) (scan : Scan) : Type 0 where
  pub turns : List Turn
  pub set_points : ArePlans IsDue site (scan.behind).core turns
  pub calls : List Exchange
  pub in_turn : WritesInTurn site turns calls left
  pub went : Talks (scan.taken).link calls (scan.behind).link
  pub sent : (scan.report).writes ≡ length calls
  pub refused : (scan.report).refused ≡ count_by is_refused calls

-- what comes of the wanted blocks is taken, the program runs once and the core is left at that, and then its outputs go out, but for those that are left
pub record DoesScan (site : Site) (a : Acceptance) (p : Program) (left : List ℕ) (scan : Scan) : Type 0 where
  pub takes : TakesBlocks Notes site ((scan.before).core).maps site.wants (scan.before).link (scan.before).core (scan.taken).link (scan.taken).core (scan.report).lost
  pub safe : IsSafe site a scan.readings ((scan.taken).core).standing.variables (scan.report).steps scan.end
  pub shallow : IsShallow a scan
  pub means : IsMeant site a p ((scan.taken).core).standing scan.readings scan.end
  pub leaves : (scan.behind).core ≡ after_scan (scan.taken).core scan.readings (scan.report).steps scan.end
  pub writes : Writes site left scan

-- with status 0 all scans were done, each with its line; else the run ended early: a line was lost, or the link failed
pub record Tells (Fails : Moment → LinkFault → Moment → Type 0) (series : Series) : Type 0 where
  pub well : series.status ≡ 0 → AreAllDone series
  pub badly : series.status ≢ 0 → EndsEarly Fails series

-- the link fails at a scan that begins so, once clients asked and time went by
abbrev pub StopsAfter : RunPace → (List ℕ → Scan → Type 0) → Site → Moment → LinkFault → Moment → Type 0
StopsAfter pace Does site first fault last = (heard : Gateway) × ClientsAsk pace.asked first.core heard × StopsScan Does site (waited pace.every (at_core first heard)) fault last

-- from this start on, with the maps that were found, at most so many scans are done, one after another, so far apart
pub record DoesRun (start : Gateway) (program_text : List ℕ) (pace : RunPace) (course : Course) (core : Gateway) : Type 0 where
  pub program : Program
  pub spelled : Spells program_text program
  pub found_by : Polling
  pub found : FindsAll (start.site).devices course.link_before start.maps found_by
  pub scans : List Scan
  pub last : Moment
  pub done : AreInOrder pace (DoesScan start.site (start.machine).accepted program []) (record { link = found_by; core = start }) scans last
  pub told : Tells (StopsAfter pace (DoesScan start.site (start.machine).accepted program) start.site) (record {
    most = pace.scans;
    reports = map (λ (scan : Scan). scan.report) scans;
    last = last;
    left = record { link = course.link_behind; core = core };
    out_before = course.out_before;
    out_behind = course.out_behind;
    status = course.status;
  })

-- of the core's own site, program and maps
abbrev pub RunsProgram : List ℕ → RunPace → Course → Gateway → Type 0
RunsProgram program_text pace course core = DoesRun (gateway_of core.site core.maps (vm.opened core.machine.accepted)) program_text pace course core
