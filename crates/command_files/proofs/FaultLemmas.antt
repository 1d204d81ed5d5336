-- Scans whose status is that of a link that failed leave a poller that keeps its fault.
use Rattle.std.proofs.Common.{◌≡◌, ◌≢◌, inl, inr, ℕ, List, length, Option, Some, None, IfSome, refl, sym, ap, ◌∙◌, subst, arith}
use Rattle.modbus_frame.specs.declared.link.LinkFault.{LinkFault}
use Rattle.modbus_frame.specs.declared.link.LinkFault.TheVariants as link
use Rattle.site_model.specs.declared.device.SiteDevice.{SiteDevice}
use Rattle.site_model.specs.declared.site.Site.{Site}
use Rattle.gateway.specs.declared.poller.cycle.Call.{Call}
use Rattle.gateway.specs.declared.poller.cycle.Report.{Report}
use Rattle.gateway.specs.event_core.Core.{Gateway}
use Rattle.gateway.specs.poller.Cycle.{StopsAt, read_of, write_of}
use Rattle.gateway.specs.poller.Polling.{Polling}
use Rattle.commands.specs.Headline.{DoesScan, Tells, StopsAfter}
use Rattle.commands.specs.Obeyed.{Runs}
use Rattle.commands.specs.Opening.{IsUnfound, TellsNoCore}
use Rattle.commands.specs.Printed.{EndsEarly, IsUnprinted, LineLost, LinkDown}
use Rattle.commands.specs.Report.{no_memory_line}
use Rattle.commands.specs.Series.{Moment, Scan, Series, at_core, waited}
use Rattle.commands.specs.declared.pace.RunPace.{RunPace}
use Rattle.commands.specs.Stopped.{StopsScan}
use Rattle.commands.specs.Told.{IsTold, Told, refused_with}
use Rattle.commands.proofs.CheckLemmas.{refused_status}

-- the poller keeps a fault
abbrev KeepsFault : Polling → Type 0
KeepsFault q = (fault : LinkFault) × (q.fault ≡ Some fault)

-- ---- what has status 1 hasn't status 3

not_failed : (old new : Option (List ℕ)) (told : Told) (status : ℕ) → told.status ≡ 1 → IsTold old new told status → status ≡ 3 → ⊥
not_failed old new told status one (inl h) three = let same = h.1 in omega (arith, one, same, three)
not_failed old new told status one (inr h) three = let same = h.1 in omega (arith, same, three)

not_lost : (k : ℕ) (report : Report) (old new : Option (List ℕ)) (status : ℕ) → IsUnprinted k report old new status → status ≡ 3 → ⊥
not_lost k report old new status (inl h) three = let same = h.1 in omega (arith, same, three)
not_lost k report old new status (inr h) three = not_failed old new (refused_with no_memory_line) status refl h three

-- ---- scans that end early

stops_at : (call : Option Call) (p : Polling) (fault : LinkFault) (q : Polling) → StopsAt call p fault q → KeepsFault q
stops_at None p fault q h = absurd h
stops_at (Some call) p fault q h = (fault, h.kept)

module _ (Does : List ℕ → Scan → Type 0) (site : Site) (pace : RunPace) where
  stops_scan : (first : Moment) (fault : LinkFault) (last : Moment) → StopsScan Does site first fault last → KeepsFault last.link
  stops_scan first fault last (inl h) = stops_at (read_of site (first.core).maps h.want) h.middle fault last.link h.stops
  stops_scan first fault last (inr h) = stops_at (write_of site.devices h.plan) ((h.scan).behind).link fault last.link h.stops

  ends_early : (series : Series) → EndsEarly (StopsAfter pace Does site) series → series.status ≡ 3 → KeepsFault (series.left).link
  ends_early series (LineLost h) three = absurd (not_lost (length series.reports) h.last h.written series.out_behind series.status h.told three)
  ends_early series (LinkDown h) three =
      let (heard, asks, stops) = h.failed in
      stops_scan (waited pace.every (at_core series.last heard)) h.fault series.left stops

  ended : (series : Series) → Tells (StopsAfter pace Does site) series → series.status ≡ 3 → KeepsFault (series.left).link
  ended series tells three = ends_early series (tells.badly (λ well. omega (arith, well, three))) three

-- ---- no scans

unfound : (kept : Option LinkFault) (devices : List SiteDevice) (p : Polling) (fault : LinkFault) (q : Polling) → p.fault ≡ kept → fault ≢ link.OutOfMemory → IsUnfound kept devices p fault q → KeepsFault q
unfound (Some kept) devices p fault q e real (is, same) = (kept, ap (λ (r : Polling). r.fault) same ∙ e)
unfound None devices p link.Read q e real h = (link.Read, (h.fails).kept)
unfound None devices p link.Write q e real h = (link.Write, (h.fails).kept)
unfound None devices p (link.Frame f) q e real h = (link.Frame f, (h.fails).kept)
unfound None devices p link.End q e real h = (link.End, (h.fails).kept)
unfound None devices p link.Turns q e real h = (link.Turns, (h.fails).kept)
unfound None devices p link.OutOfMemory q e real h = absurd (real refl)

module _ (p q : Polling) (old new : Option (List ℕ)) (told : Told) (status : ℕ) (tells : IsTold old new told status) (three : status ≡ 3) where
  unstarted : (site program : List ℕ) (texts : List (List ℕ)) → TellsNoCore site program texts p q told → KeepsFault q
  unstarted site program texts (inl (inl (refuses, same))) = absurd (not_failed old new told status (refused_status site program texts told refuses) tells three)
  unstarted site program texts (inl (inr (s, tree, a, accepts, inl (fault, real, h, is)))) = unfound p.fault s.devices p fault q refl real h
  unstarted site program texts (inl (inr (s, tree, a, accepts, inr (maps, found, foreign, is)))) = absurd (not_failed old new told status (ap (λ (t : Told). t.status) is) tells three)
  unstarted site program texts (inr (leaves, is)) = absurd (not_failed old new told status (ap (λ (t : Told). t.status) is) tells three)

failed_keeps : (site program : List ℕ) (texts : List (List ℕ)) (n : RunPace) (p q : Polling) (old new : Option (List ℕ)) (core : Option Gateway) (status : ℕ)
    → Runs site program texts n p q old new core status → status ≡ 3 → KeepsFault q
failed_keeps site program texts n p q old new (Some core) status (whole, accepted, run) three =
    ended (DoesScan core.site core.machine.accepted run.program) core.site n _ run.told three
failed_keeps site program texts n p q old new None status (told, tells, is) three =
    unstarted p q old new told status is three site program texts tells

-- whoever touches such a poller only where it keeps no fault leaves it
pub scans_kept : (site program : List ℕ) (texts : List (List ℕ)) (n : RunPace) (p q r : Polling) (old new : Option (List ℕ)) (core : Option Gateway) (status : ℕ)
    → Runs site program texts n p q old new core status → status ≡ 3 → IfSome q.fault (λ fault. r ≡ q) → Runs site program texts n p r old new core status
scans_kept site program texts n p q r old new core status runs three asked =
    let keeps : KeepsFault q = failed_keeps site program texts n p q old new core status runs three in
    let same : r ≡ q = subst (λ (kept : Option LinkFault). IfSome kept (λ fault. r ≡ q)) keeps.1 asked in
    subst (λ (x : Polling). Runs site program texts n p x old new core status) (sym same) runs
