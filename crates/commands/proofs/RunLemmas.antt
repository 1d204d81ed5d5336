-- Scans over a link, each of which does what the program means.
use Rattle.std.proofs.Common.{◌≡◌, ℕ, ◌<◌, ◌≤◌, inl, inr, List, [], ◌∷◌, length, map, Option, Ok, refl, sym, ap, subst, ◌∙◌}
use Rattle.point_types.specs.declared.reading.Reading.{Reading}
use Rattle.modbus_frame.specs.declared.link.LinkFault.{LinkFault}
use Rattle.register_map.specs.Layout.{Layout}
use Rattle.scan_code.specs.Image.{IsProper}
use Rattle.scan_code.specs.Machine.{Ended, State, Unfinished}
use Rattle.scan_vm.specs.Machine as vm
use Rattle.site_model.specs.declared.want.Want.{Want}
use Rattle.site_model.specs.declared.site.Site.{Site}
use Rattle.il_assemble.specs.Correct.{DoesWhatItMeans}
use Rattle.il_assemble.specs.Meaning.{Program}
use Rattle.verifier.specs.Links.{links_from}
use Rattle.verifier.specs.Verdict.{judged}
use Rattle.verifier.specs.Verified.{Acceptance, HasLinks}
use Rattle.gateway.specs.event_core.Control.{IsPlanned, after_scan, after_wait}
use Rattle.gateway.specs.event_core.Core.{Gateway, gateway_of, numbers_of}
use Rattle.gateway.specs.event_core.Driving.{TakesEvent}
use Rattle.gateway.specs.poller.Cycle.{RunsTo, StopsTaking, StopsWriting, TakesBlocks, WritesUpTo}
use Rattle.gateway.specs.poller.Finding.{FindsAll}
use Rattle.gateway.specs.poller.Polling.{Polling}
use Rattle.gateway.specs.event_core.SiteRun.{IsScan, Standing, Steps, scanned}
use Rattle.gateway.specs.declared.poller.cycle.Report.{Report}
use Rattle.gateway.specs.declared.event_core.event.Answer.{Answer}
use Rattle.gateway.specs.declared.event_core.event.Answer.TheVariants as answer
use Rattle.gateway.specs.declared.event_core.event.Event.{Event}
use Rattle.gateway.specs.declared.event_core.event.Event.TheVariants as event
use Rattle.commands.specs.Accepted.{most_deferred}
use Rattle.commands.specs.Described.{Spells}
use Rattle.commands.specs.Headline.{DoesRun, DoesScan, Tells, StopsAfter}
use Rattle.commands.specs.Printed.{LineLost, LinkDown}
use Rattle.commands.specs.Meant.{AdvancesAsMeant, StepsAsMeant}
use Rattle.commands.specs.Scans.{AreScans, DoesScans, End, IsBroken, IsWhole, series_of}
use Rattle.commands.specs.Series.{AreInOrder, Course, Moment, Scan}
use Rattle.commands.specs.declared.pace.RunPace.{RunPace}
use Rattle.commands.proofs.MeaningLemmas.{IsKept, left_variables, means_end, opening_kept, step_meant, stored_ranged}
use Rattle.commands.proofs.ScanLemmas.{unlinked_never_well, unprinted_never_well}
use Rattle.commands.specs.Clients.{AreOfClients, ClientsAsk}
use Rattle.commands.proofs.ClientLemmas.{held_asked}
use Rattle.commands.proofs.StepLemmas.{IsBehind, IsHeld, behind_scan, due_all, due_one, ending_on, held_all, held_behind, notes_blocks, waits_so}

module _ (site : Site) (p : Program) (a : Acceptance) (right : DoesWhatItMeans p a.image) (linked : links_from site.tags 0 a.image.tags ≡ Ok a.links) (proper : IsProper a.image) (verdict : judged a.image site.tags most_deferred ≡ Ok a.budget) (matched : HasLinks site.tags a.links) where
  -- a core of this site and this program, whose numbers lie in their ranges
  record IsOn (g : Gateway) : Type 0 where
    pub on_site : g.site ≡ site
    pub on_program : g.machine.accepted ≡ a
    pub kept : IsKept site p a right linked proper verdict matched g.standing

  advance : (s : Gateway) (e : Event) (r : Answer) (t : Gateway) → IsOn s → (TakesEvent most_deferred) s e r t → AdvancesAsMeant p s e r t × IsOn t
  advance s e r t on h =
      let there = subst (λ (x : Site). Steps x s.machine.accepted.image (numbers_of s.machine.accepted) s.machine.accepted.budget s.standing e r t.standing) on.on_site h.0.0 in
      let here = subst (λ (x : Acceptance). Steps site x.image (numbers_of x) x.budget s.standing e r t.standing) on.on_program there in
      let k = step_meant site p a right linked proper verdict matched s.standing e r t.standing on.kept here in
      let back = subst (λ (x : Site). StepsAsMeant p x a s.standing e r t.standing) (sym on.on_site) k.0 in (
        (subst (λ (x : Acceptance). StepsAsMeant p s.site x s.standing e r t.standing) (sym on.on_program) back, h.0.1, h.1),
        record { on_site = h.0.1.site ∙ on.on_site; on_program = h.0.1.accepted ∙ on.on_program; kept = k.1 },
      )

  runs : (s : Gateway) (es : List Event) (t : Gateway) → IsOn s → RunsTo (TakesEvent most_deferred) s es t → RunsTo (AdvancesAsMeant p) s es t × IsOn t
  runs s [] t on h = (h, subst IsOn h on)
  runs s (e ∷ es) t on (r, u, step, rest) =
      let k = advance s e r u on step in
      let m = runs u es t k.1 rest in
      ((r, u, k.0, m.0), m.1)

  abbrev taken_meant : (held : Site) (maps : List (Option Layout)) (wants : List Want) (o : Polling) (s : Gateway) (q : Polling) (t : Gateway) (lost : ℕ) → IsOn s
      → TakesBlocks (TakesEvent most_deferred) held maps wants o s q t lost → TakesBlocks (AdvancesAsMeant p) held maps wants o s q t lost
  taken_meant held maps wants o s q t lost on h =
      record { es = h.es; events = h.events; blocks = h.blocks; talks = h.talks; runs = (runs s h.events t on h.runs).0; counted = h.counted }

  -- time that went by changes nothing of that
  abbrev waited_on : (pace : RunPace) (s : Gateway) → IsOn s → IsOn (after_wait pace.every s)
  waited_on pace s on = (advance s (event.Time pace.every) answer.None (after_wait pace.every s) on (waits_so most_deferred s pace.every)).1

  whole_meant : (pace : RunPace) (o : Polling) (s : Gateway) (q : Polling) (t : Gateway) (report : Report) (own : List Event) → IsOn s → IsWhole (TakesEvent most_deferred) pace o s q t report own
      → IsWhole (AdvancesAsMeant p) pace o s q t report own × IsOn t
  whole_meant pace o s q t report own on (heard, asked, of, asks, scan, e) =
      let first = runs s asked heard on asks in
      let here = waited_on pace heard first.1 in
      let middle = (runs (after_wait pace.every heard) (scan.taken).events scan.before here (scan.taken).runs).1 in
      let last = advance scan.before event.Scan scan.answer t middle scan.scan in (
        (
          heard,
          asked,
          of,
          first.0,
          record {
            middle = scan.middle;
            before = scan.before;
            taken = taken_meant heard.site heard.maps heard.site.wants o (after_wait pace.every heard) scan.middle scan.before report.lost here scan.taken;
            answer = scan.answer;
            scan = last.0;
            written = scan.written;
            steps = scan.steps;
          },
          e,
        ),
        last.1,
      )

  broken_meant : (pace : RunPace) (o : Polling) (s : Gateway) (fault : LinkFault) (q : Polling) (t : Gateway) (events : List Event) → IsOn s → IsBroken (TakesEvent most_deferred) pace o s fault q t events
      → IsBroken (AdvancesAsMeant p) pace o s fault q t events
  broken_meant pace o s fault q t events on (heard, asked, of, asks, inl (stop, e)) =
      let first = runs s asked heard on asks in (
        heard,
        asked,
        of,
        first.0,
        inl (
          record {
            before = stop.before;
            want = stop.want;
            behind = stop.behind;
            split = stop.split;
            middle = stop.middle;
            lost = stop.lost;
            taken = taken_meant heard.site heard.maps stop.before o (after_wait pace.every heard) stop.middle t stop.lost (waited_on pace heard first.1) stop.taken;
            stops = stop.stops;
          },
          e,
        ),
      )
  broken_meant pace o s fault q t events on (heard, asked, of, asks, inr (stop, e)) =
      let first = runs s asked heard on asks in
      let here = waited_on pace heard first.1 in
      let middle = (runs (after_wait pace.every heard) (stop.taken).events stop.before here (stop.taken).runs).1 in
      let last = advance stop.before event.Scan stop.answer t middle stop.scan in (
        heard,
        asked,
        of,
        first.0,
        inr (
          record {
            middle = stop.middle;
            before = stop.before;
            lost = stop.lost;
            taken = taken_meant heard.site heard.maps heard.site.wants o (after_wait pace.every heard) stop.middle stop.before stop.lost here stop.taken;
            answer = stop.answer;
            scan = last.0;
            stops = stop.stops;
          },
          e,
        ),
      )

  scans_meant : (pace : RunPace) (o : Polling) (s : Gateway) (reports : List Report) (events : List Event) (q : Polling) (t : Gateway) → IsOn s → AreScans (TakesEvent most_deferred) pace o s reports events q t
      → AreScans (AdvancesAsMeant p) pace o s reports events q t × IsOn t
  scans_meant pace o s [] events q t on (none, here, there) = ((none, here, there), subst IsOn (sym there) on)
  scans_meant pace o s (r ∷ rs) events q t on (middle, between, own, more, split, one, rest) =
      let k = whole_meant pace o s middle between r own on one in
      let m = scans_meant pace middle between rs more q t k.1 rest in
      ((middle, between, own, more, split, k.0, m.0), m.1)

  end_meant : (n : RunPace) (reports : List Report) (events : List Event) (o : Polling) (s : Gateway) (q : Polling) (t : Gateway) (old new : Option (List ℕ)) (status : ℕ) → IsOn s
      → End (TakesEvent most_deferred) n reports events o s q t old new status → End (AdvancesAsMeant p) n reports events o s q t old new status
  end_meant n reports events o s q t old new status on (inl h) = inl h
  end_meant n reports events o s q t old new status on (inr (inl h)) = inr (inl h)
  end_meant n reports events o s q t old new status on (inr (inr h)) = inr (inr (record {
    within = h.within;
    fault = h.fault;
    broken = broken_meant n o s h.fault q t events on h.broken;
    written = h.written;
    printed = h.printed;
    told = h.told;
  }))

  does_meant : (n : RunPace) (o : Polling) (s : Gateway) (events : List Event) (q : Polling) (t : Gateway) (old new : Option (List ℕ)) (status : ℕ) → IsOn s
      → DoesScans (TakesEvent most_deferred) n o s events q t old new status → DoesScans (AdvancesAsMeant p) n o s events q t old new status
  does_meant n o s events q t old new status on h =
      let all = scans_meant n o s h.reports h.before h.middle h.between on h.whole in
      record {
        reports = h.reports;
        before = h.before;
        behind = h.behind;
        split = h.split;
        middle = h.middle;
        between = h.between;
        whole = all.0;
        end = end_meant n h.reports h.behind h.middle h.between q t old new status all.1 h.end;
      }

  pub scans_from_opening : (maps : List (Option Layout)) (n : RunPace) (o : Polling) (events : List Event) (q : Polling) (t : Gateway) (old new : Option (List ℕ)) (status : ℕ)
      → DoesScans (TakesEvent most_deferred) n o (gateway_of site maps (vm.opened a)) events q t old new status → DoesScans (AdvancesAsMeant p) n o (gateway_of site maps (vm.opened a)) events q t old new status
  scans_from_opening maps n o events q t old new status h =
      does_meant n o (gateway_of site maps (vm.opened a)) events q t old new status
      (record { on_site = refl; on_program = refl; kept = opening_kept site p a right linked proper verdict matched }) h

  -- ---- in the parts of the headline

  abbrev asked_by : (pace : RunPace) (s heard : Gateway) (asked : List Event) → AreOfClients pace.asked asked → RunsTo (TakesEvent most_deferred) s asked heard → ClientsAsk pace.asked s heard
  asked_by pace s heard asked of asks = record { events = asked; own = of; runs = asks }

  -- what the program does at a scan, on this site
  scan_here : (s : Gateway) (r : Answer) (t : Gateway) → IsOn s → TakesEvent most_deferred s event.Scan r t → IsScan site a.image (numbers_of a) a.budget s.standing t.standing
  scan_here s r t on h =
      let there = subst (λ (x : Site). Steps x s.machine.accepted.image (numbers_of s.machine.accepted) s.machine.accepted.budget s.standing event.Scan r t.standing) on.on_site h.0.0 in
      let here : Steps site a.image (numbers_of a) a.budget s.standing event.Scan r t.standing = subst (λ (x : Acceptance). Steps site x.image (numbers_of x) x.budget s.standing event.Scan r t.standing) on.on_program there in
      here.1

  -- the core after it, where the machine's variables were those of the site run
  behind_here : (s : Gateway) (r : Answer) (t : Gateway) (on : IsOn s) → IsHeld s → (last : TakesEvent most_deferred s event.Scan r t) → (h : IsScan site a.image (numbers_of a) a.budget s.standing t.standing)
      → IsBehind most_deferred s t h.readings h.steps h.end
  behind_here s r t on held last h =
      behind_scan most_deferred s t h.readings h.steps h.end held last.0.1 last.1
      (subst (λ (x : Site). t.standing ≡ scanned x (numbers_of s.machine.accepted) s.standing h.readings h.steps h.end) (sym on.on_site)
      (subst (λ (x : Acceptance). t.standing ≡ scanned site (numbers_of x) s.standing h.readings h.steps h.end) (sym on.on_program) h.after))
      (subst (λ (x : Acceptance). ending_on x h.readings s.standing.variables x.budget ≡ Ended h.steps h.end) (sym on.on_program) h.ended)

  abbrev scan_of : Polling → Gateway → Polling → Gateway → Polling → Gateway → List Reading → State → Report → Scan
  scan_of o s asked before q t readings end report = record {
    before = record { link = o; core = s };
    taken = record { link = asked; core = before };
    behind = record { link = q; core = t };
    readings = readings;
    end = end;
    report = report;
  }

  -- a scan but for the writes of the outputs that are left
  record IsPart (o : Polling) (s : Gateway) (q : Polling) (t : Gateway) (left : List ℕ) (report : Report) : Type 0 where
    pub asked : Polling
    pub taken : Gateway
    pub readings : List Reading
    pub end : State
    pub does : DoesScan site a p left (scan_of o s asked taken q t readings end report)
    pub on : IsOn t
    pub held : IsHeld t

  scan_parts : (o : Polling) (s : Gateway) (asked : Polling) (before t : Gateway) (answer : Answer) (q : Polling) (left : List ℕ) (report : Report) → IsOn s → IsHeld s
      → TakesBlocks (TakesEvent most_deferred) s.site s.maps s.site.wants o s asked before report.lost → TakesEvent most_deferred before event.Scan answer t → report.steps ≡ (t.standing.last).steps
      → WritesUpTo IsPlanned site left t asked q report.writes report.refused → IsPart o s q t left report
  scan_parts o s asked before t answer q left report on held taken last count written =
      let middle = (runs s taken.events before on taken.runs).1 in
      let blocks = notes_blocks most_deferred site s.maps site.wants o s asked before report.lost (subst (λ (x : Site). TakesBlocks (TakesEvent most_deferred) x s.maps x.wants o s asked before report.lost) on.on_site taken) in
      let held_there = held_all s blocks.events before blocks.runs held in
      let h = scan_here before answer t middle last in
      let behind = behind_here before answer t middle held_there last h in
      let counted : h.steps ≡ report.steps = sym (count ∙ ap (λ (x : Standing). (x.last).steps) h.after) in
      let on_end = (advance before event.Scan answer t middle last).1 in
      record {
        asked = asked;
        taken = before;
        readings = h.readings;
        end = h.end;
        does = record {
          takes = blocks;
          safe = record {
            ended = subst (λ (k : ℕ). ending_on a h.readings before.standing.variables a.budget ≡ Ended k h.end) counted h.ended;
            bounded = subst (λ (k : ℕ). k ≤ a.budget) counted h.bounded;
            variables = left_variables site p a right linked proper verdict matched before.standing t.standing middle.kept h;
            outputs = stored_ranged site p a right linked proper verdict matched before.standing t.standing middle.kept h;
          };
          shallow = subst (λ (x : Acceptance). (k : ℕ) (y : State) → ending_on x h.readings before.standing.variables k ≡ Unfinished y → length y.deferred ≤ most_deferred) middle.on_program behind.shallow;
          means = record { each = h.each; read = h.read; computed = means_end site p a right linked proper verdict matched before.standing t.standing middle.kept h };
          leaves = subst (λ (k : ℕ). t ≡ after_scan before h.readings k h.end) counted behind.core;
          writes = record {
            turns = written.turns;
            set_points = due_all site t written.turns on_end.on_site written.planned;
            calls = written.es;
            in_turn = written.in_turn;
            went = written.talks;
            sent = written.sent;
            refused = written.unacknowledged;
          };
        };
        on = on_end;
        held = held_behind before t h.readings h.steps h.end behind.core;
      }

  whole_scan : (pace : RunPace) (o : Polling) (s : Gateway) (q : Polling) (t : Gateway) (report : Report) (own : List Event) → IsOn s → IsHeld s → IsWhole (TakesEvent most_deferred) pace o s q t report own
      → (heard : Gateway) × ClientsAsk pace.asked s heard × IsPart o (after_wait pace.every heard) q t [] report
  whole_scan pace o s q t report own on held (heard, asked, of, asks, scan, e) =
      let all = asked_by pace s heard asked of asks in
      let first = (runs s asked heard on asks).1 in (
        heard,
        all,
        scan_parts o (after_wait pace.every heard) scan.middle scan.before t scan.answer q [] report (waited_on pace heard first) (held_asked pace.asked s heard all held) scan.taken scan.scan scan.steps
            (subst (λ (x : Site). WritesUpTo IsPlanned x [] t scan.middle q report.writes report.refused) first.on_site scan.written),
      )

  -- scans, one after another
  record ArePart (pace : RunPace) (o : Polling) (s : Gateway) (reports : List Report) (q : Polling) (t : Gateway) : Type 0 where
    pub scans : List Scan
    pub done : AreInOrder pace (DoesScan site a p []) (record { link = o; core = s }) scans (record { link = q; core = t })
    pub reported : map (λ (scan : Scan). scan.report) scans ≡ reports
    pub on : IsOn t
    pub held : IsHeld t

  abbrev moment : Polling → Gateway → Moment
  moment q t = record { link = q; core = t }

  whole_scans : (pace : RunPace) (o : Polling) (s : Gateway) (reports : List Report) (events : List Event) (q : Polling) (t : Gateway) → IsOn s → IsHeld s → AreScans (TakesEvent most_deferred) pace o s reports events q t
      → ArePart pace o s reports q t
  whole_scans pace o s [] events q t on held (none, here, there) = record {
    scans = [];
    done = ap (λ (x : Polling). moment x t) here ∙ ap (λ (x : Gateway). moment o x) there;
    reported = refl;
    on = subst IsOn (sym there) on;
    held = subst IsHeld (sym there) held;
  }
  whole_scans pace o s (r ∷ rs) events q t on held (middle, between, own, more, split, one, rest) =
      let (heard, asks, k) = whole_scan pace o s middle between r own on held one in
      let m = whole_scans pace middle between rs more q t k.on k.held rest in
      record {
        scans = scan_of o (after_wait pace.every heard) k.asked k.taken middle between k.readings k.end r ∷ m.scans;
        done = (heard, asks, refl, k.does, m.done);
        reported = ap (λ (l : List Report). r ∷ l) m.reported;
        on = m.on;
        held = m.held;
      }

  abbrev Stops : RunPace → Moment → LinkFault → Moment → Type 0
  Stops pace = StopsAfter pace (DoesScan site a p) site

  stopped_scan : (pace : RunPace) (o : Polling) (s : Gateway) (fault : LinkFault) (q : Polling) (t : Gateway) (events : List Event) → IsOn s → IsHeld s → IsBroken (TakesEvent most_deferred) pace o s fault q t events
      → Stops pace (moment o s) fault (moment q t)
  stopped_scan pace o s fault q t events on held (heard, asked, of, asks, inl (stop, e)) =
      let all = asked_by pace s heard asked of asks in
      let first = (runs s asked heard on asks).1 in
      let here = subst (λ (x : Site). StopsTaking (TakesEvent most_deferred) x heard.maps o (after_wait pace.every heard) fault q t) first.on_site stop in (
        heard,
        all,
        inl (record {
          before = here.before;
          want = here.want;
          behind = here.behind;
          split = here.split;
          middle = here.middle;
          lost = here.lost;
          taken = notes_blocks most_deferred site heard.maps here.before o (after_wait pace.every heard) here.middle t here.lost here.taken;
          stops = here.stops;
        }),
      )
  stopped_scan pace o s fault q t events on held (heard, asked, of, asks, inr (stop, e)) =
      let all = asked_by pace s heard asked of asks in
      let first = (runs s asked heard on asks).1 in
      let here = subst (λ (x : Site). StopsWriting IsPlanned x t stop.middle fault q) first.on_site stop.stops in
      let report : Report = record { steps = (t.standing.last).steps; writes = here.writes; refused = here.refused; lost = stop.lost } in
      let k = scan_parts o (after_wait pace.every heard) stop.middle stop.before t stop.answer here.middle (here.output ∷ here.left) report (waited_on pace heard first) (held_asked pace.asked s heard all held) stop.taken stop.scan refl here.written in (
        heard,
        all,
        inr (record {
          output = here.output;
          within = here.within;
          left = here.left;
          scan = scan_of o (after_wait pace.every heard) k.asked k.taken here.middle t k.readings k.end report;
          before = refl;
          does = k.does;
          plan = here.plan;
          due = due_one t here.output here.plan (subst (λ (x : Site). here.output < length x.outs) (sym (k.on).on_site) here.within) here.planned;
          stops = here.stops;
          core = refl;
        }),
      )

  tells : (n : RunPace) (reports : List Report) (events : List Event) (o : Polling) (s : Gateway) (q : Polling) (t : Gateway) (old new : Option (List ℕ)) (status : ℕ) → IsOn s → IsHeld s
      → End (TakesEvent most_deferred) n reports events o s q t old new status → Tells (Stops n) (series_of n.scans reports o s q t old new status)
  tells n reports events o s q t old new status on held (inl h) = record { well = λ e. h.1; badly = λ bad. absurd (bad (h.1.well)) }
  tells n reports events o s q t old new status on held (inr (inl h)) = record {
    well = λ e. unprinted_never_well (length reports) (h.1.last) (h.1.written) new status (h.1.told) e;
    badly = λ bad. LineLost h.1;
  }
  tells n reports events o s q t old new status on held (inr (inr h)) = record {
    well = λ e. unlinked_never_well h.fault h.written new status h.told e;
    badly = λ bad. LinkDown (record {
      within = h.within;
      fault = h.fault;
      failed = stopped_scan n o s h.fault q t events on held h.broken;
      written = h.written;
      printed = h.printed;
      told = h.told;
    });
  }

  pub run_from_opening : (maps : List (Option Layout)) (text : List ℕ) (n : RunPace) (o : Polling) (events : List Event) (t : Gateway) (c : Course)
      → Spells text p → FindsAll site.devices c.link_before maps o → DoesScans (TakesEvent most_deferred) n o (gateway_of site maps (vm.opened a)) events c.link_behind t c.out_before c.out_behind c.status
      → DoesRun (gateway_of site maps (vm.opened a)) text n c t
  run_from_opening maps text n o events t c spelled found h =
      let start : IsOn (gateway_of site maps (vm.opened a)) = record { on_site = refl; on_program = refl; kept = opening_kept site p a right linked proper verdict matched } in
      let all = whole_scans n o (gateway_of site maps (vm.opened a)) h.reports h.before h.middle h.between start refl h.whole in
      record {
        program = p;
        spelled = spelled;
        found_by = o;
        found = found;
        scans = all.scans;
        last = moment h.middle h.between;
        done = all.done;
        told = subst (λ (reports : List Report). Tells (Stops n) (series_of n.scans reports h.middle h.between c.link_behind t c.out_before c.out_behind c.status)) (sym all.reported)
            (tells n h.reports h.behind h.middle h.between c.link_behind t c.out_before c.out_behind c.status all.on all.held h.end);
      }
