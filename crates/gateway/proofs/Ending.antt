-- A scan over a link changes neither the site of a core nor its maps and its program, and follows the site run.
use Rattle.std.proofs.Common.{◌≡◌, ℕ, inl, inr, List, [], ◌∷◌, ◌++◌, Option, Result, Ok, Err, refl, sym, subst}
use Rattle.std.specs.Prelude.{IfOk, IfErr}
use Rattle.modbus_frame.specs.declared.link.LinkFault.{LinkFault}
use Rattle.register_map.specs.Layout.{Layout}
use Rattle.site_model.specs.declared.site.Site.{Site}
use Rattle.gateway.specs.declared.event_core.event.Event.{Event}
use Rattle.gateway.specs.declared.event_core.event.Event.TheVariants as event
use Rattle.gateway.specs.declared.event_core.event.Answer.{Answer}
use Rattle.gateway.specs.declared.poller.cycle.Report.{Report}
use Rattle.gateway.specs.event_core.Control.{IsPlanned, steps_of}
use Rattle.gateway.specs.event_core.Core.{Gateway, IsSame, RunsFrom}
use Rattle.gateway.specs.event_core.Driving.{TakesEvent}
use Rattle.gateway.specs.poller.Cycle.{RunsTo, Scans, StopsScan}
use Rattle.gateway.specs.Laws.{ScansFollowTheSiteRun}
use Rattle.gateway.specs.poller.Polling.{Polling}
use Rattle.gateway.proofs.Parts.{same_then, steps_same}

same_self : (s t : Gateway) → s ≡ t → IsSame s t
same_self s t e = subst (IsSame s) e (record { site = refl; maps = refl; accepted = refl })

same_runs : (depth : ℕ) (s : Gateway) (es : List Event) (t : Gateway) → RunsTo (TakesEvent depth) s es t → IsSame s t
same_runs depth s [] t run = same_self s t run
same_runs depth s (e ∷ es) t run = same_then s run.1 t run.2.0.1 (same_runs depth run.1 es t run.3)

same_scan : (depth : ℕ) (site : Site) (maps : List (Option Layout)) (p : Polling) (s : Gateway) (q : Polling) (t : Gateway) (report : Report) → Scans (TakesEvent depth) IsPlanned steps_of site maps p s q t report → IsSame s t
same_scan depth site maps p s q t report h = same_then s h.before t (same_runs depth s (h.taken).events h.before (h.taken).runs) h.scan.0.1

same_stop : (depth : ℕ) (site : Site) (maps : List (Option Layout)) (p : Polling) (s : Gateway) (fault : LinkFault) (q : Polling) (t : Gateway) → StopsScan (TakesEvent depth) IsPlanned site maps p s fault q t → IsSame s t
same_stop depth site maps p s fault q t (inl h) = same_runs depth s (h.taken).events t (h.taken).runs
same_stop depth site maps p s fault q t (inr h) = same_then s h.before t (same_runs depth s (h.taken).events h.before (h.taken).runs) h.scan.0.1

pub same_end : (depth : ℕ) (site : Site) (maps : List (Option Layout)) (p : Polling) (s : Gateway) (q : Polling) (t : Gateway) (r : Result Report LinkFault)
    → IfOk r (λ report. Scans (TakesEvent depth) IsPlanned steps_of site maps p s q t report) → IfErr r (λ fault. StopsScan (TakesEvent depth) IsPlanned site maps p s fault q t) → IsSame s t
same_end depth site maps p s q t (Ok report) done stopped = same_scan depth site maps p s q t report done
same_end depth site maps p s q t (Err fault) done stopped = same_stop depth site maps p s fault q t stopped

-- ---- the site run

runs_then : (depth : ℕ) (g s : Gateway) → IsSame g s → (es : List Event) (t u : Gateway) (a : Answer) → RunsTo (TakesEvent depth) s es t → TakesEvent depth t event.Scan a u
    → (answers : List Answer) × RunsFrom g s.standing (es ++ event.Scan ∷ []) answers u.standing
runs_then depth g s same [] t u a run last =
    let step = subst (λ (x : Gateway). TakesEvent depth x event.Scan a u) (sym run) last in
    (a ∷ [], (a, [], u.standing, steps_same g s event.Scan a u.standing same step.0.0, refl, (refl, refl)))
runs_then depth g s same (e ∷ es) t u a run last =
    let k = runs_then depth g run.1 (same_then g s run.1 same run.2.0.1) es t u a run.3 last in
    (run.0 ∷ k.0, (run.0, k.0, (run.1).standing, steps_same g s e run.0 (run.1).standing same run.2.0.0, refl, k.1))

pub follows_the_run : ScansFollowTheSiteRun
follows_the_run depth site maps p s q t report h = runs_then depth s s (same_self s s refl) (h.taken).events h.before t h.answer (h.taken).runs h.scan
