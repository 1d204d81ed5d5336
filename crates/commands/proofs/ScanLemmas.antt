-- Scans one after another: what they do to the core, and what is printed of them.
use Rattle.std.proofs.Common.{◌≡◌, ◌≢◌, inl, inr, ℕ, ◌+◌, ◌<◌, List, [], ◌∷◌, ◌++◌, length, Option, None, refl, sym, ap, subst, ◌∙◌, arith, append_assoc}
use Rattle.std.specs.Io.KnownBytes.{Appends}
use Rattle.std.proofs.KnownBytes.{Appends-nil, Appends-trans}
use Rattle.std.proofs.lemmas.List.{append-nil, length-append}
use Rattle.modbus_frame.specs.declared.link.LinkFault.{LinkFault}
use Rattle.gateway.specs.event_core.Control.{IsPlanned, after_wait, steps_of}
use Rattle.gateway.specs.event_core.Core.{Gateway, IsSame, RunsFrom}
use Rattle.gateway.specs.event_core.Driving.{TakesEvent}
use Rattle.gateway.specs.poller.Cycle.{RunsTo, Scans, StopsScan}
use Rattle.gateway.specs.poller.Polling.{Polling}
use Rattle.site_model.specs.declared.site.Site.{Site}
use Rattle.gateway.specs.event_core.SiteRun.{Standing, after_time}
use Rattle.gateway.specs.declared.poller.cycle.Report.{Report}
use Rattle.gateway.specs.declared.event_core.event.Answer.{Answer}
use Rattle.gateway.specs.declared.event_core.event.Answer.TheVariants as answer
use Rattle.gateway.specs.declared.event_core.event.Event.{Event}
use Rattle.gateway.specs.declared.event_core.event.Event.TheVariants as event
use Rattle.gateway.proofs.Parts.{same_then, steps_same}
use Rattle.commands.specs.Accepted.{most_deferred}
use Rattle.commands.specs.Clients.{ClientsAsk}
use Rattle.commands.specs.Report.{no_memory_line, scan_lines}
use Rattle.gateway.specs.poller.Telling.{scan_line}
use Rattle.commands.specs.Printed.{IsUnlinked, IsUnprinted}
use Rattle.commands.specs.Scans.{AreScans, DoesScans, End, IsBroken, IsLast, IsPrinted, IsWhole, LeavesOff}
use Rattle.commands.specs.Series.{Moment}
use Rattle.commands.specs.Told.{IsCut, IsTold, refused_with}
use Rattle.commands.specs.declared.pace.RunPace.{RunPace}

-- ---- what is told

pub told_well : (old new : Option (List ℕ)) (lines : List ℕ) (status : ℕ) → IsTold old new (record { lines = lines; status = 0 }) status → status ≡ 0 → Appends old new lines
told_well old new lines status (inl h) e = h.0
told_well old new lines status (inr h) e = absurd (let one = h.1 in omega (arith, one, e))

pub told_badly : (old new : Option (List ℕ)) (lines : List ℕ) (status : ℕ) → IsTold old new (record { lines = lines; status = 0 }) status → status ≢ 0 → IsCut old new lines × (status ≡ 1)
told_badly old new lines status (inl h) e = absurd (e h.1)
told_badly old new lines status (inr h) e = h

lines_more : (k j : ℕ) (reports : List Report) (report : Report) → j ≡ k + length reports → scan_lines k (reports ++ report ∷ []) ≡ scan_lines k reports ++ scan_line j report
lines_more k j [] report e = append-nil _ ∙ ap (λ n. scan_line n report) (omega (arith, e))
lines_more k j (r ∷ rs) report e = ap (λ l. scan_line k r ++ l) (lines_more (k + 1) j rs report (omega (arith, e))) ∙ sym (append_assoc (scan_line k r) (scan_lines (k + 1) rs) (scan_line j report))

-- ---- one scan more

scans_more : (pace : RunPace) (p : Polling) (s : Gateway) (reports : List Report) (events : List Event) (q : Polling) (t : Gateway) (u : Polling) (v : Gateway) (report : Report) (own : List Event)
    → AreScans (TakesEvent most_deferred) pace p s reports events q t → IsWhole (TakesEvent most_deferred) pace q t u v report own → AreScans (TakesEvent most_deferred) pace p s (reports ++ report ∷ []) (events ++ own) u v
scans_more pace p s [] events q t u v report own (none, here, there) w = (
  u,
  v,
  own,
  [],
  ap (λ es. es ++ own) none ∙ sym (append-nil own),
  subst (λ (x : Polling). IsWhole (TakesEvent most_deferred) pace x s u v report own) here (subst (λ (x : Gateway). IsWhole (TakesEvent most_deferred) pace q x u v report own) there w),
  (refl, refl, refl),
)
scans_more pace p s (r ∷ rs) events q t u v report own (middle, between, first, more, split, one, rest) w =
    (middle, between, first, more ++ own, ap (λ es. es ++ own) split ∙ append_assoc first more own, one, scans_more pace middle between rs more q t u v report own rest w)

-- so many scans were done, and their lines are printed
pub record SoFar (pace : RunPace) (k : ℕ) (p : Polling) (s : Gateway) (q : Polling) (t : Gateway) (old new : Option (List ℕ)) : Type 0 where
  pub reports : List Report
  pub events : List Event
  pub all : length reports ≡ k
  pub whole : AreScans (TakesEvent most_deferred) pace p s reports events q t
  pub printed : Appends old new (scan_lines 1 reports)
  pub unfailed : q.fault ≡ None

pub none_so_far : (pace : RunPace) (p : Polling) (s : Gateway) (old : Option (List ℕ)) → p.fault ≡ None → SoFar pace 0 p s p s old old
none_so_far pace p s old h = record { reports = []; events = []; all = refl; whole = (refl, refl, refl); printed = Appends-nil old; unfailed = h }

pub one_more : (pace : RunPace) (k : ℕ) (p : Polling) (s : Gateway) (q : Polling) (t : Gateway) (u : Polling) (v : Gateway) (old middle new : Option (List ℕ))
    → SoFar pace k p s q t old middle → IsPrinted pace (k + 1) q t u v middle new → SoFar pace (k + 1) p s u v old new
one_more pace k p s q t u v old middle new h (report, own, whole, printed) = record {
  reports = h.reports ++ report ∷ [];
  events = h.events ++ own;
  all = length-append h.reports (report ∷ []) ∙ ap (λ n. n + 1) h.all;
  whole = scans_more pace p s h.reports h.events q t u v report own h.whole whole;
  printed = subst (λ l. Appends old new l) (sym (lines_more 1 (k + 1) h.reports report (omega (arith, h.all)))) (Appends-trans old middle new (scan_lines 1 h.reports) (scan_line (k + 1) report) h.printed printed);
  unfailed = ((whole.4).written).talks.fault;
}

-- all were done
pub done_all : (n : RunPace) (k : ℕ) (p : Polling) (s : Gateway) (q : Polling) (t : Gateway) (old new : Option (List ℕ)) → SoFar n k p s q t old new → k ≡ n.scans → LeavesOff n p s q t old new 0
done_all n k p s q t old new h e = (
  h.events,
  record {
    reports = h.reports;
    before = h.events;
    behind = [];
    split = sym (append-nil h.events);
    middle = q;
    between = t;
    whole = h.whole;
    end = inl (refl, record { all = h.all ∙ e; still = refl; printed = h.printed; well = refl });
  },
)

-- one was the last
pub done_before : (n : RunPace) (k : ℕ) (p : Polling) (s : Gateway) (q : Polling) (t : Gateway) (u : Polling) (v : Gateway) (old middle new : Option (List ℕ)) (status : ℕ)
    → SoFar n k p s q t old middle → k < n.scans → IsLast n (k + 1) q t u v middle new status → LeavesOff n p s u v old new status
done_before n k p s q t u v old middle new status h within (inl (report, own, whole, told)) = (
  h.events ++ own,
  record {
    reports = h.reports ++ report ∷ [];
    before = h.events ++ own;
    behind = [];
    split = sym (append-nil (h.events ++ own));
    middle = u;
    between = v;
    whole = scans_more n p s h.reports h.events q t u v report own h.whole whole;
    end = inr (inl (
      refl,
      record {
        before = h.reports;
        last = report;
        split = refl;
        within = let e = length-append h.reports (report ∷ []) in omega (arith, e, within, h.all);
        still = refl;
        written = middle;
        printed = h.printed;
        told = subst (λ j. IsUnprinted j report middle new status) (sym (length-append h.reports (report ∷ []) ∙ ap (λ j. j + 1) h.all)) told;
      },
    ));
  },
)
done_before n k p s q t u v old middle new status h within (inr (fault, own, broken, told)) = (
  h.events ++ own,
  record {
    reports = h.reports;
    before = h.events;
    behind = own;
    split = refl;
    middle = q;
    between = t;
    whole = h.whole;
    end = inr (inr (record {
      within = omega (arith, within, h.all);
      fault = fault;
      broken = broken;
      written = middle;
      printed = h.printed;
      told = told;
    }));
  },
)

-- ---- one scan

broken_by : (pace : RunPace) (p : Polling) (s heard : Gateway) (fault : LinkFault) (q : Polling) (t : Gateway) → ClientsAsk pace.asked s heard → StopsScan (TakesEvent most_deferred) IsPlanned heard.site heard.maps p (after_wait pace.every heard) fault q t → (events : List Event) × IsBroken (TakesEvent most_deferred) pace p s fault q t events
broken_by pace p s heard fault q t asks (inl stop) = (asks.events ++ (event.Time pace.every ∷ (stop.taken).events), (heard, asks.events, asks.own, asks.runs, inl (stop, refl)))
broken_by pace p s heard fault q t asks (inr stop) = (asks.events ++ (event.Time pace.every ∷ ((stop.taken).events ++ event.Scan ∷ [])), (heard, asks.events, asks.own, asks.runs, inr (stop, refl)))

-- a whole scan whose line was to be printed
pub printed_by : (pace : RunPace) (k : ℕ) (p : Polling) (s heard : Gateway) (q : Polling) (t : Gateway) (report : Report) (old new : Option (List ℕ)) (lines : List ℕ) (status : ℕ)
    → ClientsAsk pace.asked s heard → Scans (TakesEvent most_deferred) IsPlanned steps_of heard.site heard.maps p (after_wait pace.every heard) q t report → lines ≡ scan_line k report → IsTold old new (record { lines = lines; status = 0 }) status
    → status ≡ 0 → IsPrinted pace k p s q t old new
printed_by pace k p s heard q t report old new lines status asks scan e told well = (report, asks.events ++ (event.Time pace.every ∷ ((scan.taken).events ++ event.Scan ∷ [])), (heard, asks.events, asks.own, asks.runs, scan, refl), subst (Appends old new) e (told_well old new lines status told well))

pub unprinted_by : (pace : RunPace) (k : ℕ) (p : Polling) (s heard : Gateway) (q : Polling) (t : Gateway) (report : Report) (old new : Option (List ℕ)) (lines : List ℕ) (status : ℕ)
    → ClientsAsk pace.asked s heard → Scans (TakesEvent most_deferred) IsPlanned steps_of heard.site heard.maps p (after_wait pace.every heard) q t report → lines ≡ scan_line k report → IsTold old new (record { lines = lines; status = 0 }) status
    → status ≢ 0 → IsLast pace k p s q t old new status
unprinted_by pace k p s heard q t report old new lines status asks scan e told bad =
    let cut = told_badly old new lines status told bad in
    inl (report, asks.events ++ (event.Time pace.every ∷ ((scan.taken).events ++ event.Scan ∷ [])), (heard, asks.events, asks.own, asks.runs, scan, refl), inl (subst (IsCut old new) e cut.0, cut.1))

-- a whole scan for whose line there was no memory
pub unsaid_by : (pace : RunPace) (k : ℕ) (p : Polling) (s heard : Gateway) (q : Polling) (t : Gateway) (report : Report) (old new : Option (List ℕ)) (status : ℕ)
    → ClientsAsk pace.asked s heard → Scans (TakesEvent most_deferred) IsPlanned steps_of heard.site heard.maps p (after_wait pace.every heard) q t report → IsTold old new (refused_with no_memory_line) status → IsLast pace k p s q t old new status
unsaid_by pace k p s heard q t report old new status asks scan told = inl (report, asks.events ++ (event.Time pace.every ∷ ((scan.taken).events ++ event.Scan ∷ [])), (heard, asks.events, asks.own, asks.runs, scan, refl), inr told)

pub refused_never_well : {W : Type 0} (old new : Option (List ℕ)) (lines : List ℕ) (status : ℕ) → IsTold old new (refused_with lines) status → status ≡ 0 → W
refused_never_well old new lines status (inl h) e = absurd (let one = h.1 in omega (arith, one, e))
refused_never_well old new lines status (inr h) e = absurd (let one = h.1 in omega (arith, one, e))

pub unlinked_never_well : {W : Type 0} (fault : LinkFault) (old new : Option (List ℕ)) (status : ℕ) → IsUnlinked fault old new status → status ≡ 0 → W
unlinked_never_well fault old new status (inl (inl h)) e = absurd (let three = h.1 in omega (arith, three, e))
unlinked_never_well fault old new status (inl (inr h)) e = absurd (let one = h.1 in omega (arith, one, e))
unlinked_never_well fault old new status (inr h) e = refused_never_well old new _ status h e

pub unprinted_never_well : {W : Type 0} (k : ℕ) (report : Report) (old new : Option (List ℕ)) (status : ℕ) → IsUnprinted k report old new status → status ≡ 0 → W
unprinted_never_well k report old new status (inl h) e = absurd (let one = h.1 in omega (arith, one, e))
unprinted_never_well k report old new status (inr h) e = refused_never_well old new _ status h e

pub unlinked_by : (pace : RunPace) (k : ℕ) (p : Polling) (s heard : Gateway) (fault : LinkFault) (q : Polling) (t : Gateway) (old new : Option (List ℕ)) (status : ℕ)
    → ClientsAsk pace.asked s heard → StopsScan (TakesEvent most_deferred) IsPlanned heard.site heard.maps p (after_wait pace.every heard) fault q t → IsUnlinked fault old new status → IsLast pace k p s q t old new status
unlinked_by pace k p s heard fault q t old new status asks stops told = let b = broken_by pace p s heard fault q t asks stops in inr (fault, b.0, b.1, told)

-- ---- the site run

-- what is the same but for its standing, and runs over these events
record Follows (g s : Gateway) (events : List Event) (t : Gateway) : Type 0 where
  pub answers : List Answer
  pub runs : RunsFrom g s.standing events answers t.standing
  pub same : IsSame g t

runs_to : (g s : Gateway) → IsSame g s → (es : List Event) (t : Gateway) → RunsTo (TakesEvent most_deferred) s es t → Follows g s es t
runs_to g s same [] t run = record { answers = []; runs = (refl, ap (λ (x : Gateway). x.standing) (sym run)); same = subst (IsSame g) run same }
runs_to g s same (e ∷ es) t run =
    let k = runs_to g run.1 (same_then g s run.1 same run.2.0.1) es t run.3 in
    record {
      answers = run.0 ∷ k.answers;
      runs = (run.0, k.answers, (run.1).standing, steps_same g s e run.0 (run.1).standing same run.2.0.0, refl, k.runs);
      same = k.same;
    }

runs_append : (g : Gateway) (s : Standing) (es : List Event) (answers : List Answer) (t : Standing) (fs : List Event) (more : List Answer) (u : Standing)
    → RunsFrom g s es answers t → RunsFrom g t fs more u → RunsFrom g s (es ++ fs) (answers ++ more) u
runs_append g s [] answers t fs more u (none, here) h =
    subst (λ (given : List Answer). RunsFrom g s fs given u) (ap (λ given. given ++ more) (sym none)) (subst (λ (x : Standing). RunsFrom g x fs more u) here h)
runs_append g s (e ∷ es) answers t fs more u (a, rest, next, step, split, run) h =
    (a, rest ++ more, next, step, ap (λ given. given ++ more) split, runs_append g next es rest t fs more u run h)

follows_then : (g s t u : Gateway) (es fs : List Event) → Follows g s es t → Follows g t fs u → Follows g s (es ++ fs) u
follows_then g s t u es fs first second = record {
  answers = first.answers ++ second.answers;
  runs = runs_append g s.standing es first.answers t.standing fs second.answers u.standing first.runs second.runs;
  same = second.same;
}

-- what came of the blocks, and then the scan
follows_scan : (g s : Gateway) → IsSame g s → (es : List Event) (t u : Gateway) (a : Answer) → RunsTo (TakesEvent most_deferred) s es t → (TakesEvent most_deferred) t event.Scan a u → Follows g s (es ++ event.Scan ∷ []) u
follows_scan g s same es t u a run last =
    let first = runs_to g s same es t run in
    follows_then g s t u es (event.Scan ∷ []) first (record {
      answers = a ∷ [];
      runs = (a, [], u.standing, steps_same g t event.Scan a u.standing first.same last.0.0, refl, (refl, refl));
      same = same_then g t u first.same last.0.1;
    })

follows_as : (g s t : Gateway) (es fs : List Event) → es ≡ fs → Follows g s fs t → Follows g s es t
follows_as g s t es fs e h = subst (λ (xs : List Event). Follows g s xs t) (sym e) h

-- time that went by is one event of it
same_waited : (pace : RunPace) (g s : Gateway) → IsSame g s → IsSame g (after_wait pace.every s)
same_waited pace g s same = record { site = same.site; maps = same.maps; accepted = same.accepted }

follows_waited : (pace : RunPace) (g s : Gateway) → IsSame g s → (es : List Event) (t : Gateway) → Follows g (after_wait pace.every s) es t → Follows g s (event.Time pace.every ∷ es) t
follows_waited pace g s same es t h = record {
  answers = answer.None ∷ h.answers;
  runs = (answer.None, h.answers, (after_wait pace.every s).standing, (refl, ap (λ (x : Site). after_time x pace.every s.standing) same.site), refl, h.runs);
  same = h.same;
}

follows_whole : (pace : RunPace) (g s : Gateway) → IsSame g s → (p q : Polling) (t : Gateway) (report : Report) (own : List Event) → IsWhole (TakesEvent most_deferred) pace p s q t report own → Follows g s own t
follows_whole pace g s same p q t report own (heard, asked, of, asks, scan, e) =
    let first = runs_to g s same asked heard asks in
    let rest = follows_waited pace g heard first.same ((scan.taken).events ++ event.Scan ∷ []) t (follows_scan g (after_wait pace.every heard) (same_waited pace g heard first.same) (scan.taken).events scan.before t scan.answer (scan.taken).runs scan.scan) in
    follows_as g s t own _ e (follows_then g s heard t asked (event.Time pace.every ∷ ((scan.taken).events ++ event.Scan ∷ [])) first rest)

follows_broken : (pace : RunPace) (g s : Gateway) → IsSame g s → (p q : Polling) (t : Gateway) (fault : LinkFault) (own : List Event) → IsBroken (TakesEvent most_deferred) pace p s fault q t own → Follows g s own t
follows_broken pace g s same p q t fault own (heard, asked, of, asks, inl (stop, e)) =
    let first = runs_to g s same asked heard asks in
    let rest = follows_waited pace g heard first.same (stop.taken).events t (runs_to g (after_wait pace.every heard) (same_waited pace g heard first.same) (stop.taken).events t (stop.taken).runs) in
    follows_as g s t own _ e (follows_then g s heard t asked (event.Time pace.every ∷ (stop.taken).events) first rest)
follows_broken pace g s same p q t fault own (heard, asked, of, asks, inr (stop, e)) =
    let first = runs_to g s same asked heard asks in
    let rest = follows_waited pace g heard first.same ((stop.taken).events ++ event.Scan ∷ []) t (follows_scan g (after_wait pace.every heard) (same_waited pace g heard first.same) (stop.taken).events stop.before t stop.answer (stop.taken).runs stop.scan) in
    follows_as g s t own _ e (follows_then g s heard t asked (event.Time pace.every ∷ ((stop.taken).events ++ event.Scan ∷ [])) first rest)

follows_still : (g s t : Gateway) → IsSame g s → t ≡ s → (events : List Event) → events ≡ [] → Follows g s events t
follows_still g s t same e events none = follows_as g s t events [] none (subst (λ (x : Gateway). Follows g s [] x) (sym e) (record { answers = []; runs = (refl, refl); same = same }))

follows_scans : (pace : RunPace) (g s : Gateway) → IsSame g s → (p : Polling) (reports : List Report) (events : List Event) (q : Polling) (t : Gateway) → AreScans (TakesEvent most_deferred) pace p s reports events q t → Follows g s events t
follows_scans pace g s same p [] events q t (none, here, there) = follows_still g s t same there events none
follows_scans pace g s same p (r ∷ rs) events q t (middle, between, own, more, split, one, rest) =
    let first = follows_whole pace g s same p middle between r own one in
    follows_as g s t events (own ++ more) split (follows_then g s between t own more first (follows_scans pace g between first.same middle rs more q t rest))

follows_end : (g s : Gateway) → IsSame g s → (n : RunPace) (reports : List Report) (events : List Event) (p q : Polling) (t : Gateway) (old new : Option (List ℕ)) (status : ℕ)
    → End (TakesEvent most_deferred) n reports events p s q t old new status → Follows g s events t
follows_end g s same n reports events p q t old new status (inl (none, h)) = follows_still g s t same (ap (λ (m : Moment). m.core) h.still) events none
follows_end g s same n reports events p q t old new status (inr (inl (none, h))) = follows_still g s t same (ap (λ (m : Moment). m.core) h.still) events none
follows_end g s same n reports events p q t old new status (inr (inr h)) = follows_broken n g s same p q t h.fault events h.broken

pub same_self : (g : Gateway) → IsSame g g
same_self g = record { site = refl; maps = refl; accepted = refl }

pub follows_all : (n : RunPace) (p : Polling) (s : Gateway) (events : List Event) (q : Polling) (t : Gateway) (old new : Option (List ℕ)) (status : ℕ) → DoesScans (TakesEvent most_deferred) n p s events q t old new status
    → ((answers : List Answer) × RunsFrom s s.standing events answers t.standing) × IsSame s t
follows_all n p s events q t old new status h =
    let first = follows_scans n s s (same_self s) p h.reports h.before h.middle h.between h.whole in
    let second = follows_end s h.between first.same n h.reports h.behind h.middle q t old new status h.end in
    let all = follows_as s s t events (h.before ++ h.behind) h.split (follows_then s s h.between t h.before h.behind first second) in
    ((all.answers, all.runs), all.same)
