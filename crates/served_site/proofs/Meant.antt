-- Each scan of a service computes what its program means.
use Rattle.std.proofs.Common.{◌≡◌, inl, inr, ℕ, ℤ, Bool, true, false, List, Option, Ok, refl, sym, subst, ◌∙◌}
use Rattle.scan_code.specs.Image.{Image, IsProper}
use Rattle.scan_vm.specs.Resuming.{first_numbers, resumed}
use Rattle.scan_vm.proofs.Accepted.{resumed_sized, resumed_within}
use Rattle.site_model.specs.declared.site.Site.{Site}
use Rattle.site_model.specs.Readings.{AreSettings}
use Rattle.il_assemble.proofs.Rules.{images_are_proper}
use Rattle.il_assemble.specs.Correct.{AreVariables, DoesWhatItMeans}
use Rattle.il_assemble.specs.Meaning.{Program}
use Rattle.verifier.specs.Links.{links_from}
use Rattle.verifier.specs.Verdict.{judged}
use Rattle.verifier.specs.Verified.{Acceptance, HasLinks}
use Rattle.gateway.specs.declared.event_core.event.Event.{Event}
use Rattle.gateway.specs.declared.event_core.event.Event.TheVariants as event
use Rattle.gateway.specs.declared.event_core.event.Answer.{Answer}
use Rattle.gateway.specs.event_core.Core.{Gateway, StepsOn, numbers_of}
use Rattle.gateway.specs.event_core.SiteRun.{Standing, Steps, after_time}
use Rattle.service_requests.specs.declared.request_end.RequestEnd.{RequestEnd}
use Rattle.service_requests.specs.declared.request_end.RequestEnd.TheVariants as fate
use Rattle.service.specs.Rounds.{event_of, since}
use Rattle.service.specs.Stages as stages
use Rattle.service.specs.Stages.{Adopts, IsReached, RoundStep, RunStep, Scans, Stage, TakesEvent, Tells, TimeStep}
use Rattle.service.proofs.Blocks.{scans_are_of_what_was_told}
use Rattle.commands.specs.Accepted.{Accepts, most_deferred}
use Rattle.commands.proofs.MeaningLemmas.{IsKept, begun_kept, from_ranges, left_variables, step_meant, stored_ranged}
use Rattle.served_site.specs.Serving as serving
use Rattle.served_site.specs.Serving.{IsScanOf, IsStart, ScansMeanTheProgram, Serves, at_scan}
use Rattle.served_site.proofs.Served.{serves_reached}

module _ (site : Site) (p : Program) (a : Acceptance) (right : DoesWhatItMeans p a.image) (linked : links_from site.tags 0 a.image.tags ≡ Ok a.links) (proper : IsProper a.image) (verdict : judged a.image site.tags most_deferred ≡ Ok a.budget) (matched : HasLinks site.tags a.links) where
  -- the core is of this site and program, and what is set and the variables lie in their ranges
  record Keeps (g : Gateway) : Type 0 where
    site_is : g.site ≡ site
    program_is : g.machine.accepted ≡ a
    kept : IsKept site p a right linked proper verdict matched g.standing

  steps_here : (g : Gateway) (e : Event) (r : Answer) (h : Gateway) → Keeps g → StepsOn g e r h → Steps site a.image (numbers_of a) a.budget g.standing e r h.standing
  steps_here g e r h keeps steps =
      subst (λ (x : Acceptance). Steps site x.image (numbers_of x) x.budget g.standing e r h.standing) keeps.program_is
      (subst (λ (x : Site). Steps x g.machine.accepted.image (numbers_of g.machine.accepted) g.machine.accepted.budget g.standing e r h.standing) keeps.site_is steps)

  event_keeps : (e : Event) (g h : Gateway) → TakesEvent e g h → Keeps g → Keeps h
  event_keeps e g h (r, one) keeps =
      let advances = (one.1).0 in
      record {
        site_is = advances.1.site ∙ keeps.site_is;
        program_is = advances.1.accepted ∙ keeps.program_is;
        kept = (step_meant site p a right linked proper verdict matched g.standing e r h.standing keeps.kept (steps_here g e r h keeps advances.0)).1;
      }

  told_keeps : (i : ℕ) (f : RequestEnd) (is_new : Bool) (s t : Stage) → Tells i f is_new s t → Keeps s.core → Keeps t.core
  told_keeps i f is_new s t is keeps = event_keeps (event_of is.want f) s.core t.core is.told keeps

  round_keeps : (s t : Stage) → RoundStep s t → Keeps s.core → Keeps t.core
  round_keeps s t (stages.loses i is) keeps = told_keeps i fate.Lost false s t is keeps
  round_keeps s t (stages.lacks i is) keeps = told_keeps i fate.Lost true s t is.told keeps
  round_keeps s t (stages.opens device next is) keeps = subst Keeps (sym is.core) keeps
  round_keeps s t (stages.ends device is) keeps = subst Keeps (sym is.core) keeps
  round_keeps s t (stages.skips device is) keeps = subst (λ (x : Stage). Keeps x.core) (sym is) keeps
  round_keeps s t (stages.learns device found is) keeps = subst (λ (x : Stage). Keeps x.core) (sym is.same) (record { site_is = keeps.site_is; program_is = keeps.program_is; kept = keeps.kept })

  time_keeps : (s t : Stage) → TimeStep s t → Keeps s.core → Keeps t.core
  time_keeps s t (stages.scans now is) keeps = event_keeps event.Scan is.waited t.core is.runs (event_keeps (event.Time (since s.round.at now)) s.core is.waited is.waits keeps)
  time_keeps s t (stages.waits ms is) keeps = event_keeps (event.Time ms) s.core t.core is.told keeps

  run_keeps : (s t : Stage) → RunStep s t → Keeps s.core → Keeps t.core
  run_keeps s t (inl (inl step)) keeps = round_keeps s t step keeps
  run_keeps s t (inl (inr (i, o, is))) keeps = told_keeps i (fate.Told o) true s t is keeps
  run_keeps s t (inr (inl (pdu, is))) keeps = event_keeps (event.Client pdu) s.core t.core is.told keeps
  run_keeps s t (inr (inr step)) keeps = time_keeps s t step keeps

  -- the variables that begin with what is kept of them, or else with their start values
  begun_within : (kept : List (Option ℤ)) → AreVariables a.image.vars (first_numbers a.image.vars kept)
  begun_within kept = from_ranges a.image.vars (first_numbers a.image.vars kept) (resumed_sized a.image.vars kept) (resumed_within a.image.vars kept)

  start_keeps : (kept : List (Option ℤ)) (first : Stage) → IsStart site a kept first → Keeps first.core
  start_keeps kept first start =
      subst Keeps (sym start.core) (record { site_is = refl; program_is = refl; kept = begun_kept site p a right linked proper verdict matched (first_numbers a.image.vars kept) (begun_within kept) })

  -- put in for another program, after which what clients set lies in its ranges
  put_in_keeps : (kept : List (Option ℤ)) (s t : Stage) → Adopts (resumed a kept) s t → s.core.site ≡ site → AreSettings site.tags s.core.standing.sets → Keeps t.core
  put_in_keeps kept s t is same ranged =
      subst (λ (x : Stage). Keeps x.core) (sym is.same) (record { site_is = same; program_is = refl; kept = record { sets = ranged; variables = begun_within kept } })

  -- what is told of time changes the core in that alone
  waited_so : (g h : Gateway) (ms : ℕ) → TakesEvent (event.Time ms) g h → h.standing ≡ after_time g.site ms g.standing
  waited_so g h ms (r, one) = (((one.1).0).0).1

  scan_of : (s t : Stage) (now : ℕ) → Keeps s.core → IsReached s → Scans now s t → IsScanOf site p a now s t
  scan_of s t now before reached scans =
      let w = scans.waited in
      let keeps = event_keeps (event.Time (since s.round.at now)) s.core w scans.waits before in
      let same = waited_so s.core w (since s.round.at now) scans.waits in
      let advances = ((scans.runs.1).1).0 in
      let stepped = steps_here w event.Scan scans.runs.0 t.core keeps advances.0 in
      let here = subst (λ (x : Standing). Steps site a.image (numbers_of a) a.budget x event.Scan scans.runs.0 t.core.standing) same stepped in
      let kept_here = subst (IsKept site p a right linked proper verdict matched) same keeps.kept in
      let meant = (step_meant site p a right linked proper verdict matched (at_scan now s) event.Scan scans.runs.0 t.core.standing kept_here here).0 in
      let scan = meant.1.scan in
      record {
        same_site = before.site_is;
        same_program = before.program_is;
        blocks = scans_are_of_what_was_told s t now reached scans;
        readings = scan.readings;
        steps = scan.steps;
        end = scan.end;
        safe = record {
          ended = scan.ended;
          bounded = scan.bounded;
          variables = left_variables site p a right linked proper verdict matched (at_scan now s) t.core.standing kept_here scan;
          outputs = stored_ranged site p a right linked proper verdict matched (at_scan now s) t.core.standing kept_here scan;
        };
        means = record { each = scan.each; read = scan.read; computed = meant.1.means };
        leaves = scan.after;
        planned = scans.planned;
      }

-- ---- whichever program runs

-- what is known of a program that was accepted for the site, and of the core that runs it
record Stands (site : Site) (p : Program) (a : Acceptance) (s : Stage) : Type 0 where
  right : DoesWhatItMeans p a.image
  linked : links_from site.tags 0 a.image.tags ≡ Ok a.links
  proper : IsProper a.image
  verdict : judged a.image site.tags most_deferred ≡ Ok a.budget
  matched : HasLinks site.tags a.links
  keeps : Keeps site p a right linked proper verdict matched s.core

module _ (site_text : List ℕ) (texts : List (List ℕ)) (site : Site) where
  module _ (text : List ℕ) (p : Program) (a : Acceptance) (accepts : Accepts site_text text texts site p a) where
    right_of : DoesWhatItMeans p a.image
    right_of = subst (DoesWhatItMeans p) (sym ((accepts.accepted).accepted).kept) (accepts.accepted).right

    linked_of : links_from site.tags 0 a.image.tags ≡ Ok a.links
    linked_of = subst (λ (i : Image). links_from site.tags 0 i.tags ≡ Ok a.links) (sym ((accepts.accepted).accepted).kept) ((accepts.accepted).accepted).linked

    proper_of : IsProper a.image
    proper_of = subst IsProper (sym ((accepts.accepted).accepted).kept) (images_are_proper accepts.tree p (accepts.accepted).resolved)

    verdict_of : judged a.image site.tags most_deferred ≡ Ok a.budget
    verdict_of = subst (λ (i : Image). judged i site.tags most_deferred ≡ Ok a.budget) (sym ((accepts.accepted).accepted).kept) ((accepts.accepted).accepted).judged

    stands_at : (matched : HasLinks site.tags a.links) (s : Stage) → Keeps site p a right_of linked_of proper_of verdict_of matched s.core → Stands site p a s
    stands_at matched s keeps = record { right = right_of; linked = linked_of; proper = proper_of; verdict = verdict_of; matched = matched; keeps = keeps }

  serves_stands : (p : Program) (a : Acceptance) (s : Stage) → Serves site_text texts site p a s → Stands site p a s
  serves_stands p a s (serving.starts text q b accepts matched kept first start) =
      stands_at text p a accepts matched s
      (start_keeps site p a (right_of text p a accepts) (linked_of text p a accepts) (proper_of text p a accepts) (verdict_of text p a accepts) matched kept s start)
  serves_stands p a s (serving.goes {s = t} before u step) =
      let x = serves_stands p a t before in
      record {
        right = x.right;
        linked = x.linked;
        proper = x.proper;
        verdict = x.verdict;
        matched = x.matched;
        keeps = run_keeps site p a x.right x.linked x.proper x.verdict x.matched t s step x.keeps;
      }
  serves_stands p a s (serving.takes {p = q} {a = b} {s = t} before text r c accepts kept u is) =
      let x = serves_stands q b t before in
      let matched : HasLinks site.tags a.links = subst (λ (y : Site). HasLinks y.tags a.links) (x.keeps).site_is is.links in
      stands_at text p a accepts matched s
      (put_in_keeps site p a (right_of text p a accepts) (linked_of text p a accepts) (proper_of text p a accepts) (verdict_of text p a accepts) matched kept t s is (x.keeps).site_is ((x.keeps).kept).sets)

pub scans_mean_the_program : ScansMeanTheProgram
scans_mean_the_program site_text texts site p a old new now serves scans =
    let x = serves_stands site_text texts site p a old serves in
    scan_of site p a x.right x.linked x.proper x.verdict x.matched old new now x.keeps (serves_reached site_text texts site p a old serves) scans
