-- A core's course is site runs, one after another.
use Rattle.std.proofs.Common.{◌≡◌, ℕ, List, [], ◌∷◌, ◌++◌, refl, ap, subst, ◌∙◌}
use Rattle.site_model.specs.declared.site.Site.{Site}
use Rattle.scan_code.specs.Image.{Image}
use Rattle.verifier.specs.Verified.{Acceptance}
use Rattle.gateway.specs.declared.event_core.event.Event.{Event}
use Rattle.gateway.specs.declared.event_core.event.Answer.{Answer}
use Rattle.gateway.specs.event_core.Core.{Gateway, StepsOn, adopting, numbers_of}
use Rattle.gateway.specs.event_core.SiteRun.{Runs, Standing, Steps}
use Rattle.service_parts.specs.Course.{AreRuns, CoursesAreSiteRuns, Goes, GoesOn, IsRun, stays, steps, learns}
use Rattle.service_parts.specs.Course as course

runs_then : (site : Site) (image : Image) (links : List ℕ) (budget : ℕ) (s : Standing) (es : List Event) (answers : List Answer) (t : Standing) (e : Event) (a : Answer) (u : Standing)
    → Runs site image links budget s es answers t → Steps site image links budget t e a u → Runs site image links budget s (es ++ e ∷ []) (answers ++ a ∷ []) u
runs_then site image links budget s [] answers t e a u run step =
    (a, [], u, subst (λ x. Steps site image links budget x e a u) run.1 step, ap (λ l. l ++ a ∷ []) run.0, (refl, refl))
runs_then site image links budget s (first ∷ es) answers t e a u (own, rest, next, one, is, more) step =
    (own, rest ++ a ∷ [], next, one, ap (λ l. l ++ a ∷ []) is, runs_then site image links budget next es rest t e a u more step)

moved : (g h : Gateway) (e : Event) (a : Answer) (i : Gateway) → h.site ≡ g.site → h.machine.accepted ≡ g.machine.accepted → StepsOn h e a i
    → Steps g.site g.machine.accepted.image (numbers_of g.machine.accepted) g.machine.accepted.budget h.standing e a i.standing
moved g h e a i site accepted step =
    subst (λ (s : Site). Steps s g.machine.accepted.image (numbers_of g.machine.accepted) g.machine.accepted.budget h.standing e a i.standing) site
    (subst (λ (x : Acceptance). Steps h.site x.image (numbers_of x) x.budget h.standing e a i.standing) accepted step)

is_run : (g h : Gateway) → Goes g h → IsRun g h
is_run g h (stays s) = record { site = refl; program = refl; events = []; answers = []; run = (refl, refl) }
is_run g h (learns {h = middle} before device found is) =
    let r = is_run g middle before in
    record { site = r.site; program = r.program; events = r.events; answers = r.answers; run = r.run }
is_run g h (steps {h = middle} before e kind a i one) =
    let r = is_run g middle before in
    record {
      site = (((one.1).0).1).site ∙ r.site;
      program = (((one.1).0).1).accepted ∙ r.program;
      events = r.events ++ e ∷ [];
      answers = r.answers ++ a ∷ [];
      run = runs_then g.site g.machine.accepted.image (numbers_of g.machine.accepted) g.machine.accepted.budget g.standing r.events r.answers middle.standing e a i.standing r.run (moved g middle e a i r.site r.program ((one.1).0).0);
    }

pub courses_are_site_runs : CoursesAreSiteRuns
courses_are_site_runs g h (course.goes run) = course.first (is_run g h run)
courses_are_site_runs g h (course.adopts {h = middle} before machine links i after) = course.next (courses_are_site_runs g middle before) machine links h (is_run (adopting machine middle) h after)

-- the site is one all along
pub runs_site : (g h : Gateway) → AreRuns g h → h.site ≡ g.site
runs_site g h (course.first run) = run.site
runs_site g h (course.next {h = middle} before machine links i run) = run.site ∙ runs_site g middle before

pub goes_site : (g h : Gateway) → GoesOn g h → h.site ≡ g.site
goes_site g h led = runs_site g h (courses_are_site_runs g h led)
