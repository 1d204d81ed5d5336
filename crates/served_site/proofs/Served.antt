-- What a service of accepted programs does is by the steps of a service, on one site.
use Rattle.std.proofs.Common.{◌≡◌, inl, inr, List, ℕ, ap, ◌∙◌}
use Rattle.scan_vm.specs.Resuming.{resumed}
use Rattle.site_model.specs.declared.site.Site.{Site}
use Rattle.il_assemble.specs.Meaning.{Program}
use Rattle.verifier.specs.Verified.{Acceptance}
use Rattle.gateway.specs.event_core.Core.{Gateway}
use Rattle.service.specs.Stages as stages
use Rattle.service.specs.Stages.{AnyStep, IsReached, Stage}
use Rattle.service.proofs.Courses.{any_goes}
use Rattle.service.proofs.Runs.{goes_site}
use Rattle.served_site.specs.Serving as serving
use Rattle.served_site.specs.Serving.{Serves}

module _ (site_text : List ℕ) (texts : List (List ℕ)) (site : Site) where
  by_step : (s t : Stage) → IsReached s → AnyStep s t → IsReached t
  by_step s t reached step = record { first = reached.first; opening = reached.opening; course = stages.goes reached.course t step }

  pub serves_reached : (p : Program) (a : Acceptance) (s : Stage) → Serves site_text texts site p a s → IsReached s
  serves_reached p a s (serving.starts text q b accepts matched kept first start) = record { first = s; opening = start.first; course = stages.stays s }
  serves_reached p a s (serving.goes {s = t} before u step) = by_step t s (serves_reached p a t before) (inl step)
  serves_reached p a s (serving.takes {p = q} {a = b} {s = t} before text r c accepts kept u is) = by_step t s (serves_reached q b t before) (inr (resumed a kept, is))

  step_site : (s t : Stage) → AnyStep s t → t.core.site ≡ s.core.site
  step_site s t step = goes_site s.core t.core (any_goes s t (stages.goes (stages.stays s) t step))

  pub serves_site : (p : Program) (a : Acceptance) (s : Stage) → Serves site_text texts site p a s → s.core.site ≡ site
  serves_site p a s (serving.starts text q b accepts matched kept first start) = ap (λ (g : Gateway). g.site) start.core
  serves_site p a s (serving.goes {s = t} before u step) = step_site t s (inl step) ∙ serves_site p a t before
  serves_site p a s (serving.takes {p = q} {a = b} {s = t} before text r c accepts kept u is) = step_site t s (inr (resumed a kept, is)) ∙ serves_site q b t before
