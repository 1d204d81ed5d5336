-- The number that goes out for an output in place of the one that the program stored.
use Rattle.std.proofs.Common.{◌≡◌, ℕ, ℤ, ◌≤ℤ◌, List, Option, Some, None, IfNone, IfSome, sym, ap, subst, slice_get, ◌∙◌}
use Rattle.gateway.specs.event_core.Core.{Gateway}
use Rattle.site_model.specs.Readings.{known_at}
use Rattle.site_model.specs.declared.tag.SiteTag.{SiteTag}
use Rattle.point_writer.specs.Fitting.{GoesOut}
use Rattle.point_writer.specs.SetPoint.{IsFactorFor, factor_of}
use Rattle.service_alarms.specs.Fitted.{IsFitted, NoneIsFitted}

same : {X : Type 0} {o : Option X} {a b : X} → Some a ≡ o → o ≡ Some b → a ≡ b
same p q = cc

module _ (g : Gateway) (i place : ℕ) (t : SiteTag) (stored : ℤ) (f : Option ℤ) (output : Some place ≡ slice_get g.site.outs i) (named : Some t ≡ slice_get g.site.tags place)
    (is_stored : Some stored ≡ known_at (g.standing.last).outputs place) (by : IsFactorFor g.site.tags g.site.outs g.site.wants g.maps (g.standing.last).blocks i f) where
  factor : f ≡ factor_of g.maps g.site.wants (g.standing.last).blocks t
  factor = by place t (sym output) (sym named)

  pub fitted : (o : Option ℤ) → IfSome o (λ n. GoesOut t f stored n × (n ≡ stored → ⊥)) → IfSome o (IsFitted g i)
  fitted None h = tt
  fitted (Some n) h = record {
    number = place;
    output = sym output;
    tag = t;
    named = sym named;
    stored = stored;
    is_stored = sym is_stored;
    goes = subst (λ x. GoesOut t x stored n) factor h.0;
    other = h.1;
  }

  pub none_fitted : (o : Option ℤ) → IfNone o ((n : ℤ) → t.low ≤ℤ stored → stored ≤ℤ t.high → GoesOut t f stored n → n ≡ stored) → IfNone o (NoneIsFitted g i)
  none_fitted (Some n) h = tt
  none_fitted None h = λ number u v n at there is low high goes.
      let place_is : place ≡ number = same output at in
      let tag_is : t ≡ u = same (named ∙ ap (slice_get g.site.tags) place_is) there in
      let number_is : stored ≡ v = same (is_stored ∙ ap (known_at (g.standing.last).outputs) place_is) is in
      let from = subst (λ x. x ≤ℤ stored) (ap (λ (x : SiteTag). x.low) (sym tag_is)) (subst (λ x. u.low ≤ℤ x) (sym number_is) low) in
      let to = subst (λ x. stored ≤ℤ x) (ap (λ (x : SiteTag). x.high) (sym tag_is)) (subst (λ x. x ≤ℤ u.high) (sym number_is) high) in
      let own = subst (λ (x : SiteTag). GoesOut x (factor_of g.maps g.site.wants (g.standing.last).blocks x) v n) (sym tag_is) goes in
      let by_own = subst (λ x. GoesOut t x v n) (sym factor) own in
      h n from to (subst (λ x. GoesOut t f x n) (sym number_is) by_own) ∙ number_is
