-- A point has one list of words at most, and so has the whole map.
use Rattle.std.proofs.Common.{◌≡◌, inl, inr, ℕ, List, [], ◌∷◌, ◌++◌, Option, Some, None, Ok, sym, ap, ◌∙◌}
use Rattle.std.specs.Prelude.{ℤ}
use Rattle.point_types.specs.declared.kind.Kind.{Kind}
use Rattle.point_types.specs.declared.reading.Reading.{Reading}
use Rattle.point_types.proofs.RoundTrips.{at_most_one_encoding}
use Rattle.site_model.specs.declared.site.Site.{Site}
use Rattle.gateway.specs.declared.served.amount.Amount.{Amount}
use Rattle.gateway.specs.declared.served.point.OwnPoint.{OwnPoint}
use Rattle.gateway.specs.declared.served.point.OwnPoint.TheVariants as own
use Rattle.gateway.specs.Laws.{AtMostOneServedImage}
use Rattle.gateway.specs.served.Points.{own_points}
use Rattle.gateway.specs.served.ServedImage.{amount_from, ArePointWords, AreServed, AreWordsOf}
use Rattle.point_writer.proofs.Plans.{same_ok}

one_number : (kind : Kind) (o : Option Amount) (a b : List ℕ) → AreWordsOf kind o a → AreWordsOf kind o b → a ≡ b
one_number kind None a b h k = h ∙ sym k
one_number kind (Some x) a b (inl h) (inl k) = same_ok (at_most_one_encoding kind x.number x.exponent x.factor (Ok a) (Ok b) h k)
one_number kind (Some x) a b (inl h) (inr k) = absurd (k.0 a h)
one_number kind (Some x) a b (inr h) (inl k) = absurd (h.0 b k)
one_number kind (Some x) a b (inr h) (inr k) = h.1 ∙ sym k.1

module _ (site : Site) (outputs : List (Option ℤ)) (readings : List Reading) (sets : List (Option ℤ)) where
  one_point : (p : OwnPoint) (a b : List ℕ) → ArePointWords site outputs readings sets p a → ArePointWords site outputs readings sets p b → a ≡ b
  one_point (own.Word w) a b h k = h ∙ sym k
  one_point (own.Text size entry) a b h k = h ∙ sym k
  one_point (own.Number kind factor from) a b h k = one_number kind (amount_from site outputs readings sets factor from) a b h k

  one_list : (points : List OwnPoint) (a b : List ℕ) → AreServed site outputs readings sets points a → AreServed site outputs readings sets points b → a ≡ b
  one_list [] a b h k = h ∙ sym k
  one_list (p ∷ ps) a b h k =
      h.4 ∙ ap (λ x. x ++ h.1) (one_point p h.0 k.0 h.2 k.2) ∙ ap (λ x. k.0 ++ x) (one_list ps h.1 k.1 h.3 k.3) ∙ sym k.4

pub at_most_one_image : AtMostOneServedImage
at_most_one_image site outputs readings sets a b h k = one_list site outputs readings sets (own_points site) a b h k
