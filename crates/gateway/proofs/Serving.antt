-- The served image, point by point.
use Rattle.std.proofs.Common.{◌≡◌, ℕ, ◌+◌, ◌-◌, ◌<◌, ◌≤◌, List, [], ◌++◌, length, take, drop, get_or, refl, sym, ap, subst, ◌∙◌, arith, append_assoc, rules}
use Rattle.std.specs.Prelude.{ℤ, Option}
use Rattle.std.proofs.lemmas.List.{drop_more, drop_all, take_all, append-nil}
use Rattle.std.proofs.lemmas.List.Sums.{sum_by-drop_more}
use Rattle.std.proofs.lemmas.Slice.{take-put_mid, overwrites}
use borrow.Rule.Slice.PartMut.{put_mid}
use Rattle.point_types.specs.declared.reading.Reading.{Reading}
use Rattle.site_model.specs.declared.site.Site.{Site}
use Rattle.gateway.specs.declared.served.point.OwnPoint.{OwnPoint}
use Rattle.gateway.specs.served.Points.{registers_of, all_registers}
use Rattle.gateway.specs.served.ServedImage.{ArePointWords, AreServed}

pub length_put : (xs ys : List ℕ) (a n : ℕ) → length ys ≡ n → a + n ≤ length xs → length (put_mid a (a + n - a) xs ys) ≡ length xs
length_put xs ys a n h l = search (rules, overwrites)

module _ (site : Site) (outputs : List (Option ℤ)) (readings : List Reading) (sets : List (Option ℤ)) where
  abbrev Served : List OwnPoint → List ℕ → Type 0
  Served points words = AreServed site outputs readings sets points words

  pub registers_more : (points : List OwnPoint) (i at n : ℕ) (image : List ℕ) (d : OwnPoint) → i < length points → n ≡ registers_of (get_or points i d) → at + all_registers (drop i points) ≡ length image →
      at + n + all_registers (drop (i + 1) points) ≡ length image
  registers_more points i at n image d h s e = omega (arith, s, e, sum_by-drop_more registers_of points i d h)

  pub served_more : (points : List OwnPoint) (i at n : ℕ) (image new : List ℕ) (d : OwnPoint) → i < length points → n ≡ registers_of (get_or points i d) → length new ≡ n
      → ArePointWords site outputs readings sets (get_or points i d) new → at + all_registers (drop i points) ≡ length image
      → ((behind : List ℕ) → Served (drop i points) behind → Served points (take at image ++ behind))
      → (behind : List ℕ) → Served (drop (i + 1) points) behind → Served points (take (at + n) (put_mid at (at + n - at) image new) ++ behind)
  served_more points i at n image new d h s l words e so_far behind served =
      let within : at + n ≤ length image = omega (arith, registers_more points i at n image d h s e) in
      let front : take (at + n) (put_mid at (at + n - at) image new) ≡ take at image ++ new = take-put_mid at (at + n - at) image new (at + n) (omega (arith, l)) (omega (arith, within)) in
      let rest : Served (drop i points) (new ++ behind) = subst (λ ps. Served ps (new ++ behind)) (sym (drop_more points i d h)) (new, behind, words, served, refl) in
      rw front (rw (append_assoc (take at image) new behind) (so_far (new ++ behind) rest))

  pub served_whole : (points : List OwnPoint) (i at : ℕ) (image : List ℕ) → length points ≤ i → at + all_registers (drop i points) ≡ length image
      → ((behind : List ℕ) → Served (drop i points) behind → Served points (take at image ++ behind)) → Served points image
  served_whole points i at image h e so_far =
      let none = drop_all i points h in
      let rest : Served (drop i points) [] = subst (λ ps. Served ps []) (sym none) refl in
      let registers : at + 0 ≡ length image = ap (λ ps. at + all_registers ps) (sym none) ∙ e in
      subst (λ words. Served points words) (append-nil (take at image) ∙ take_all at image (omega (arith, registers))) (so_far [] rest)
