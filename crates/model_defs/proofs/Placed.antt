-- Points laid out one after another: what is placed, and what remains.
use Rattle.std.proofs.Common.{◌≡◌, ℕ, suc, zero, ◌+◌, ◌≤◌, ◌≢◌, true, ◌&&◌, List, [], ◌∷◌, ◌++◌, length, map, Some, option_map, refl, sym, ap, ◌∙◌, arith, append_assoc, append-nil, Bor}
use Rattle.std.proofs.lemmas.Option.{slice_get_within}
use Rattle.std.proofs.lemmas.List.{map-append, take-append-le, take_all}
use Rattle.std.proofs.lemmas.List.Sums.{sum_by-append, sum_by-cons}
use Rattle.std.specs.Prelude.{Bool, slice_get}
use Rattle.std.specs.List.{list_all}
use Rattle.point_types.proofs.Truths.{both}
use Rattle.point_types.specs.declared.kind.Kind.TheVariants as kinds
use Rattle.model_defs.specs.Layout.{registers_of, IsInOrder}
use Rattle.model_defs.specs.Definition.{Description, is_factor, all_registers, has_all_factors, factor_told, description_told, ArePoints, HasFactorsAmong}
use Rattle.model_defs.specs.Descriptions.{factor_view, description_view, descriptions_view}
use Rattle.model_defs.specs.declared.description.Description as Read
use Rattle.model_defs.proofs.Entries.{Entries}
use Rattle.model_defs.specs.declared.point.Point.{Point}
use Rattle.model_defs.specs.declared.point.Sf.TheVariants as places

-- `placed` are the points of the descriptions ds up to `rest`, and end at `offset`
pub record IsPlaced (ds : List Description) (placed : List Point) (rest : List Description) (offset : ℕ) : Type 0 where
  pub told : ds ≡ map (description_told ds) placed ++ rest
  pub in_order : IsInOrder placed
  pub ends : registers_of placed ≡ offset
  pub fits : offset + all_registers rest ≡ all_registers ds
  pub among : HasFactorsAmong ds placed
  pub scaled : has_all_factors ds ds ≡ has_all_factors ds rest
  pub are_scaled : has_all_factors ds (map (description_told ds) placed) ≡ true

-- the element of a list with one more at its end
last_or : {X : Type 0} (xs : List X) (x y : X) (i : ℕ) {P : Type 0} → slice_get (xs ++ x ∷ []) i ≡ Some y → (slice_get xs i ≡ Some y → P) → (i ≡ length xs → x ≡ y → P) → P
last_or [] x y zero h before last = last refl (cc)
last_or [] x y (suc i) h before last = absurd (cc)
last_or (z ∷ xs) x y zero h before last = before h
last_or (z ∷ xs) x y (suc i) h before last = last_or xs x y i h before (λ e. last (ap suc e))

-- what holds of all holds with one more that it holds of
all_more : {X : Type 0} (test : X → Bool) (xs : List X) (x : X) → list_all test xs ≡ true → test x ≡ true → list_all test (xs ++ x ∷ []) ≡ true
all_more test [] x all good = rw good refl
all_more test (y ∷ ys) x all good =
    let s = both (test y) (list_all test ys) all in
    rw s.0 (all_more test ys x s.1 good)

module _ (ds : List Description) (placed : List Point) (d : Description) (rest : List Description) (offset : ℕ) (p : Point)
    (so_far : IsPlaced ds placed (d ∷ rest) offset) (here : p.offset ≡ offset) (is : description_told ds p ≡ d) where
  told_more : ds ≡ map (description_told ds) (placed ++ p ∷ []) ++ rest
  told_more = so_far.told ∙ sym (rw (map-append (description_told ds) placed (p ∷ []), append_assoc, is) refl)

  size_more : p.size ≡ d.size
  size_more = ap (λ x. x.size) is

  ends_more : registers_of (placed ++ p ∷ []) ≡ offset + d.size
  ends_more = sum_by-append (λ q. q.size) placed (p ∷ []) ∙ omega (arith, so_far.ends, size_more)

  fits_more : (offset + d.size) + all_registers rest ≡ all_registers ds
  fits_more = omega (arith, so_far.fits, sum_by-cons (λ x. x.size) d rest)

  order_more : IsInOrder (placed ++ p ∷ [])
  order_more i q h = last_or placed p q i h
      (λ b. let within : i ≤ length placed = omega (arith, slice_get_within placed i q b) in so_far.in_order i q b ∙ sym (ap registers_of (take-append-le i placed (p ∷ []) within)))
      (λ e x. let within : i ≤ length placed = omega arith in let all : length placed ≤ i = omega arith in
      ap (λ y. y.offset) (sym x) ∙ here ∙ sym so_far.ends ∙ sym (ap registers_of (take-append-le i placed (p ∷ []) within ∙ take_all i placed all)))

  among_more : ((j : ℕ) → p.sf ≡ places.At j → option_map (λ x. x.kind) (slice_get ds j) ≡ Some kinds.Sunssf) → HasFactorsAmong ds (placed ++ p ∷ [])
  among_more factor i j q h e = last_or placed p q i h (λ b. so_far.among i j q b e) (λ _ x. factor j (ap (λ y. y.sf) x ∙ e))

  scaled_more : is_factor ds d.factor ≡ true → has_all_factors ds (map (description_told ds) (placed ++ p ∷ [])) ≡ true
  scaled_more good =
      rw (map-append (description_told ds) placed (p ∷ []))
      (all_more (λ x. is_factor ds x.factor) (map (description_told ds) placed) (description_told ds p) so_far.are_scaled (ap (λ x. is_factor ds x.factor) is ∙ good))

  -- one point more
  pub placed_more : ((j : ℕ) → p.sf ≡ places.At j → option_map (λ x. x.kind) (slice_get ds j) ≡ Some kinds.Sunssf) → is_factor ds d.factor ≡ true
      → IsPlaced ds (placed ++ p ∷ []) rest (offset + d.size)
  placed_more factor good = record {
    told = told_more;
    in_order = order_more;
    ends = ends_more;
    fits = fits_more;
    among = among_more factor;
    scaled = so_far.scaled ∙ ap (λ b. b && has_all_factors ds rest) good;
    are_scaled = scaled_more good;
  }

-- the next entry has been placed
pub placed_step : (ds : List Description) (placed placed' : List Point) (r r' : Entries) (k : Bor (List ℕ)) (d : Read.Description) (offset : ℕ) (p : Point)
    → IsPlaced ds placed (descriptions_view r) offset → r ≡ (k, d) ∷ r' → placed' ≡ placed ++ p ∷ []
    → p.offset ≡ offset → p.name ≡ k.now → p.kind ≡ d.kind → p.size ≡ d.size → p.writable ≡ d.writable
    → factor_told ds p.sf ≡ factor_view d.factor → ((j : ℕ) → p.sf ≡ places.At j → option_map (λ x. x.kind) (slice_get ds j) ≡ Some kinds.Sunssf)
    → is_factor ds (factor_view d.factor) ≡ true
    → IsPlaced ds placed' (descriptions_view r') (offset + d.size)
placed_step ds placed placed' r r' k d offset p so_far step push here name kind size writable factor among good =
    let next : IsPlaced ds placed (description_view k.now d ∷ descriptions_view r') offset = rw step at so_far in
    let told : description_told ds p ≡ description_view k.now d = λ i. record { name = name i; kind = kind i; size = size i; factor = factor i; writable = writable i } in
    rw push (placed_more ds placed (description_view k.now d) (descriptions_view r') offset p next here told among good)

-- all entries have been placed
pub placed_end : (ds : List Description) (placed : List Point) (r : Entries) (offset : ℕ) → IsPlaced ds placed (descriptions_view r) offset → r ≡ [] → ArePoints ds placed
placed_end ds placed r offset so_far none = sym (so_far.told ∙ ap (λ x. map (description_told ds) placed ++ descriptions_view x) none ∙ append-nil (map (description_told ds) placed))
