-- The total of readings in their ranges lies between the ends, and so does that of those that have a value; so it is shown
-- where all between them is.
use Rattle.std.proofs.Common.{rules, ◌≡◌, ℕ, ◌^◌, ◌-◌, List, [], ◌∷◌, Bool, true, false, if◌then◌else◌, ℤ, pos, neg_ℤ, ◌+ℤ◌, ◌≤ℤ◌, Option, Some, None, IsSome, unwrap_or, option_and_then, option_map, refl, sym, ap, subst, ◌∙◌, arith}
use Rattle.std.specs.Prelude.{IfSome, IsSomeAnd, int_le, slice_get}
use Rattle.std.proofs.lemmas.Int.{ints}
use Rattle.std.proofs.lemmas.List.Elements.{All-head, All-tail}
use Rattle.point_types.specs.declared.il_type.IlType.TheVariants as il
use Rattle.point_types.specs.declared.kind.Kind.{Kind}
use Rattle.point_types.specs.declared.reading.Reading.{Reading}
use Rattle.point_types.specs.declared.reading.Reading.TheVariants as reading
use Rattle.point_types.specs.Value.{low_of, high_of}
use Rattle.point_types.proofs.Truths.{and_both}
use Rattle.model_defs.specs.declared.point.Point.{Point}
use Rattle.site_model.specs.declared.served.Served.{Served}
use Rattle.site_model.specs.declared.site.Site.{Site}
use Rattle.site_model.specs.declared.tag.SiteTag.{SiteTag}
use Rattle.site_model.specs.Readings.{AreUsable}
use Rattle.gateway.specs.served.Points.{served_factor}
use Rattle.gateway.specs.served.ServedImage.{ReadsAs, amount, in_lint, joined, joined_total, own_value, sum_of, total_over}
use Rattle.gateway.proofs.Totals.{joined_joined}
use Rattle.served_ranges.specs.declared.shown.Demand.{Demand}
use Rattle.served_ranges.specs.Shown.{AllAreShown, AlwaysShowsPartial, AlwaysShowsTotal, HasValue, HaveValues, ShowsTotal, choice_over, demand_at, demand_between, demand_of_partial, demand_of_total, end_over, exponent_of, greater, greatest_choice, highest_partial, highest_total, least_choice, lesser, lowest_partial, lowest_total, point_of_entry}

not_none : {A : Type 0} (x : A) → Some x ≡ None → ⊥
not_none x = search rules

same_number : (x y : ℤ) → Some x ≡ Some y → x ≡ y
same_number x y e = ap (λ o. unwrap_or o (pos 0)) e

le_true : (a b : ℤ) → a ≤ℤ b → int_le a b ≡ true
le_true a b h = grind (arith, ints)

-- ---- the total lies between its ends

-- there is a total, between two numbers
record IsBetween (total : Option ℤ) (low high : ℤ) : Type 0 where
  pub number : ℤ
  pub is : total ≡ Some number
  pub least : low ≤ℤ number
  pub most : number ≤ℤ high

module _ (tags : List SiteTag) (readings : List Reading) (usable : AreUsable tags readings) where
  has_total : (parts : List ℕ) → HaveValues readings parts → (l n h low high : ℤ) → l ≤ℤ n → n ≤ℤ h →
      end_over (λ t. t.low) l tags parts ≡ Some low → end_over (λ t. t.high) h tags parts ≡ Some high → IsBetween (total_over n readings parts) low high
  has_total [] v l n h low high p q e f = record { number = n; is = refl; least = let g = same_number l low e in omega (arith, ints); most = let g = same_number h high f in omega (arith, ints) }
  has_total (i ∷ is) v l n h low high p q e f = go (slice_get tags i) (slice_get readings i) refl refl (All-head (λ j. IsSome (option_and_then own_value (slice_get readings j))) i is v) e f (has_total is (All-tail (λ j. IsSome (option_and_then own_value (slice_get readings j))) i is v))
    where
      go : (o : Option SiteTag) (r : Option Reading) → slice_get tags i ≡ o → slice_get readings i ≡ r → IsSome (option_and_then own_value r) →
          option_and_then (λ x. end_over (λ t. t.low) (l +ℤ x) tags is) (option_map (λ t. t.low) o) ≡ Some low →
          option_and_then (λ x. end_over (λ t. t.high) (h +ℤ x) tags is) (option_map (λ t. t.high) o) ≡ Some high →
          ((l' n' h' low' high' : ℤ) → l' ≤ℤ n' → n' ≤ℤ h' → end_over (λ t. t.low) l' tags is ≡ Some low' → end_over (λ t. t.high) h' tags is ≡ Some high' → IsBetween (total_over n' readings is) low' high') →
          IsBetween (total_over n readings (i ∷ is)) low high
      go None r a b s e' f' next = absurd (not_none low (sym e'))
      go (Some t) None a b s e' f' next = search (rules, s)
      go (Some t) (Some (reading.Default m why)) a b s e' f' next = search (rules, s)
      go (Some t) (Some (reading.Absent why)) a b s e' f' next = search (rules, s)
      go (Some t) (Some (reading.Value v')) a b s e' f' next =
          let range = usable i t (reading.Value v') a b in
          let rest = next (l +ℤ t.low) (n +ℤ v') (h +ℤ t.high) low high (omega (arith, ints, range.0)) (omega (arith, ints, range.1)) e' f' in
          record { number = rest.number; is = ap (λ r. option_and_then (λ x. total_over (n +ℤ x) readings is) (option_and_then own_value r)) b ∙ rest.is; least = rest.least; most = rest.most }

-- ---- the total of those that have a value lies between the ends of what there is to choose

lesser_least : (m n : ℤ) → (lesser m n ≤ℤ m) × (lesser m n ≤ℤ n)
lesser_least m n = go (int_le m n) refl
  where
    go : (x : Bool) → int_le m n ≡ x → ((if x then m else n) ≤ℤ m) × ((if x then m else n) ≤ℤ n)
    go true e = (omega (arith, ints), omega (arith, ints, e))
    go false e = (omega (arith, ints, e), omega (arith, ints))

greater_most : (m n : ℤ) → (m ≤ℤ greater m n) × (n ≤ℤ greater m n)
greater_most m n = go (int_le m n) refl
  where
    go : (x : Bool) → int_le m n ≡ x → (m ≤ℤ (if x then n else m)) × (n ≤ℤ (if x then n else m))
    go true e = (omega (arith, ints, e), omega (arith, ints))
    go false e = (omega (arith, ints), omega (arith, ints, e))

least_one : (l : Option ℤ) (low v : ℤ) → low ≤ℤ v → least_choice l low ≤ℤ v
least_one None low v p = p
least_one (Some x) low v p =
    let a = lesser_least x low in
    let b = lesser_least (lesser x low) (x +ℤ low) in
    omega (arith, ints, a.1, b.0, p)

least_before : (l : Option ℤ) (low a : ℤ) → IsSomeAnd l (λ x. x ≤ℤ a) → least_choice l low ≤ℤ a
least_before None low a p = search (rules, p)
least_before (Some x) low a p =
    let c = lesser_least x low in
    let d = lesser_least (lesser x low) (x +ℤ low) in
    omega (arith, ints, c.0, d.0, p)

least_both : (l : Option ℤ) (low a v : ℤ) → IsSomeAnd l (λ x. x ≤ℤ a) → low ≤ℤ v → least_choice l low ≤ℤ (a +ℤ v)
least_both None low a v p q = search (rules, p)
least_both (Some x) low a v p q =
    let d = lesser_least (lesser x low) (x +ℤ low) in
    omega (arith, ints, d.1, p, q)

most_one : (h : Option ℤ) (high v : ℤ) → v ≤ℤ high → v ≤ℤ greatest_choice h high
most_one None high v p = p
most_one (Some x) high v p =
    let a = greater_most x high in
    let b = greater_most (greater x high) (x +ℤ high) in
    omega (arith, ints, a.1, b.0, p)

most_before : (h : Option ℤ) (high a : ℤ) → IsSomeAnd h (λ x. a ≤ℤ x) → a ≤ℤ greatest_choice h high
most_before None high a p = search (rules, p)
most_before (Some x) high a p =
    let c = greater_most x high in
    let d = greater_most (greater x high) (x +ℤ high) in
    omega (arith, ints, c.0, d.0, p)

most_both : (h : Option ℤ) (high a v : ℤ) → IsSomeAnd h (λ x. a ≤ℤ x) → v ≤ℤ high → (a +ℤ v) ≤ℤ greatest_choice h high
most_both None high a v p q = search (rules, p)
most_both (Some x) high a v p q =
    let d = greater_most (greater x high) (x +ℤ high) in
    omega (arith, ints, d.1, p, q)

-- where there is a number, it lies between two that are there
abbrev HasEnds : (n l h : Option ℤ) → Type 0
HasEnds n l h = IfSome n (λ v. IsSomeAnd l (λ x. x ≤ℤ v) × IsSomeAnd h (λ x. v ≤ℤ x))

-- a value in its range, where there is one
abbrev IsInRange : (low high : ℤ) → Option ℤ → Type 0
IsInRange low high w = IfSome w (λ v. (low ≤ℤ v) × (v ≤ℤ high))

ends_more : (n w l h : Option ℤ) (low high : ℤ) → HasEnds n l h → IsInRange low high w → HasEnds (joined n w) (Some (least_choice l low)) (Some (greatest_choice h high))
ends_more None None l h low high p q = search rules
ends_more None (Some v) l h low high p q = (least_one l low v q.0, most_one h high v q.1)
ends_more (Some a) None l h low high p q = (least_before l low a p.0, most_before h high a p.1)
ends_more (Some a) (Some v) l h low high p q = (least_both l low a v p.0 q.0, most_both h high a v p.1 q.1)

joined_none : (n : Option ℤ) → joined n None ≡ n
joined_none None = refl
joined_none (Some n) = refl

module _ (tags : List SiteTag) (readings : List Reading) (usable : AreUsable tags readings) where
  value_in_range : (i : ℕ) (t : SiteTag) → slice_get tags i ≡ Some t → IsInRange t.low t.high (option_and_then own_value (slice_get readings i))
  value_in_range i t a = go (slice_get readings i) refl
    where
      go : (r : Option Reading) → slice_get readings i ≡ r → IsInRange t.low t.high (option_and_then own_value r)
      go None b = search rules
      go (Some (reading.Default m why)) b = search rules
      go (Some (reading.Absent why)) b = search rules
      go (Some (reading.Value v)) b = let range = usable i t (reading.Value v) a b in (range.0, range.1)

  has_ends : (parts : List ℕ) (n l h : Option ℤ) → HasEnds n l h → (low high : ℤ) → choice_over least_choice (λ t. t.low) l tags parts ≡ Some low → choice_over greatest_choice (λ t. t.high) h tags parts ≡ Some high →
      HasEnds (joined n (joined_total readings parts)) (Some low) (Some high)
  has_ends [] n l h p low high e f = subst (λ o. HasEnds o (Some low) (Some high)) (sym (joined_none n)) (subst (λ o. HasEnds n (Some low) o) f (subst (λ o. HasEnds n o h) e p))
  has_ends (i ∷ is) n l h p low high e f = go (option_and_then own_value (slice_get readings i)) (slice_get tags i) (value_in_range i) refl e f (has_ends is)
    where
      go : (w : Option ℤ) (o : Option SiteTag) → ((t : SiteTag) → slice_get tags i ≡ Some t → IsInRange t.low t.high w) → slice_get tags i ≡ o →
          option_and_then (λ v. choice_over least_choice (λ t. t.low) (Some (least_choice l v)) tags is) (option_map (λ t. t.low) o) ≡ Some low →
          option_and_then (λ v. choice_over greatest_choice (λ t. t.high) (Some (greatest_choice h v)) tags is) (option_map (λ t. t.high) o) ≡ Some high →
          ((n' l' h' : Option ℤ) → HasEnds n' l' h' → (low' high' : ℤ) → choice_over least_choice (λ t. t.low) l' tags is ≡ Some low' → choice_over greatest_choice (λ t. t.high) h' tags is ≡ Some high' →
          HasEnds (joined n' (joined_total readings is)) (Some low') (Some high')) →
          HasEnds (joined n (joined w (joined_total readings is))) (Some low) (Some high)
      go w None r a e' f' next = absurd (not_none low (sym e'))
      go w (Some t) r a e' f' next =
          subst (λ o. HasEnds o (Some low) (Some high)) (sym (joined_joined n w (joined_total readings is)))
          (next (joined n w) (Some (least_choice l t.low)) (Some (greatest_choice h t.high)) (ends_more n w l h t.low t.high p (r t a)) low high e' f')

  has_partial : (parts : List ℕ) → HasValue readings parts → (low high : ℤ) → lowest_partial tags parts ≡ Some low → highest_partial tags parts ≡ Some high → IsBetween (joined_total readings parts) low high
  has_partial parts v low high e f = go (joined_total readings parts) v (has_ends parts None None None (search rules) low high e f)
    where
      go : (o : Option ℤ) → IsSome o → HasEnds o (Some low) (Some high) → IsBetween o low high
      go None s ends = search (rules, s)
      go (Some n) s ends = record { number = n; is = refl; least = ends.0; most = ends.1 }

-- ---- the total is shown

-- a total between two numbers of LINT is one of LINT
in_lint_between : (low high total : ℤ) → neg_ℤ (pos (2 ^ 63)) ≤ℤ low → high ≤ℤ pos (2 ^ 63 - 1) → low ≤ℤ total → total ≤ℤ high → in_lint total ≡ Some total
in_lint_between low high total p q l m =
    let a : low_of il.Lint ≤ℤ total = omega (arith, ints) in
    let b : total ≤ℤ high_of il.Lint = omega (arith, ints) in
    ap (λ (x : Bool). if x then Some total else None) (and_both _ _ (le_true (low_of il.Lint) total a) (le_true total (high_of il.Lint) b))

module _ (k : Kind) (factor : Option ℤ) (tags : List SiteTag) (total : Option ℤ) where
  sum_is_shown : (parts : List ℕ) → (e low high : ℤ) → exponent_of tags parts ≡ Some e → IsBetween total low high →
      neg_ℤ (pos (2 ^ 63)) ≤ℤ low → high ≤ℤ pos (2 ^ 63 - 1) → AllAreShown k factor e low high →
      IsSomeAnd (sum_of tags factor parts (option_and_then in_lint total)) (λ said. (words : List ℕ) × ReadsAs k said words)
  sum_is_shown [] e low high first found p q shown = absurd (not_none e (sym first))
  sum_is_shown (i ∷ is) e low high first found p q shown = go (slice_get tags i) first
    where
      total_is : option_and_then in_lint total ≡ Some found.number
      total_is = ap (option_and_then in_lint) found.is ∙ in_lint_between low high found.number p q found.least found.most

      go : (o : Option SiteTag) → option_map (λ t. t.exponent) o ≡ Some e →
          IsSomeAnd (option_and_then (λ t. option_map (amount t.exponent factor) (option_and_then in_lint total)) o) (λ said. (words : List ℕ) × ReadsAs k said words)
      go None f = absurd (not_none e (sym f))
      go (Some t) f =
          let same : e ≡ t.exponent = sym (same_number t.exponent e f) in
          let said = subst (λ x. (words : List ℕ) × ReadsAs k (amount x factor found.number) words) same (shown found.number found.least found.most) in
          subst (λ o. IsSomeAnd (option_map (amount t.exponent factor) o) (λ said. (words : List ℕ) × ReadsAs k said words)) (sym total_is) said

-- a total that lies between the ends of a demand that is met
module _ (site : Site) (s : Served) (parts : List ℕ) (total lowest highest : Option ℤ) (d : Demand) where
  between_is_shown : Some d ≡ demand_between site s parts lowest highest → AllAreShown d.kind d.factor d.exponent d.low d.high → neg_ℤ (pos (2 ^ 63)) ≤ℤ d.low → d.high ≤ℤ pos (2 ^ 63 - 1) →
      ((low high : ℤ) → lowest ≡ Some low → highest ≡ Some high → IsBetween total low high) → IsSomeAnd (point_of_entry site.models s) (ShowsTotal site s.model parts (option_and_then in_lint total))
  between_is_shown e shown p q between = go (exponent_of site.tags parts) lowest highest (point_of_entry site.models s) refl refl refl e
    where
      go : (x low high : Option ℤ) (o : Option Point) → exponent_of site.tags parts ≡ x → lowest ≡ low → highest ≡ high →
          Some d ≡ option_and_then (λ y. option_and_then (λ l. option_and_then (λ h. option_map (demand_at site s.model y l h) o) high) low) x →
          IsSomeAnd o (ShowsTotal site s.model parts (option_and_then in_lint total))
      go None low high o a b c f = absurd (not_none d f)
      go (Some y) None high o a b c f = absurd (not_none d f)
      go (Some y) (Some l) None o a b c f = absurd (not_none d f)
      go (Some y) (Some l) (Some h) None a b c f = absurd (not_none d f)
      go (Some y) (Some l) (Some h) (Some point) a b c f =
          let g : d ≡ demand_at site s.model y l h point = cc in
          sum_is_shown point.kind (served_factor site.served s.model point.sf) site.tags total parts y l h a (between l h b c)
          (subst (λ z. neg_ℤ (pos (2 ^ 63)) ≤ℤ z.low) g p) (subst (λ z. z.high ≤ℤ pos (2 ^ 63 - 1)) g q)
          (subst (λ z. AllAreShown z.kind z.factor z.exponent z.low z.high) g shown)

module _ (site : Site) (s : Served) (parts : List ℕ) (d : Demand) (shown : AllAreShown d.kind d.factor d.exponent d.low d.high) (p : neg_ℤ (pos (2 ^ 63)) ≤ℤ d.low) (q : d.high ≤ℤ pos (2 ^ 63 - 1)) where
  pub total_is_shown : Some d ≡ demand_of_total site s parts → AlwaysShowsTotal site s parts
  total_is_shown e readings usable values =
      between_is_shown site s parts (total_over (pos 0) readings parts) (lowest_total site.tags parts) (highest_total site.tags parts) d e shown p q
      (λ low high l h. has_total site.tags readings usable parts values (pos 0) (pos 0) (pos 0) low high (search rules) (search rules) l h)

  pub partial_is_shown : Some d ≡ demand_of_partial site s parts → AlwaysShowsPartial site s parts
  partial_is_shown e readings usable value =
      between_is_shown site s parts (joined_total readings parts) (lowest_partial site.tags parts) (highest_partial site.tags parts) d e shown p q
      (λ low high l h. has_partial site.tags readings usable parts value low high l h)
