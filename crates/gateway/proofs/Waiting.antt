-- Time that goes by: what was set grows older, and lapses.
use Rattle.std.proofs.Common.{◌≡◌, ◌⊎◌, inl, inr, ℕ, suc, ◌+◌, ◌<◌, Bool, true, false, List, [], ◌∷◌, ◌++◌, length, take, drop, get_or, Option, Some, None, refl, sym, ap, ◌∙◌, arith, append_assoc}
use Rattle.std.specs.Prelude.{ℤ, ◌≤ℤ◌, slice_get, slice_set, if◌then◌else◌}
use Rattle.std.proofs.lemmas.List.{drop_more, drop-set-lt, take_more_set, length-map}
use Rattle.std.proofs.lemmas.Option.{slice_get-get_or}
use Rattle.site_model.specs.declared.tag.SiteTag.{SiteTag}
use Rattle.site_model.specs.Readings.{AreSettings}
use Rattle.gateway.specs.Laws.{SitesWithoutLapsesKeepWhatIsSet}
use Rattle.gateway.specs.event_core.SiteRun.{all_held, all_older, has_lapsed, held}
use Rattle.gateway.proofs.Scanning.{kept_none}
use Rattle.gateway.proofs.Settled.{set-cases}

-- ---- what lapses

module _ (tags : List SiteTag) (ages : List (Option ℕ)) (sets : List (Option ℤ)) (i : ℕ) (t : SiteTag) (age : Option ℕ) (set : Option ℤ) (inside : i < length tags) (aged : length ages ≡ length tags) (each : length sets ≡ length tags) where
  abbrev now : Option ℤ
  now = held (get_or tags i t) (get_or ages i age) (get_or sets i set)

  pub held_more : take i sets ++ all_held (drop i tags) (drop i ages) (drop i sets) ≡ take (i + 1) (slice_set sets i now) ++ all_held (drop (i + 1) tags) (drop (i + 1) ages) (drop (i + 1) (slice_set sets i now))
  held_more =
      let within : i < length sets = omega (arith, inside, each) in
      rw (take_more_set sets i now within) (rw (drop-set-lt (i + 1) sets i now (omega arith))
      (ap (λ ts. take i sets ++ all_held ts (drop i ages) (drop i sets)) (drop_more tags i t inside)
      ∙ ap (λ xs. take i sets ++ all_held (get_or tags i t ∷ drop (i + 1) tags) xs (drop i sets)) (drop_more ages i age (omega (arith, inside, aged)))
      ∙ ap (λ xs. take i sets ++ all_held (get_or tags i t ∷ drop (i + 1) tags) (get_or ages i age ∷ drop (i + 1) ages) xs) (drop_more sets i set within)
      ∙ sym (append_assoc (take i sets) (now ∷ []) (all_held (drop (i + 1) tags) (drop (i + 1) ages) (drop (i + 1) sets)))))

  pub held_ranged : AreSettings tags sets → AreSettings tags (slice_set sets i now)
  held_ranged ranged = by_lapse (has_lapsed (get_or tags i t).lapse (get_or ages i age))
    where
      by_lapse : (b : Bool) → AreSettings tags (slice_set sets i (if b then None else get_or sets i set))
      by_lapse true = kept_none tags sets i ranged
      by_lapse false = same
        where
          same : AreSettings tags (slice_set sets i (get_or sets i set))
          same k u m p q = go (set-cases sets i (get_or sets i set) k (Some m) q)
            where
              go : ((k ≡ i) × (Some m ≡ get_or sets i set)) ⊎ (slice_get sets k ≡ Some (Some m)) → (u.low ≤ℤ m) × (m ≤ℤ u.high)
              go (inl h) =
                  let here = slice_get-get_or sets i set (omega (arith, inside, each)) in
                  ranged k u m p (ap (λ j. slice_get sets j) h.0 ∙ here ∙ ap Some (sym h.1))
              go (inr h) = ranged k u m p h

-- ---- nothing lapses where no tag says so

none_lapses : (t : SiteTag) (age : Option ℕ) (set : Option ℤ) → t.lapse ≡ None → held t age set ≡ set
none_lapses t age set e = ap (λ l. if has_lapsed l age then None else set) e

all_kept : (tags : List SiteTag) (ages : List (Option ℕ)) (sets : List (Option ℤ)) → ((i : ℕ) (t : SiteTag) → slice_get tags i ≡ Some t → t.lapse ≡ None) → length ages ≡ length tags → length sets ≡ length tags → all_held tags ages sets ≡ sets
all_kept [] ages [] none a s = refl
all_kept [] ages (set ∷ sets) none a s = absurd (omega (arith, s))
all_kept (t ∷ ts) [] sets none a s = absurd (omega (arith, a))
all_kept (t ∷ ts) (age ∷ ages) [] none a s = absurd (omega (arith, s))
all_kept (t ∷ ts) (age ∷ ages) (set ∷ sets) none a s =
    ap (λ x. x ∷ all_held ts ages sets) (none_lapses t age set (none 0 t refl)) ∙ ap (λ xs. set ∷ xs) (all_kept ts ages sets (λ i u e. none (suc i) u e) (omega (arith, a)) (omega (arith, s)))

pub nothing_lapses : SitesWithoutLapsesKeepWhatIsSet
nothing_lapses site ms s none aged each = all_kept site.tags (all_older ms s.ages) s.sets none (length-map s.ages _ ∙ aged) each
