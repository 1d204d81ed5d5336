-- When wanted blocks were told last.
use Rattle.std.proofs.Common.{◌≡◌, ℕ, zero, suc, ◌+◌, ◌<◌, Bool, true, false, not, ◌&&◌, ◌||◌, ◌==◌, List, [], ◌∷◌, map, length, get_or, position, slice_get, slice_set, Option, None, Some, refl, sym, ap, subst, ◌∙◌, arith}
use Rattle.std.specs.Prelude.{All}
use Rattle.std.proofs.lemmas.Bool.{eqb-true}
use Rattle.std.proofs.lemmas.List.Elements.{All-map}
use Rattle.std.proofs.lemmas.List.Quantifiers.{position-Some}
use Rattle.std.proofs.lemmas.Option.{slice_get-get_or}
use Rattle.site_model.specs.declared.site.Site.{Site}
use Rattle.site_model.specs.declared.want.Want.{Want}
use Rattle.service.specs.declared.last_told.LastTold.{LastTold}
use Rattle.service.specs.Rounds.{IsRecent, IsRoundFor, IsUntold, Progress, after_scan, device_told, device_wanted, is_ready, is_told, is_untold, older, told_at, told_now, used}

-- ---- the devices stay

abbrev pub untold_of : Want → LastTold
untold_of want = record { device = want.device; scans = 0; is_new = false; is_used = false }

pub devices_of_none : (wants : List Want) → map device_told (map untold_of wants) ≡ map device_wanted wants
devices_of_none [] = refl
devices_of_none (w ∷ wants) = ap (λ l. w.device ∷ l) (devices_of_none wants)

pub none_is_told : (wants : List Want) → All IsUntold (map untold_of wants)
none_is_told wants = All-map IsUntold untold_of wants (λ i d within. refl)

devices_set : (told : List LastTold) (i : ℕ) (t : LastTold) (is_new : Bool) → slice_get told i ≡ Some t → map device_told (slice_set told i (told_now is_new t)) ≡ map device_told told
devices_set [] i t is_new at = refl
devices_set (x ∷ told) zero t is_new at = let here : x ≡ t = cc in ap (λ (y : LastTold). y.device ∷ map device_told told) (sym here)
devices_set (x ∷ told) (suc i) t is_new at = ap (λ l. x.device ∷ l) (devices_set told i t is_new at)

devices_when_told : (told : List LastTold) (i : ℕ) (is_new : Bool) → map device_told (told_at i is_new told) ≡ map device_told told
devices_when_told told i is_new = go (slice_get told i) refl
  where
    go : (o : Option LastTold) → slice_get told i ≡ o → map device_told (told_at i is_new told) ≡ map device_told told
    go None is = rw is refl
    go (Some t) is = rw is (devices_set told i t is_new is)

devices_map : (f : LastTold → LastTold) → ((t : LastTold) → (f t).device ≡ t.device) → (told : List LastTold) → map device_told (map f told) ≡ map device_told told
devices_map f same [] = refl
devices_map f same (t ∷ told) = ap (λ d. d ∷ map device_told (map f told)) (same t) ∙ ap (λ l. t.device ∷ l) (devices_map f same told)

devices_after_scan : (told : List LastTold) → map device_told (after_scan told) ≡ map device_told told
devices_after_scan told = devices_map older (λ t. refl) (map (used told) told) ∙ devices_map (used told) (λ t. refl) told

pub recent_when_used : (told : List LastTold) → All IsRecent told → All IsRecent (map (used told) told)
recent_when_used told recent = All-map IsRecent (used told) told recent

-- ---- a round stays one for its site

pub round_when_told : (site : Site) (p q : Progress) (i : ℕ) (is_new : Bool) → q ≡ record p { told = told_at i is_new p.told } → IsRoundFor site p → IsRoundFor site q
round_when_told site p q i is_new same fits = record {
  told = ap (λ (x : Progress). map device_told x.told) same ∙ (devices_when_told p.told i is_new ∙ fits.told);
  writes = ap (λ (x : Progress). length x.writes) same ∙ fits.writes;
}

pub round_when_scanned : (site : Site) (p q : Progress) (at : ℕ) → q ≡ record { told = after_scan p.told; writes = q.writes; at = at } → length q.writes ≡ length p.writes → IsRoundFor site p → IsRoundFor site q
round_when_scanned site p q at same sized fits = record {
  told = ap (λ (x : Progress). map device_told x.told) same ∙ (devices_after_scan p.told ∙ fits.told);
  writes = sized ∙ fits.writes;
}

-- ---- whether a device is ready doesn't hang on what was used

-- the first of them are used, by what all of them say
abbrev pub used_through : ℕ → List LastTold → List LastTold → List LastTold
used_through zero all told = told
used_through (suc i) all [] = []
used_through (suc i) all (t ∷ told) = used all t ∷ used_through i all told

ready_same : (i : ℕ) (all told : List LastTold) (device : ℕ) → is_ready (used_through i all told) device ≡ is_ready told device
ready_same zero all told device = refl
ready_same (suc i) all [] device = refl
ready_same (suc i) all (t ∷ told) device = ap (λ b. is_told device t && b) (ready_same i all told device)

use_next : (i : ℕ) (all told : List LastTold) (t : LastTold) → slice_get (used_through i all told) i ≡ Some t → slice_set (used_through i all told) i (used all t) ≡ used_through (suc i) all told
use_next zero all [] t at = absurd (cc)
use_next (suc i) all [] t at = absurd (cc)
use_next zero all (x ∷ told) t at = let here : x ≡ t = cc in ap (λ (y : LastTold). used all y ∷ told) (sym here)
use_next (suc i) all (x ∷ told) t at = ap (λ l. used all x ∷ l) (use_next i all told t at)

one_on : (i : ℕ) (all told : List LastTold) → used_through (suc i) all told ≡ used_through (i + 1) all told
one_on i all told = let next : suc i ≡ i + 1 = omega arith in ap (λ n. used_through n all told) next

one_used : (i : ℕ) (all now : List LastTold) (t next : LastTold) → now ≡ used_through i all all → slice_get now i ≡ Some t → next ≡ record t { is_used = is_ready now t.device } → slice_set now i next ≡ used_through (i + 1) all all
one_used i all now t next is at new =
    let ready : is_ready now t.device ≡ is_ready all t.device = ap (λ (l : List LastTold). is_ready l t.device) is ∙ ready_same i all all t.device in
    let so : next ≡ used all t = new ∙ ap (λ b. record t { is_used = b }) ready in
    let P : List LastTold → Type 0 = λ l. slice_get l i ≡ Some t in
    ap (λ (l : List LastTold). slice_set l i next) is ∙ (ap (λ (x : LastTold). slice_set (used_through i all all) i x) so ∙ (use_next i all all t (subst P is at) ∙ one_on i all all))

pub used_next : (i : ℕ) (all now : List LastTold) (d next : LastTold) → i < length now → now ≡ used_through i all all → next ≡ record (get_or now i d) { is_used = is_ready now (get_or now i d).device } → slice_set now i next ≡ used_through (i + 1) all all
used_next i all now d next within is new = one_used i all now (get_or now i d) next is (slice_get-get_or now i d within) new

used_all : (all told : List LastTold) → used_through (length told) all told ≡ map (used all) told
used_all all [] = refl
used_all all (t ∷ told) = ap (λ l. used all t ∷ l) (used_all all told)

pub all_used : (i : ℕ) (all now : List LastTold) → i ≡ length all → now ≡ used_through i all all → now ≡ map (used all) all
all_used i all now is so_far = so_far ∙ (ap (λ n. used_through n all all) is ∙ used_all all all)

-- ---- whose wanted block is to be told

mapped_at : {X Y : Type 0} (f : X → Y) (xs : List X) (i : ℕ) (x : X) → slice_get xs i ≡ Some x → slice_get (map f xs) i ≡ Some (f x)
mapped_at f [] i x at = absurd (cc)
mapped_at f (y ∷ xs) zero x at = let here : y ≡ x = cc in ap (λ (z : _). Some (f z)) here
mapped_at f (y ∷ xs) (suc i) x at = mapped_at f xs i x at

untold_own : (own is_new : Bool) → not (not own || is_new) ≡ true → own ≡ true
untold_own true is_new is = refl
untold_own false is_new is = absurd (cc)

same_device : {a b : ℕ} → Some a ≡ Some b → a ≡ b
same_device e = cc

pub untold_want : (told : List LastTold) (wants : List Want) (device i : ℕ) → map device_told told ≡ map device_wanted wants → position (is_untold device) told ≡ Some i → (want : Want) → slice_get wants i ≡ Some want → want.device ≡ device
untold_want told wants device i same is want at =
    let found = position-Some (is_untold device) told i (untold_of want) is in
    let t : LastTold = get_or told i (untold_of want) in
    let there : slice_get told i ≡ Some t = slice_get-get_or told i (untold_of want) found.0 in
    let own : t.device ≡ device = eqb-true t.device device (untold_own (t.device == device) t.is_new found.1) in
    same_device (sym (mapped_at device_wanted wants i want at) ∙ (ap (λ (l : List ℕ). slice_get l i) (sym same) ∙ mapped_at device_told told i t there)) ∙ own
