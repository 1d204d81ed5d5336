-- A device that is known no more.
use Rattle.std.proofs.Common.{◌≡◌, ℕ, zero, suc, ◌+◌, ◌==◌, Bool, true, false, List, [], ◌∷◌, length, set, slice_get, slice_set, position, Option, None, Some, refl, sym, ap, ◌∙◌, arith, if◌then◌else◌}
use Rattle.register_map.specs.Layout.{Layout}
use Rattle.site_model.specs.declared.site.Site.{Site}
use Rattle.site_model.specs.declared.want.Want.{Want}
use Rattle.scan_vm.specs.Machine.{Running}
use Rattle.site_model.specs.Wants.{same_want}
use Rattle.gateway.specs.declared.event_core.event.Event.TheVariants as event
use Rattle.gateway.specs.event_core.Core.{Gateway}
use Rattle.gateway.specs.event_core.SiteRun.{Standing, with_block}
use Rattle.service.specs.Forgetting.{blocks_but, entry_but, first_but, forgotten, with_blocks, without_blocks}
use Rattle.service.specs.Stages.{TakesEvent}
use Rattle.service.proofs.Known.{place_of}

-- ---- one block

pub lost_alone : (g h : Gateway) (want : Want) → TakesEvent (event.Lost want) g h → h ≡ with_blocks (with_block g.site.wants want None g.standing.blocks) g
lost_alone g h want (a, (depth, ((step, same), drives))) =
    ap (λ (x : Site). record { site = x; maps = h.maps; machine = h.machine; standing = h.standing }) same.site
    ∙ ap (λ (x : List (Option Layout)). record { site = g.site; maps = x; machine = h.machine; standing = h.standing }) same.maps
    ∙ ap (λ (x : Running). record { site = g.site; maps = g.maps; machine = x; standing = h.standing }) drives
    ∙ ap (λ (x : Standing). record { site = g.site; maps = g.maps; machine = g.machine; standing = x }) step.1

-- ---- wants one after another

if_true : (b : Bool) (x y : Option (List ℕ)) → b ≡ true → (if b then x else y) ≡ x
if_true true x y is = refl
if_true false x y is = absurd (cc)

if_false : (b : Bool) (x y : Option (List ℕ)) → b ≡ false → (if b then x else y) ≡ y
if_false true x y is = absurd (cc)
if_false false x y is = refl

-- the entry at the place of a want of this device is emptied
set_next : (device i : ℕ) (wants : List Want) (blocks : List (Option (List ℕ))) (want : Want) → slice_get wants i ≡ Some want → (want.device == device) ≡ true
    → slice_set (first_but device i wants blocks) i None ≡ first_but device (suc i) wants blocks
set_next device i [] blocks want at own = absurd (cc)
set_next device zero (w ∷ wants) [] want at own = refl
set_next device zero (w ∷ wants) (b ∷ blocks) want at own =
    let here : w ≡ want = cc in
    ap (λ (x : Option (List ℕ)). x ∷ blocks) (sym (if_true (w.device == device) None b (ap (λ (x : Want). x.device == device) here ∙ own)))
set_next device (suc i) (w ∷ wants) [] want at own = refl
set_next device (suc i) (w ∷ wants) (b ∷ blocks) want at own = ap (λ l. entry_but device w b ∷ l) (set_next device i wants blocks want at own)

-- that of another device's stays
same_next : (device i : ℕ) (wants : List Want) (blocks : List (Option (List ℕ))) (want : Want) → slice_get wants i ≡ Some want → (want.device == device) ≡ false
    → first_but device i wants blocks ≡ first_but device (suc i) wants blocks
same_next device i [] blocks want at other = absurd (cc)
same_next device zero (w ∷ wants) [] want at other = refl
same_next device zero (w ∷ wants) (b ∷ blocks) want at other =
    let here : w ≡ want = cc in
    ap (λ (x : Option (List ℕ)). x ∷ blocks) (sym (if_false (w.device == device) None b (ap (λ (x : Want). x.device == device) here ∙ other)))
same_next device (suc i) (w ∷ wants) [] want at other = refl
same_next device (suc i) (w ∷ wants) (b ∷ blocks) want at other = ap (λ l. entry_but device w b ∷ l) (same_next device i wants blocks want at other)

past_end : (device i : ℕ) (wants : List Want) (blocks : List (Option (List ℕ))) → slice_get wants i ≡ None → first_but device i wants blocks ≡ first_but device (suc i) wants blocks
past_end device zero [] blocks at = refl
past_end device (suc i) [] blocks at = refl
past_end device zero (w ∷ wants) blocks at = absurd (cc)
past_end device (suc i) (w ∷ wants) [] at = refl
past_end device (suc i) (w ∷ wants) (b ∷ blocks) at = ap (λ l. entry_but device w b ∷ l) (past_end device i wants blocks at)

next_of : (device i : ℕ) (wants : List Want) (blocks : List (Option (List ℕ))) → first_but device (suc i) wants blocks ≡ first_but device (i + 1) wants blocks
next_of device i wants blocks = let next : suc i ≡ i + 1 = omega arith in ap (λ n. first_but device n wants blocks) next

module _ (device i : ℕ) (g : Gateway) (before : List (Option (List ℕ))) (is : g.standing.blocks ≡ first_but device i g.site.wants before) where
  stays_by : first_but device i g.site.wants before ≡ first_but device (suc i) g.site.wants before → g ≡ with_blocks (first_but device (i + 1) g.site.wants before) g
  stays_by same = ap (λ (l : List (Option (List ℕ))). with_blocks l g) (is ∙ same ∙ next_of device i g.site.wants before)

  pub none_left : slice_get g.site.wants i ≡ None → g ≡ with_blocks (first_but device (i + 1) g.site.wants before) g
  none_left at = stays_by (past_end device i g.site.wants before at)

  pub block_stays : (want : Want) → slice_get g.site.wants i ≡ Some want → (want.device == device) ≡ false → g ≡ with_blocks (first_but device (i + 1) g.site.wants before) g
  block_stays want at other = stays_by (same_next device i g.site.wants before want at other)

  at_place : (want : Want) (o : Option ℕ) → position (same_want want) g.site.wants ≡ o → o ≡ Some i → with_block g.site.wants want None g.standing.blocks ≡ slice_set g.standing.blocks i None
  at_place want o place here = rw (place ∙ here) refl

  pub block_goes : (want : Want) → slice_get g.site.wants i ≡ Some want → (want.device == device) ≡ true → (h : Gateway) → h ≡ with_blocks (with_block g.site.wants want None g.standing.blocks) g
      → h ≡ with_blocks (first_but device (i + 1) g.site.wants before) g
  block_goes want at own h lost =
      lost ∙ ap (λ (l : List (Option (List ℕ))). with_blocks l g)
      (at_place want (position (same_want want) g.site.wants) refl (place_of g.site i want at)
      ∙ ap (λ l. slice_set l i None) is
      ∙ set_next device i g.site.wants before want at own
      ∙ next_of device i g.site.wants before)

-- ---- all of them

all_first : (device : ℕ) (wants : List Want) (blocks : List (Option (List ℕ))) → first_but device (length wants) wants blocks ≡ blocks_but device wants blocks
all_first device [] blocks = refl
all_first device (w ∷ wants) [] = refl
all_first device (w ∷ wants) (b ∷ blocks) = ap (λ l. entry_but device w b ∷ l) (all_first device wants blocks)

-- so many of the device's wants are gone through
abbrev pub so_far : ℕ → ℕ → Gateway → Gateway
so_far device i g = with_blocks (first_but device i g.site.wants g.standing.blocks) g

pub none_so_far : (device : ℕ) (g : Gateway) → g ≡ so_far device 0 g
none_so_far device g = refl

pub one_further : (device i : ℕ) (g m h : Gateway) → m ≡ so_far device i g
    → ((before : List (Option (List ℕ))) → m.standing.blocks ≡ first_but device i m.site.wants before → h ≡ with_blocks (first_but device (i + 1) m.site.wants before) m)
    → h ≡ so_far device (i + 1) g
one_further device i g m h is step =
    let site : m.site ≡ g.site = ap (λ (x : Gateway). x.site) is in
    let blocks : m.standing.blocks ≡ first_but device i m.site.wants g.standing.blocks = ap (λ (x : Gateway). x.standing.blocks) is ∙ ap (λ (x : Site). first_but device i x.wants g.standing.blocks) (sym site) in
    step g.standing.blocks blocks
    ∙ ap (λ (x : Site). with_blocks (first_but device (i + 1) x.wants g.standing.blocks) m) site
    ∙ ap (λ (x : Gateway). with_blocks (first_but device (i + 1) g.site.wants g.standing.blocks) x) is

pub all_gone : (device i : ℕ) (g h : Gateway) → i ≡ length g.site.wants → h ≡ so_far device i g → h ≡ without_blocks device g
all_gone device i g h all is =
    is ∙ ap (λ (l : List (Option (List ℕ))). with_blocks l g)
    (ap (λ n. first_but device n g.site.wants g.standing.blocks) all ∙ all_first device g.site.wants g.standing.blocks)

pub forgotten_so : (device : ℕ) (g m h : Gateway) → m ≡ record g { maps = set g.maps device None } → h ≡ without_blocks device m → h ≡ forgotten device g
forgotten_so device g m h mapped lost = lost ∙ ap (without_blocks device) mapped
