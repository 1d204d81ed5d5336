-- What meters show changes nothing of what inverters produce.
use Rattle.std.proofs.Common.{◌≡◌, ℕ, ◌+◌, List, [], ◌∷◌, ◌++◌, map, take, drop, refl, ap, sym, ◌∙◌}
use Rattle.std.proofs.lemmas.List.{take-append-drop}
use Rattle.std.proofs.lemmas.List.Sums.{sum_by-cons}
use Rattle.inverter_sim.specs.declared.works.Works.{Works}
use Rattle.inverter_sim.specs.declared.works.Works.TheVariants as works
use Rattle.inverter_sim.specs.State.{DeviceState}
use Rattle.inverter_sim.specs.Tick.{metered, metered_as, produced_behind, produced_by, produced_for}

same_as : (w : Works) (n : ℕ) (units : List ℕ) (d : DeviceState) → produced_for units (metered_as w n (record d { works = w })) ≡ produced_for units (record d { works = w })
same_as (works.Inverter i) n units d = refl
same_as (works.Meter m) n units d = refl

same : (ds : List DeviceState) (units : List ℕ) (d : DeviceState) → produced_for units (metered ds d) ≡ produced_for units d
same ds units d = same_as d.works (produced_behind d.works ds) units d

sums : (ds : List DeviceState) (units : List ℕ) (xs ys : List DeviceState) → produced_by units (map (metered ds) xs ++ ys) ≡ produced_by units (xs ++ ys)
sums ds units [] ys = refl
sums ds units (x ∷ xs) ys =
    sum_by-cons (produced_for units) (metered ds x) (map (metered ds) xs ++ ys)
    ∙ ap (λ n. n + produced_by units (map (metered ds) xs ++ ys)) (same ds units x)
    ∙ ap (λ n. produced_for units x + n) (sums ds units xs ys)
    ∙ sym (sum_by-cons (produced_for units) x (xs ++ ys))

-- the inverters produce as much when some of the meters have ticked
pub behind_same : (w : Works) (xs ds : List DeviceState) (i : ℕ) → ds ≡ map (metered xs) (take i xs) ++ drop i xs → produced_behind w ds ≡ produced_behind w xs
behind_same (works.Inverter k) xs ds i so_far = refl
behind_same (works.Meter m) xs ds i so_far =
    ap (produced_by m.behind) so_far ∙ sums xs m.behind (take i xs) (drop i xs) ∙ ap (produced_by m.behind) (take-append-drop i xs)
