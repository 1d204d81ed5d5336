-- The points of a model together: what they owe to their descriptions.
use Rattle.std.proofs.Common.{◌≡◌, ℕ, ◌≤◌, Bool, true, false, ◌&&◌, List, [], ◌∷◌, length, map, Option, None, Some, option_map, refl, sym, ap, ◌∙◌, arith, true≢false, Bor}
use Rattle.std.proofs.lemmas.Option.{slice_get-map}
use Rattle.std.proofs.lemmas.List.Sums.{sum_by-cons}
use Rattle.std.proofs.lemmas.Slice.Eq.{bytes_eq-Decides}
use Rattle.std.specs.Prelude.{slice_get, codes}
use Rattle.std.specs.List.{IsDistinct}
use Rattle.std.specs.Map.{keys_of}
use Rattle.std.specs.Str.{bytes_eq}
use Rattle.point_types.specs.declared.kind.Kind.{Kind}
use Rattle.point_types.specs.declared.kind.Kind.TheVariants as kinds
use Rattle.model_defs.specs.Layout.{registers_of, HasItsFactors, HasDistinctNames, HasHeader}
use Rattle.model_defs.specs.Definition.{Description, all_registers, is_uint16, is_heading, has_name, has_header, description_told, ArePoints, HasFactorsAmong}
use Rattle.model_defs.specs.Descriptions.{descriptions_view}
use Rattle.model_defs.specs.declared.point.Point.{Point}
use Rattle.model_defs.proofs.Entries.{Entries, names_apart}
use Rattle.point_types.proofs.Truths.{both}

told_at : (ds : List Description) (ps : List Point) (i : ℕ) (p : Point) → ArePoints ds ps → slice_get ps i ≡ Some p → slice_get ds i ≡ Some (description_told ds p)
told_at ds ps i p are at = ap (λ xs. slice_get xs i) (sym are) ∙ slice_get-map (description_told ds) ps i ∙ ap (option_map (description_told ds)) at

pub sums : (ds : List Description) (ps : List Point) → all_registers (map (description_told ds) ps) ≡ registers_of ps
sums ds [] = refl
sums ds (p ∷ ps) = omega (arith, sums ds ps, sum_by-cons (λ d. d.size) (description_told ds p) (map (description_told ds) ps), sum_by-cons (λ q. q.size) p ps)

pub registers_told : (ds : List Description) (ps : List Point) → ArePoints ds ps → registers_of ps ≡ all_registers ds
registers_told ds ps are = sym (sums ds ps) ∙ ap all_registers are

pub names_told : (es : Entries) (ps : List Point) → ArePoints (descriptions_view es) ps → IsDistinct (λ (x y : Bor (List ℕ)). bytes_eq x.now y.now) (keys_of es) → HasDistinctNames ps
names_told es ps are unique i j p q at bt same =
    let ds = descriptions_view es in names_apart es unique i j _ _ (told_at ds ps i p are at) (told_at ds ps j q are bt) same

kinds_of : (ds : List Description) (o : Option Point) → option_map (λ d. d.kind) (option_map (description_told ds) o) ≡ option_map (λ p. p.kind) o
kinds_of ds None = refl
kinds_of ds (Some p) = refl

pub factors_told : (ds : List Description) (ps : List Point) → ArePoints ds ps → HasFactorsAmong ds ps → HasItsFactors ps
factors_told ds ps are among i j p at factor =
    sym (ap (λ xs. option_map (λ d. d.kind) (slice_get xs j)) (sym are) ∙ ap (option_map (λ d. d.kind)) (slice_get-map (description_told ds) ps j) ∙ kinds_of ds (slice_get ps j)) ∙ among i j p at factor

uint16_from : (k : Kind) → is_uint16 k ≡ true → k ≡ kinds.Uint16
uint16_from kinds.Uint16 h = refl
uint16_from other h = absurd (cc)

heading_told : (ds : List Description) (p : Point) (name : List ℕ) → (has_name name (description_told ds p) && is_uint16 p.kind) ≡ true → (p.name ≡ name) × (p.kind ≡ kinds.Uint16)
heading_told ds p name h = let s = both (has_name name (description_told ds p)) (is_uint16 p.kind) h in (sym ((bytes_eq-Decides name p.name).0 s.0), uint16_from p.kind s.1)

header_of : (ds : List Description) (ps : List Point) → has_header (map (description_told ds) ps) ≡ true → HasHeader ps
header_of ds [] h = absurd (cc)
header_of ds (p ∷ []) h = absurd (true≢false (sym (both _ false h).1))
header_of ds (p ∷ q ∷ ps) h =
    let s = both (is_heading (map (description_told ds) (p ∷ q ∷ ps)) 0 (codes "ID")) (is_heading (map (description_told ds) (p ∷ q ∷ ps)) 1 (codes "L")) h in
    (omega arith, λ x at. let same : p ≡ x = cc in rw (← same) (heading_told ds p (codes "ID") s.0), λ x at. let same : q ≡ x = cc in rw (← same) (heading_told ds q (codes "L") s.1))

pub header_told : (ds : List Description) (ps : List Point) → ArePoints ds ps → has_header ds ≡ true → HasHeader ps
header_told ds ps are h = header_of ds ps (ap has_header are ∙ h)

pub room_for_header : (ps : List Point) → 2 ≤ length ps → 2 ≤ registers_of ps
room_for_header [] h = absurd (omega arith)
room_for_header (p ∷ []) h = absurd (omega arith)
room_for_header (p ∷ q ∷ ps) h = omega (arith, p.not_empty, q.not_empty, sum_by-cons (λ x. x.size) p (q ∷ ps), sum_by-cons (λ x. x.size) q ps)

pub both_hold : {a b : Bool} → a ≡ true → b ≡ true → (a && b) ≡ true
both_hold h k = λ i. h i && k i
