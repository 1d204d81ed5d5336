-- A text is the definition of one model at most.
use Rattle.std.proofs.Common.{◌≡◌, ◌≢◌, ℕ, suc, ◌+◌, ◌≤◌, ℤ, pos, neg_ℤ, ◌≤ℤ◌, List, [], ◌∷◌, map, take, Option, Some, None, option_map, refl, sym, ap, subst, ◌∙◌, arith}
use Rattle.std.proofs.Props.{props}
use Rattle.std.proofs.lemmas.Option.{slice_get-map}
use Rattle.std.proofs.lemmas.List.{take-map}
use Rattle.std.specs.Prelude.{slice_get}
use Rattle.std.specs.Option.{option_map_or}
use mathlib.Core.HLevel.{is_prop→PathP}
use Rattle.point_types.specs.Point.{size_of}
use Rattle.point_types.specs.declared.kind.Kind.{Kind}
use Rattle.point_types.specs.declared.kind.Kind.TheVariants as kinds
use Rattle.model_defs.specs.declared.model.ModelDef.{ModelDef}
use Rattle.model_defs.specs.declared.point.Point.{Point}
use Rattle.model_defs.specs.declared.point.Sf.{Sf}
use Rattle.model_defs.specs.declared.point.Sf.TheVariants as factors
use Rattle.model_defs.specs.Layout.{registers_of, IsInOrder, HasItsFactors, HasDistinctNames, HasHeader}
use Rattle.model_defs.specs.Definition.{Description, IsRead, Outline, ArePoints, all_registers, description_told, descriptions_of, factor_told, outline_of}
use Rattle.model_defs.proofs.Whole.{registers_told, sums}

-- ---- what fields say, is all that a point and a model are

pub same_point : (p q : Point) → p.name ≡ q.name → p.kind ≡ q.kind → p.size ≡ q.size → p.offset ≡ q.offset → p.sf ≡ q.sf → p.writable ≡ q.writable → p ≡ q
same_point p q name kind size offset sf writable = λ i.
    record {
      name = name i;
      kind = kind i;
      size = size i;
      offset = offset i;
      sf = sf i;
      writable = writable i;
      sized = is_prop→PathP (λ j. kind j ≢ kinds.String → size j ≡ size_of (kind j)) (λ j. hlevel props) p.sized q.sized i;
      not_empty = is_prop→PathP (λ j. 1 ≤ size j) (λ j. hlevel props) p.not_empty q.not_empty i;
      fixed_within = is_prop→PathP (λ j. (n : ℤ) → sf j ≡ factors.Fixed n → (neg_ℤ (pos 10) ≤ℤ n) × (n ≤ℤ pos 10)) (λ j. hlevel props) p.fixed_within q.fixed_within i;
    }

pub same_model : (a b : ModelDef) → a.id ≡ b.id → a.length ≡ b.length → a.points ≡ b.points → a ≡ b
same_model a b id len points = λ i.
    record {
      id = id i;
      length = len i;
      points = points i;
      is_model = is_prop→PathP (λ j. (1 ≤ id j) × (id j ≤ 65534)) (λ j. hlevel props) a.is_model b.is_model i;
      is_short = is_prop→PathP (λ j. len j ≤ 123) (λ j. hlevel props) a.is_short b.is_short i;
      is_whole = is_prop→PathP (λ j. registers_of (points j) ≡ len j + 2) (λ j. hlevel props) a.is_whole b.is_whole i;
      in_order = is_prop→PathP (λ j. IsInOrder (points j)) (λ j. hlevel props) a.in_order b.in_order i;
      has_factors = is_prop→PathP (λ j. HasItsFactors (points j)) (λ j. hlevel props) a.has_factors b.has_factors i;
      distinct = is_prop→PathP (λ j. HasDistinctNames (points j)) (λ j. hlevel props) a.distinct b.distinct i;
      has_header = is_prop→PathP (λ j. HasHeader (points j)) (λ j. hlevel props) a.has_header b.has_header i;
    }

-- ---- the description of a point says all of it

-- the names of descriptions tell them apart
abbrev HasNamesApart : List Description → Type 0
HasNamesApart ds = (i j : ℕ) (d e : Description) → slice_get ds i ≡ Some d → slice_get ds j ≡ Some e → d.name ≡ e.name → i ≡ j

told_point : (f : Point → Description) (o : Option Point) (d : Description) → option_map f o ≡ Some d → (p : Point) × (o ≡ Some p) × (f p ≡ d)
told_point f None d h = absurd (cc)
told_point f (Some p) d h = (p, refl, cc)

names_apart : (ds : List Description) (ps : List Point) → ArePoints ds ps → HasDistinctNames ps → HasNamesApart ds
names_apart ds ps are distinct i j d e at bt same =
    let told = λ (k : ℕ). ap (λ xs. slice_get xs k) (sym are) ∙ slice_get-map (description_told ds) ps k in
    let p = told_point (description_told ds) (slice_get ps i) d (sym (told i) ∙ at) in
    let q = told_point (description_told ds) (slice_get ps j) e (sym (told j) ∙ bt) in
    distinct i j p.0 q.0 p.1 q.1 (ap (λ x. x.name) p.2 ∙ same ∙ sym (ap (λ x. x.name) q.2))

abbrev IsThere : List Description → Sf → Type 0
IsThere ds factor = (j : ℕ) → factor ≡ factors.At j → (d : Description) × (slice_get ds j ≡ Some d)

same_factor : (ds : List Description) → HasNamesApart ds → (f g : Sf) → IsThere ds f → IsThere ds g → factor_told ds f ≡ factor_told ds g → f ≡ g
same_factor ds apart factors.None factors.None a b h = refl
same_factor ds apart factors.None (factors.Fixed n) a b h = absurd (cc)
same_factor ds apart factors.None (factors.At j) a b h = absurd (cc)
same_factor ds apart (factors.Fixed n) factors.None a b h = absurd (cc)
same_factor ds apart (factors.Fixed n) (factors.Fixed m) a b h = let same : n ≡ m = cc in ap factors.Fixed same
same_factor ds apart (factors.Fixed n) (factors.At j) a b h = absurd (cc)
same_factor ds apart (factors.At j) factors.None a b h = absurd (cc)
same_factor ds apart (factors.At j) (factors.Fixed n) a b h = absurd (cc)
same_factor ds apart (factors.At j) (factors.At k) a b h =
    let d = a j refl in
    let e = b k refl in
    let names : option_map_or (λ (x : Description). x.name) (slice_get ds j) [] ≡ option_map_or (λ (x : Description). x.name) (slice_get ds k) [] = cc in
    let both : d.0.name ≡ e.0.name = ap (λ o. option_map_or (λ (x : Description). x.name) o []) (sym d.1) ∙ names ∙ ap (λ o. option_map_or (λ (x : Description). x.name) o []) e.1 in
    ap factors.At (apart j k d.0 e.0 d.1 e.1 both)

is_some_kind : (o : Option Point) (kind : Kind) → option_map (λ q. q.kind) o ≡ Some kind → (q : Point) × (o ≡ Some q)
is_some_kind None kind h = absurd (cc)
is_some_kind (Some q) kind h = (q, refl)

is_there : (ds : List Description) (ps : List Point) (i : ℕ) (p : Point) → ArePoints ds ps → HasItsFactors ps → slice_get ps i ≡ Some p → IsThere ds p.sf
is_there ds ps i p are has at j factor =
    let q = is_some_kind (slice_get ps j) kinds.Sunssf (has i j p at factor) in
    (description_told ds q.0, ap (λ xs. slice_get xs j) (sym are) ∙ slice_get-map (description_told ds) ps j ∙ ap (option_map (description_told ds)) q.1)

-- a point begins after the registers of those described before it
offset_told : (ds : List Description) (ps : List Point) (i : ℕ) (p : Point) → ArePoints ds ps → IsInOrder ps → slice_get ps i ≡ Some p → p.offset ≡ all_registers (take i ds)
offset_told ds ps i p are order at =
    order i p at ∙ sym (sums ds (take i ps)) ∙ ap all_registers (sym (take-map (description_told ds) i ps)) ∙ ap (λ xs. all_registers (take i xs)) are

-- ---- so points with the same descriptions are the same

abbrev ArePaired : List Point → List Point → Type 0
ArePaired ps qs = (i : ℕ) (p q : Point) → slice_get ps i ≡ Some p → slice_get qs i ≡ Some q → p ≡ q

same_points : (f : Point → Description) (ps qs : List Point) → map f ps ≡ map f qs → ArePaired ps qs → ps ≡ qs
same_points f [] [] h paired = refl
same_points f [] (q ∷ qs) h paired = absurd (cc)
same_points f (p ∷ ps) [] h paired = absurd (cc)
same_points f (p ∷ ps) (q ∷ qs) h paired =
    let rest : map f ps ≡ map f qs = cc in
    let first : p ≡ q = paired 0 p q refl refl in
    let behind : ps ≡ qs = same_points f ps qs rest (λ i x y at bt. paired (suc i) x y at bt) in
    cc

paired : (ds : List Description) (a b : ModelDef) → ArePoints ds a.points → ArePoints ds b.points → ArePaired a.points b.points
paired ds a b are were i p q at bt =
    let told = λ (ps : List Point) (is : ArePoints ds ps). ap (λ xs. slice_get xs i) (sym is) ∙ slice_get-map (description_told ds) ps i in
    let described : Some (description_told ds p) ≡ Some (description_told ds q) =
    sym (told a.points are ∙ ap (option_map (description_told ds)) at) ∙ told b.points were ∙ ap (option_map (description_told ds)) bt in
    let same : description_told ds p ≡ description_told ds q = cc in
    same_point p q (ap (λ x. x.name) same) (ap (λ x. x.kind) same) (ap (λ x. x.size) same)
    (offset_told ds a.points i p are a.in_order at ∙ sym (offset_told ds b.points i q were b.in_order bt))
    (same_factor ds (names_apart ds a.points are a.distinct) p.sf q.sf (is_there ds a.points i p are a.has_factors at) (is_there ds b.points i q were b.has_factors bt) (ap (λ x. x.factor) same))
    (ap (λ x. x.writable) same)

of_outline : (o : Outline) (a b : ModelDef) → o.id ≡ pos a.id → o.id ≡ pos b.id → ArePoints (descriptions_of o.points) a.points → ArePoints (descriptions_of o.points) b.points → a ≡ b
of_outline o a b id ib are were =
    let ds = descriptions_of o.points in
    let ids : a.id ≡ b.id = cc in
    let points : a.points ≡ b.points = same_points (description_told ds) a.points b.points (are ∙ sym were) (paired ds a b are were) in
    let both : a.length + 2 ≡ b.length + 2 = sym a.is_whole ∙ registers_told ds a.points are ∙ sym (registers_told ds b.points were) ∙ b.is_whole in
    let lengths : a.length ≡ b.length = omega arith in
    same_model a b ids lengths points

pub texts_give_one_model : (text : List ℕ) (a b : ModelDef) → IsRead text a → IsRead text b → a ≡ b
texts_give_one_model text a b h k =
    let trees : Some h.0 ≡ Some k.0 = sym h.1.1 ∙ k.1.1 in
    let tree : h.0 ≡ k.0 = cc in
    let outlines : Some h.3.0 ≡ Some k.3.0 = sym h.3.1 ∙ ap outline_of tree ∙ k.3.1 in
    let outline : h.3.0 ≡ k.3.0 = cc in
    let kept : (k.3.0.id ≡ pos a.id) × ArePoints (descriptions_of k.3.0.points) a.points = subst (λ (o : Outline). (o.id ≡ pos a.id) × ArePoints (descriptions_of o.points) a.points) outline (h.3.2, h.3.3) in
    of_outline k.3.0 a b kept.0 k.3.2 kept.1 k.3.3
