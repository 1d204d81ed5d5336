-- A definition that breaks no rule describes its model, point by point.
use Rattle.std.proofs.Common.{◌≡◌, ℕ, suc, ℤ, pos, negsuc, Bool, true, false, not, List, [], ◌∷◌, ◌++◌, map, if◌then◌else◌, Option, Some, None, option_map, option_and_then, Result, Ok, Err, slice_get, codes, refl, sym, ap, subst, ◌∙◌}
use Rattle.std.proofs.lemmas.Option.{cond_some, slice_get-map}
use Rattle.std.specs.List.{list_any}
use Rattle.std.specs.Option.{ok_or, option_map_or, option_or}
use Rattle.serde_json.specs.Data.{Data, Items, no_items, item}
use Rattle.serde_json.specs.Find.{get, as_str, as_array}
use Rattle.point_types.specs.Value.{◌>>=◌}
use Rattle.point_types.specs.declared.kind.Kind.{Kind}
use Rattle.point_types.specs.declared.kind.Kind.TheVariants as kinds
use Rattle.model_defs.specs.Definition.{ArePoints, Description, Factor, Outline, PointKeys, StandsFor, access_at, broken_among, broken_from, broken_in, broken_whole, described, description_of, description_told, descriptions_of, factor_at, factor_in, factor_told, first_broken, first_broken_of, fixed, has_name, joined, is_model_id, is_size, kind_of, named, point_keys, registers, repeats, unscaled, whole, writable_by}
use Rattle.model_defs.specs.declared.fault.DefFault.{DefFault}
use Rattle.model_defs.specs.declared.fault.DefFault.TheVariants as fault
use Rattle.model_defs.specs.declared.model.ModelDef.{ModelDef}
use Rattle.model_defs.specs.declared.point.Point.{Point}
use Rattle.model_defs.specs.declared.point.Sf.{Sf}
use Rattle.model_defs.specs.declared.point.Sf.TheVariants as factors
use Rattle.site_model.proofs.ToldKeys.{by_both, given, ok_is, some_is}
use Rattle.commands.specs.Modelled.{ArePointsOf, IsFactorOf, IsModelOf, IsPointOf}

-- ---- the keys of a point

record AreKeys (name kind : Option (List ℕ)) (size : Option ℤ) (factor : Option Factor) (access : Option (List ℕ)) (keys : PointKeys) : Type 0 where
  pub name_is : name ≡ Some keys.name
  pub kind_is : kind ≡ Some keys.kind
  pub size_is : size ≡ Some keys.size
  pub factor_is : factor ≡ Some keys.factor
  pub access_is : access ≡ Some keys.access

keys_told : (name kind : Option (List ℕ)) (size : Option ℤ) (factor : Option Factor) (access : Option (List ℕ)) (keys : PointKeys)
    → option_and_then (λ n. option_and_then (λ k. option_and_then (λ s. option_and_then (λ f. option_map (λ a. record { name = n; kind = k; size = s; factor = f; access = a }) access) factor) size) kind) name ≡ Some keys
    → AreKeys name kind size factor access keys
keys_told None kind size factor access keys e = absurd (cc)
keys_told (Some n) None size factor access keys e = absurd (cc)
keys_told (Some n) (Some k) None factor access keys e = absurd (cc)
keys_told (Some n) (Some k) (Some s) None access keys e = absurd (cc)
keys_told (Some n) (Some k) (Some s) (Some f) None keys e = absurd (cc)
keys_told (Some n) (Some k) (Some s) (Some f) (Some a) keys e =
    let own : PointKeys = record { name = n; kind = k; size = s; factor = f; access = a } in
    let same : own ≡ keys = some_is own keys e in
    record {
      name_is = ap (λ (x : PointKeys). Some x.name) same;
      kind_is = ap (λ (x : PointKeys). Some x.kind) same;
      size_is = ap (λ (x : PointKeys). Some x.size) same;
      factor_is = ap (λ (x : PointKeys). Some x.factor) same;
      access_is = ap (λ (x : PointKeys). Some x.access) same;
    }

size_told : (kind : Kind) (z : ℤ) (n : ℕ) → registers kind z ≡ Some n → z ≡ pos n
size_told kind (pos m) n e = ap pos (cond_some (is_size kind m) m n e).1
size_told kind (negsuc m) n e = absurd (cc)

-- what an entry that is described says
record IsSaid (entry : Data) (d : Description) : Type 0 where
  pub name : option_and_then as_str (get (codes "name") entry) ≡ Some d.name
  pub kind : option_and_then kind_of (option_and_then as_str (get (codes "type") entry)) ≡ Some d.kind
  pub size : option_and_then whole (get (codes "size") entry) ≡ Some (pos d.size)
  pub factor : factor_at entry ≡ Some d.factor
  pub writable : option_and_then writable_by (access_at entry) ≡ Some d.writable

said_by : (entry : Data) (d : Description) → description_of entry ≡ Ok d → IsSaid entry d
said_by entry d e =
    by_both (ok_or (point_keys entry) fault.MissingKey) described d e (λ keys p f.
    by_both (ok_or (kind_of keys.kind) fault.BadType)
    (λ kind. ok_or (writable_by keys.access) fault.BadType >>= λ writable. ok_or (registers kind keys.size) fault.BadSize >>= λ size. Ok (record { name = keys.name; kind = kind; size = size; factor = keys.factor; writable = writable })) d f (λ kind k g.
    by_both (ok_or (writable_by keys.access) fault.BadType)
    (λ writable. ok_or (registers kind keys.size) fault.BadSize >>= λ size. Ok (record { name = keys.name; kind = kind; size = size; factor = keys.factor; writable = writable })) d g (λ writable w h.
    by_both (ok_or (registers kind keys.size) fault.BadSize)
    (λ size. Ok (record { name = keys.name; kind = kind; size = size; factor = keys.factor; writable = writable })) d h (λ size s i.
    let own : Description = record { name = keys.name; kind = kind; size = size; factor = keys.factor; writable = writable } in
    let same : own ≡ d = ok_is own d i in
    let all = keys_told (option_and_then as_str (get (codes "name") entry)) (option_and_then as_str (get (codes "type") entry)) (option_and_then whole (get (codes "size") entry)) (factor_at entry) (access_at entry) keys (given (point_keys entry) fault.MissingKey keys p) in
    record {
      name = all.name_is ∙ ap (λ (x : Description). Some x.name) same;
      kind = ap (option_and_then kind_of) all.kind_is ∙ given (kind_of keys.kind) fault.BadType kind k ∙ ap (λ (x : Description). Some x.kind) same;
      size = all.size_is ∙ ap Some (size_told kind keys.size size (given (registers kind keys.size) fault.BadSize size s)) ∙ ap (λ (x : Description). Some (pos x.size)) same;
      factor = all.factor_is ∙ ap (λ (x : Description). Some x.factor) same;
      writable = ap (option_and_then writable_by) all.access_is ∙ given (writable_by keys.access) fault.BadType writable w ∙ ap (λ (x : Description). Some x.writable) same;
    }))))

-- ---- the factor of a point

no_factor : {P : Type 0} (tree : Data) (s : Option (List ℕ)) (z : Option ℤ) → option_or (option_map named s) (option_map fixed z) ≡ Some unscaled → P
no_factor tree (Some s) z e = absurd (cc)
no_factor tree None None e = absurd (cc)
no_factor tree None (Some z) e = absurd (cc)

fixed_factor : (s : Option (List ℕ)) (z : Option ℤ) (n : ℤ) → option_or (option_map named s) (option_map fixed z) ≡ Some (fixed n) → z ≡ Some n
fixed_factor (Some s) z n e = absurd (cc)
fixed_factor None None n e = absurd (cc)
fixed_factor None (Some z) n e = let same : z ≡ n = cc in ap Some same

named_factor : (s : Option (List ℕ)) (z : Option ℤ) (name : List ℕ) → option_or (option_map named s) (option_map fixed z) ≡ Some (named name) → s ≡ Some name
named_factor (Some s) z name e = let same : s ≡ name = cc in ap Some same
named_factor None None name e = absurd (cc)
named_factor None (Some z) name e = absurd (cc)

-- the point that a factor is by number is there
there_by : (o : Option Point) → option_map (λ (q : Point). q.kind) o ≡ Some kinds.Sunssf → (q : Point) × (o ≡ Some q)
there_by None e = absurd (cc)
there_by (Some q) e = (q, refl)

factor_said : (points : List Point) (ds : List Description) (o : Option Data) (sf : Sf) → ArePoints ds points → ((j : ℕ) → sf ≡ factors.At j → option_map (λ (q : Point). q.kind) (slice_get points j) ≡ Some kinds.Sunssf)
    → option_map_or factor_in o (Some unscaled) ≡ Some (factor_told ds sf) → IsFactorOf points o sf
factor_said points ds None factors.None are there e = refl
factor_said points ds None (factors.Fixed n) are there e = absurd (cc)
factor_said points ds None (factors.At j) are there e = absurd (cc)
factor_said points ds (Some tree) factors.None are there e = no_factor tree (as_str tree) (whole tree) e
factor_said points ds (Some tree) (factors.Fixed n) are there e = fixed_factor (as_str tree) (whole tree) n e
factor_said points ds (Some tree) (factors.At j) are there e =
    let q = there_by (slice_get points j) (there j refl) in
    let at : slice_get ds j ≡ Some (description_told ds q.0) = ap (λ xs. slice_get xs j) (sym are) ∙ slice_get-map (description_told ds) points j ∙ ap (option_map (description_told ds)) q.1 in
    (q.0, q.1, named_factor (as_str tree) (whole tree) (option_map_or (λ (d : Description). d.name) (slice_get ds j) []) e ∙ ap (λ o. Some (option_map_or (λ (d : Description). d.name) o [])) at)

-- ---- the points

-- each entry is described, where none breaks a rule
abbrev AreDescribed : Items → List Description → Type 0
AreDescribed no_items [] = Unit {0}
AreDescribed no_items (d ∷ ds) = ⊥
AreDescribed (item entry entries) [] = ⊥
AreDescribed (item entry entries) (d ∷ ds) = (description_of entry ≡ Ok d) × AreDescribed entries ds

all_described : (seen : List Description) (entries : Items) → broken_among seen entries ≡ None → AreDescribed entries (descriptions_of entries)
all_described seen no_items e = tt
all_described seen (item entry entries) e = by_first (description_of entry) refl (λ d. all_described (seen ++ d ∷ []) entries) e
  where
    unbroken : (b : Bool) (o : Option DefFault) → (if b then Some fault.DuplicateName else o) ≡ None → o ≡ None
    unbroken true o f = absurd (cc)
    unbroken false o f = f

    by_first : (r : Result Description DefFault) → description_of entry ≡ r → ((d : Description) → broken_among (seen ++ d ∷ []) entries ≡ None → AreDescribed entries (descriptions_of entries))
        → broken_from seen r (λ longer. broken_among longer entries) ≡ None → AreDescribed (item entry entries) (joined r (descriptions_of entries))
    by_first (Ok d) p later f = (p, later d (unbroken (list_any (has_name d.name) seen) (broken_among (seen ++ d ∷ []) entries) f))
    by_first (Err x) p later f = absurd (cc)

module _ (model : ModelDef) (ds : List Description) (are : ArePoints ds model.points) where
  point_said : (i : ℕ) (entry : Data) (p : Point) → slice_get model.points i ≡ Some p → description_of entry ≡ Ok (description_told ds p) → IsPointOf model.points entry p
  point_said i entry p at e =
      let said = said_by entry (description_told ds p) e in
      record {
        name = said.name;
        kind = said.kind;
        size = said.size;
        factor = factor_said model.points ds (get (codes "sf") entry) p.sf are (λ j f. model.has_factors i j p at f) said.factor;
        writable = said.writable;
      }

  points_said : (entries : Items) (ps : List Point) → ((i : ℕ) (p : Point) → slice_get ps i ≡ Some p → (k : ℕ) × (slice_get model.points k ≡ Some p)) → AreDescribed entries (map (description_told ds) ps) → ArePointsOf model.points entries ps
  points_said no_items [] among h = tt
  points_said no_items (p ∷ ps) among h = absurd h
  points_said (item entry entries) [] among h = absurd h
  points_said (item entry entries) (p ∷ ps) among h = let k = among 0 p refl in (point_said k.0 entry p k.1 h.0, points_said entries ps (λ i q. among (suc i) q) h.1)

-- ---- the model

outline_told : (id : Option ℤ) (group : Option Data) (o : Outline) → option_and_then (λ n. option_and_then (λ g. option_map (λ ps. record { id = n; group = g; points = ps }) (option_and_then as_array (get (codes "points") g))) group) id ≡ Some o
    → (id ≡ Some o.id) × (group ≡ Some o.group) × (option_and_then as_array (get (codes "points") o.group) ≡ Some o.points)
outline_told None group o e = absurd (cc)
outline_told (Some n) None o e = absurd (cc)
outline_told (Some n) (Some g) o e = by_points (option_and_then as_array (get (codes "points") g)) refl e
  where
    by_points : (ps : Option Items) → option_and_then as_array (get (codes "points") g) ≡ ps → option_map (λ ps. record { id = n; group = g; points = ps }) ps ≡ Some o
        → (Some n ≡ Some o.id) × (Some g ≡ Some o.group) × (option_and_then as_array (get (codes "points") o.group) ≡ Some o.points)
    by_points None p f = absurd (cc)
    by_points (Some ps) p f =
        let own : Outline = record { id = n; group = g; points = ps } in
        let same : own ≡ o = some_is own o f in
        (ap (λ (x : Outline). Some x.id) same, ap (λ (x : Outline). Some x.group) same, subst (λ (x : Outline). option_and_then as_array (get (codes "points") x.group) ≡ Some x.points) same p)

-- a rule that isn't broken, and those after it
unless : {A : Type 0} (b : Bool) (x : A) (o : Option A) → (if b then Some x else o) ≡ None → o ≡ None
unless true x o e = absurd (cc)
unless false x o e = e

neither : {A : Type 0} (o p : Option A) → option_or o p ≡ None → o ≡ None
neither None p e = refl
neither (Some x) p e = absurd (cc)

unbroken_points : (o : Outline) → broken_in o ≡ None → broken_among [] o.points ≡ None
unbroken_points o e =
    let rest = option_or (broken_among [] o.points) (broken_whole (descriptions_of o.points)) in
    neither (broken_among [] o.points) (broken_whole (descriptions_of o.points))
    (unless (repeats o.group) fault.Repeating rest (unless (not (is_model_id o.id)) fault.BadType (if repeats o.group then Some fault.Repeating else rest) e))

pub is_model_of : (tree : Data) (model : ModelDef) → first_broken tree ≡ None → StandsFor tree model → IsModelOf tree model
is_model_of tree model unbroken (o, outlined, id, are) =
    let parts = outline_told (option_and_then whole (get (codes "id") tree)) (get (codes "group") tree) o outlined in
    let whole_outline : broken_in o ≡ None = ap first_broken_of (sym outlined) ∙ unbroken in
    let each : AreDescribed o.points (descriptions_of o.points) = all_described [] o.points (unbroken_points o whole_outline) in
    record {
      id = parts.0 ∙ ap Some id;
      group = o.group;
      grouped = parts.1;
      entries = o.points;
      listed = parts.2;
      points = points_said model (descriptions_of o.points) are o.points model.points (λ i p e. (i, e)) (subst (λ (ds : List Description). AreDescribed o.points ds) (sym are) each);
    }
