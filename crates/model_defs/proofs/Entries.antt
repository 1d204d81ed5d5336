-- The points of a model, one by one: looked up, and read in order.
use Rattle.std.proofs.Common.{◌≡◌, ℕ, suc, zero, ◌+◌, ◌<◌, Bool, true, false, cond, ◌||◌, ◌&&◌, List, [], ◌∷◌, ◌++◌, length, get_or, drop, Option, None, Some, is_some, option_map, Ok, refl, sym, ap, ◌∙◌, append_assoc, drop-cons, add-one, true≢false, Bor}
use Rattle.std.proofs.lemmas.Option.{slice_get-map}
use Rattle.std.proofs.lemmas.List.{map-append}
use Rattle.std.proofs.lemmas.Slice.Eq.{bytes_eq-Decides}
use denote.Enum.Bare.{sameb}
use Rattle.point_types.specs.contracts.kind.Kind.{the_type}
use Rattle.point_types.specs.declared.kind.Kind.{Kind}
use Rattle.point_types.specs.declared.kind.Kind.TheVariants as kinds
use Rattle.std.specs.Prelude.{slice_get, find}
use Rattle.std.specs.List.{list_any, AllByRecursion, IsDistinct}
use Rattle.std.specs.Option.{option_map_or}
use Rattle.std.specs.Str.{bytes_eq}
use Rattle.std.specs.Map.{keys_of, lookup, lookup_key}
use Rattle.serde_json.specs.View.{view, items_view}
use Rattle.serde_json.specs.declared.value.Value.{Value}
use Rattle.model_defs.specs.Definition.{description_of, descriptions_of, broken_among, has_name, is_heading, is_uint16, is_sunssf, is_factor}
use Rattle.model_defs.specs.Definition as told
use Rattle.model_defs.specs.Descriptions.{factor_view, description_view, descriptions_view}
use Rattle.model_defs.specs.declared.description.Factor.{Factor}
use Rattle.model_defs.specs.declared.description.Factor.TheVariants as factors
use Rattle.model_defs.specs.declared.point.Sf.TheVariants as places
use Rattle.model_defs.specs.declared.description.Description.{Description}
use Rattle.model_defs.specs.declared.fault.DefFault.TheVariants as fault

abbrev pub Entries : Type 0
Entries = List (Bor (List ℕ) × Description)

-- ---- the point of a number

pub headed_at : (es : Entries) (i : ℕ) (k : Bor (List ℕ)) (d : Description) (name : List ℕ) → Some (k, d) ≡ slice_get es i
    → is_heading (descriptions_view es) i name ≡ (bytes_eq name k.now && is_uint16 d.kind)
headed_at es i k d name at = rw slice_get-map (rw (← at) refl)

pub headed_past : (es : Entries) (i : ℕ) (name : List ℕ) → None ≡ slice_get es i → is_heading (descriptions_view es) i name ≡ false
headed_past es i name at = rw slice_get-map (rw (← at) refl)

-- ---- the point of a name

either : {X : Type 0} (b : Bool) (x : X) (rest : Option X) (any : Bool) → is_some rest ≡ any → is_some (cond b (Some x) rest) ≡ (b || any)
either true x rest any e = refl
either false x rest any e = e

-- a name is looked up among the points before
pub any_named : (name : List ℕ) (es : Entries) → is_some (lookup (λ k. bytes_eq name k.now) es) ≡ list_any (has_name name) (descriptions_view es)
any_named name [] = refl
any_named name (e ∷ es) = either (bytes_eq name e.0.now) e.1 _ _ (any_named name es)

found_or : (b : Bool) (e : Bor (List ℕ) × Description) (rest : Option Description) (other : Option told.Description)
    → option_map_or (λ d. is_sunssf d.kind) other false ≡ option_map_or (λ d. is_sunssf d.kind) rest false
    → option_map_or (λ d. is_sunssf d.kind) (cond b (Some (description_view e.0.now e.1)) other) false ≡ option_map_or (λ d. is_sunssf d.kind) (cond b (Some e.1) rest) false
found_or true e rest other h = refl
found_or false e rest other h = h

-- the kind of the point of a name
pub sunssf_named : (name : List ℕ) (es : Entries)
    → option_map_or (λ d. is_sunssf d.kind) (find (has_name name) (descriptions_view es)) false ≡ option_map_or (λ d. is_sunssf d.kind) (lookup (λ k. bytes_eq name k.now) es) false
sunssf_named name [] = refl
sunssf_named name (e ∷ es) = found_or (bytes_eq name e.0.now) e _ _ (sunssf_named name es)

key_or : (name : List ℕ) (b : Bool) (k x : Bor (List ℕ)) (rest : Option (Bor (List ℕ))) → bytes_eq name k.now ≡ b → (rest ≡ Some x → name ≡ x.now) → cond b (Some k) rest ≡ Some x → name ≡ x.now
key_or name true k x rest e next h = let same : k ≡ x = (cc) in (bytes_eq-Decides name k.now).0 e ∙ ap (λ y. y.now) same
key_or name false k x rest e next h = next h

-- the key that a name finds is that name
pub key_found : (name : List ℕ) (es : Entries) (x : Bor (List ℕ)) → lookup_key (λ k. bytes_eq name k.now) es ≡ Some x → name ≡ x.now
key_found name [] x h = absurd (cc)
key_found name (e ∷ es) x h = key_or name (bytes_eq name e.0.now) e.0 x _ refl (key_found name es x) h

-- ---- reading in order

-- one tree more has been read
pub read_more : (seen : List told.Description) (vs : List Value) (i : ℕ) (v : Value) (d : told.Description)
    → i < length vs → v ≡ get_or vs i v → description_of (view v) ≡ Ok d → list_any (has_name d.name) seen ≡ false
    → (broken_among seen (items_view (drop i vs)) ≡ broken_among (seen ++ d ∷ []) (items_view (drop (i + 1) vs)))
    × (seen ++ descriptions_of (items_view (drop i vs)) ≡ (seen ++ d ∷ []) ++ descriptions_of (items_view (drop (i + 1) vs)))
read_more seen vs i v d within is good new =
    let here : drop i vs ≡ v ∷ drop (i + 1) vs = rw (drop-cons vs i v, add-one) (rw (← is) refl) in
    rw here (rw good (rw new refl, rw append_assoc refl))

-- a point whose name is there
pub read_twice : (seen : List told.Description) (vs : List Value) (i : ℕ) (v : Value) (d : told.Description)
    → i < length vs → v ≡ get_or vs i v → description_of (view v) ≡ Ok d → list_any (has_name d.name) seen ≡ true
    → broken_among seen (items_view (drop i vs)) ≡ Some fault.DuplicateName
read_twice seen vs i v d within is good old =
    let here : drop i vs ≡ v ∷ drop (i + 1) vs = rw (drop-cons vs i v, add-one) (rw (← is) refl) in
    rw here (rw good (rw old refl))

-- ---- the kinds that are asked for, as `==` tells them

pub uint16_told : (k : Kind) → sameb the_type k kinds.Uint16 ≡ is_uint16 k
uint16_told kinds.Uint16 = refl
uint16_told other = refl

pub sunssf_told : (k : Kind) → sameb the_type k kinds.Sunssf ≡ is_sunssf k
sunssf_told kinds.Sunssf = refl
sunssf_told other = refl

pub none_from_test : {X : Type 0} (o : Option X) → is_some o ≡ false → o ≡ None
none_from_test None h = refl
none_from_test (Some x) h = absurd (cc)

-- a point that goes last
pub view_more : (es fs : Entries) (k : Bor (List ℕ)) (d : Description) → fs ≡ es ++ (k, d) ∷ [] → descriptions_view fs ≡ descriptions_view es ++ description_view k.now d ∷ []
view_more es fs k d h = rw h (map-append _ es ((k, d) ∷ []))

pub sunssf_from : (k : Kind) → is_sunssf k ≡ true → k ≡ kinds.Sunssf
sunssf_from kinds.Sunssf h = refl
sunssf_from other h = absurd (cc)

-- ---- a factor by name

pub factor_found : (es : Entries) (f : Factor) (n : Bor (List ℕ)) (x : Option Description) (b : Bool) → f ≡ factors.Named n → x ≡ lookup (λ k. bytes_eq n.now k.now) es
    → option_map_or (λ d. is_sunssf d.kind) x false ≡ b → is_factor (descriptions_view es) (factor_view f) ≡ b
factor_found es f n x b is found e = rw is (sunssf_named n.now es ∙ ap (λ o. option_map_or (λ d. is_sunssf d.kind) o false) (sym found) ∙ e)

pub factor_name : (es : Entries) (f : Factor) (n key : Bor (List ℕ)) (d : Description) (j : ℕ) → f ≡ factors.Named n → slice_get es j ≡ Some (key, d)
    → Some key ≡ lookup_key (λ k. bytes_eq n.now k.now) es → told.named (option_map_or (λ x. x.name) (slice_get (descriptions_view es) j) []) ≡ factor_view f
factor_name es f n key d j is at found = rw is (rw slice_get-map (rw at (ap told.named (sym (key_found n.now es key (sym found))))))

pub factor_kind : (es : Entries) (key : Bor (List ℕ)) (d : Description) (i j : ℕ) → slice_get es i ≡ Some (key, d) → d.kind ≡ kinds.Sunssf → places.At i ≡ places.At j
    → option_map (λ x. x.kind) (slice_get (descriptions_view es) j) ≡ Some kinds.Sunssf
factor_kind es key d i j at kind same = let e : i ≡ j = cc in rw (← e) (rw slice_get-map (rw at (ap Some kind)))

-- ---- names of their own

head_apart : (k : Bor (List ℕ)) (es : Entries) → AllByRecursion (λ y. bytes_eq k.now y.now ≡ false) (keys_of es) → (j : ℕ) (b : told.Description)
    → slice_get (descriptions_view es) j ≡ Some b → bytes_eq k.now b.name ≡ false
head_apart k [] h j b at = absurd (cc)
head_apart k (e ∷ es) h zero b at = let same : description_view e.0.now e.1 ≡ b = cc in rw (← same) h.0
head_apart k (e ∷ es) h (suc j) b at = head_apart k es h.1 j b at

pub same_bytes : (xs ys : List ℕ) → xs ≡ ys → bytes_eq xs ys ≡ true
same_bytes xs ys e = (bytes_eq-Decides xs ys).1 e

never : {P : Type 0} (xs ys : List ℕ) → bytes_eq xs ys ≡ false → xs ≡ ys → P
never xs ys apart e = absurd (true≢false (sym (same_bytes xs ys e) ∙ apart))

pub names_apart : (es : Entries) → IsDistinct (λ (x y : Bor (List ℕ)). bytes_eq x.now y.now) (keys_of es) → (i j : ℕ) (a b : told.Description)
    → slice_get (descriptions_view es) i ≡ Some a → slice_get (descriptions_view es) j ≡ Some b → a.name ≡ b.name → i ≡ j
unfolding IsDistinct
names_apart [] h i j a b at bt e = absurd (cc)
names_apart (x ∷ es) h zero zero a b at bt e = refl
names_apart (x ∷ es) h zero (suc j) a b at bt e =
    let same : description_view x.0.now x.1 ≡ a = cc in never x.0.now b.name (head_apart x.0 es h.0 j b bt) (ap (λ d. d.name) same ∙ e)
names_apart (x ∷ es) h (suc i) zero a b at bt e =
    let same : description_view x.0.now x.1 ≡ b = cc in never x.0.now a.name (head_apart x.0 es h.0 i a at) (ap (λ d. d.name) same ∙ sym e)
names_apart (x ∷ es) h (suc i) (suc j) a b at bt e = ap suc (names_apart es h.1 i j a b at bt e)
