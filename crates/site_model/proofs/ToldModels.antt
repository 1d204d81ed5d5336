-- The gateway of a site file, the definitions of the models that it names, and their lengths.
use Rattle.std.proofs.Common.{◌≡◌, ℕ, zero, suc, ◌==◌, ℤ, pos, Bool, true, false, List, [], ◌∷◌, ◌++◌, map, find, if◌then◌else◌, Option, Some, None, option_map, option_and_then, Ok, slice_get, codes, refl, sym, ap, subst, ◌∙◌, append_assoc, append-nil, arith}
use Rattle.std.proofs.lemmas.Int.{ints}
use Rattle.std.proofs.lemmas.Option.{cond_some}
use Rattle.std.specs.Option.{ok_or, option_map_or}
use Rattle.toml.specs.Data.{Data, Items, no_items, item, get, as_array, as_integer}
use Rattle.point_types.specs.Value.{int_eq, ◌>>=◌}
use Rattle.model_defs.specs.declared.model.ModelDef.{ModelDef}
use Rattle.file_keys.specs.Keys.{all_numbers, natural_within, number_at, list_at, number_or, numbers_in, optional_number_at}
use Rattle.site_model.specs.Gateway.{Gateway, GatewayKeys, definition_of, definitions_behind, gateway_keys, gateway_of, gateway_within, has_id, is_map, latest}
use Rattle.site_model.specs.Lengths.{length_of_model, length_of_tag, lengths_of}
use Rattle.site_model.specs.Told.{AreTold, IsDefined}
use Rattle.site_model.specs.TagView.{tag_view}
use Rattle.site_model.specs.Wants.{length_of}
use Rattle.site_model.specs.declared.fault.SiteFault.TheVariants as fault
use Rattle.site_model.specs.declared.tag.SiteTag.{SiteTag}
use Rattle.site_model.proofs.ToldKeys.{by_both, given, natural_is, some_is, usual_is}

-- ---- definitions by their IDs

same_number : (a b : ℤ) → int_eq a b ≡ true → a ≡ b
same_number a b h = grind (arith, ints)

equal_numbers : (m n : ℕ) → (m == n) ≡ true → m ≡ n
equal_numbers m n e = grind arith

latest_has : (id : ℤ) (found : Option ModelDef) (defs : List ModelDef) (m : ModelDef) → ((x : ModelDef) → found ≡ Some x → has_id id x ≡ true) → latest id found defs ≡ Some m → has_id id m ≡ true
latest_has id found [] m h e = h m e
latest_has id found (d ∷ ds) m h e = latest_has id (if has_id id d then Some d else found) ds m (by_id (has_id id d) refl) e
  where
    by_id : (b : Bool) → has_id id d ≡ b → (x : ModelDef) → (if b then Some d else found) ≡ Some x → has_id id x ≡ true
    by_id true p x f = ap (has_id id) (sym (some_is d x f)) ∙ p
    by_id false p x f = h x f

-- the definition that is found for an ID has it
pub has_its_id : (defs : List ModelDef) (id : ℤ) (m : ModelDef) → definition_of defs id ≡ Some m → pos m.id ≡ id
has_its_id defs id m e = same_number (pos m.id) id (latest_has id None defs m (λ x f. absurd (cc)) e)

pub defined_by_its_id : (defs : List ModelDef) (id : ℤ) (m : ModelDef) → definition_of defs id ≡ Some m → definition_of defs (pos m.id) ≡ Some m
defined_by_its_id defs id m e = ap (definition_of defs) (has_its_id defs id m e) ∙ e

defined_here : (defs : List ModelDef) (id : Option ℤ) (m : ModelDef) → IsDefined defs id m → definition_of defs (pos m.id) ≡ Some m
defined_here defs None m e = absurd (cc)
defined_here defs (Some id) m e = defined_by_its_id defs id m e

module _ (defs : List ModelDef) where
  abbrev Is : Data → ModelDef → Type 0
  Is id m = IsDefined defs (as_integer id) m

  -- the gateway's own model of an ID is the definition of that ID
  pub own_defined : (ids : Items) (own : List ModelDef) (id : ℤ) (m : ModelDef) → AreTold Is ids own → find (has_id id) own ≡ Some m → definition_of defs id ≡ Some m
  own_defined no_items [] id m told e = absurd (cc)
  own_defined no_items (x ∷ xs) id m told e = absurd told
  own_defined (item d ds) [] id m told e = absurd told
  own_defined (item d ds) (x ∷ xs) id m told e = by_id (has_id id x) refl (own_defined ds xs id m told.1) e
    where
      by_id : (b : Bool) → has_id id x ≡ b → (find (has_id id) xs ≡ Some m → definition_of defs id ≡ Some m) → (if b then Some x else find (has_id id) xs) ≡ Some m → definition_of defs id ≡ Some m
      by_id true p later f = ap (definition_of defs) (sym (same_number (pos x.id) id p)) ∙ defined_here defs (as_integer d) x told.0 ∙ f
      by_id false p later f = later f

  -- ---- lengths

  pub own_length : (ids : Items) (own : List ModelDef) (more : List (ℕ × ℕ)) (m : ModelDef) → AreTold Is ids own → definition_of defs (pos m.id) ≡ Some m
      → length_of more m.id ≡ Some m.length → length_of (map length_of_model own ++ more) m.id ≡ Some m.length
  own_length no_items [] more m told is behind = behind
  own_length no_items (x ∷ xs) more m told is behind = absurd told
  own_length (item d ds) [] more m told is behind = absurd told
  own_length (item d ds) (x ∷ xs) more m told is behind = by_id (x.id == m.id) refl (own_length ds xs more m told.1 is behind)
    where
      by_id : (b : Bool) → (x.id == m.id) ≡ b → length_of (map length_of_model xs ++ more) m.id ≡ Some m.length → option_map (λ (e : ℕ × ℕ). e.1) (if b then Some (length_of_model x) else find (λ e. e.0 == m.id) (map length_of_model xs ++ more)) ≡ Some m.length
      by_id true p later =
          let same : Some x ≡ Some m = sym (defined_here defs (as_integer d) x told.0) ∙ ap (λ n. definition_of defs (pos n)) (equal_numbers x.id m.id p) ∙ is in
          ap (λ (y : ModelDef). Some y.length) (some_is x m same)
      by_id false p later = later

  pub tag_length : (tags : List SiteTag) (i : ℕ) (t : SiteTag) (m : ModelDef) → definition_of defs (pos m.id) ≡ Some m → slice_get tags i ≡ Some t → t.model ≡ m.id
      → length_of (map (length_of_tag defs) (map tag_view tags)) m.id ≡ Some m.length
  tag_length [] i t m is at same = absurd (cc)
  tag_length (u ∷ us) i t m is at same = by_id (u.model == m.id) refl (λ k f. tag_length us k t m is f same)
    where
      at_place : (k : ℕ) → slice_get (u ∷ us) k ≡ Some t → (u.model == m.id) ≡ false → ((j : ℕ) → slice_get us j ≡ Some t → length_of (map (length_of_tag defs) (map tag_view us)) m.id ≡ Some m.length)
          → length_of (map (length_of_tag defs) (map tag_view us)) m.id ≡ Some m.length
      at_place zero f p later = let here : u.model ≡ m.id = ap (λ (x : SiteTag). x.model) (some_is u t f) ∙ same in absurd (grind arith)
      at_place (suc k) f p later = later k f

      by_id : (b : Bool) → (u.model == m.id) ≡ b → ((j : ℕ) → slice_get us j ≡ Some t → length_of (map (length_of_tag defs) (map tag_view us)) m.id ≡ Some m.length)
          → option_map (λ (e : ℕ × ℕ). e.1) (if b then Some (length_of_tag defs (tag_view u)) else find (λ e. e.0 == m.id) (map (length_of_tag defs) (map tag_view us))) ≡ Some m.length
      by_id true p later = ap (λ n. Some (option_map_or (λ (d : ModelDef). d.length) (definition_of defs (pos n)) 0)) (equal_numbers u.model m.id p) ∙ ap (λ o. Some (option_map_or (λ (d : ModelDef). d.length) o 0)) is
      by_id false p later = at_place i at p later

  -- a tag's model has its length in the table of a site
  pub model_length : (ids : Items) (own : List ModelDef) (tags : List SiteTag) (i : ℕ) (t : SiteTag) (m : ModelDef) → AreTold Is ids own → definition_of defs (pos m.id) ≡ Some m
      → slice_get tags i ≡ Some t → t.model ≡ m.id → length_of (lengths_of own defs (map tag_view tags)) t.model ≡ Some m.length
  model_length ids own tags i t m told is at same =
      ap (length_of (lengths_of own defs (map tag_view tags))) same ∙ own_length ids own (map (length_of_tag defs) (map tag_view tags)) m told is (tag_length tags i t m is at same)

  -- ---- the gateway

  models_told : (found : List ModelDef) (ids : Items) (all : List ModelDef) → definitions_behind defs found ids ≡ Some all → (rest : List ModelDef) × (all ≡ found ++ rest) × AreTold Is ids rest
  models_told found no_items all e = ([], sym (append-nil found ∙ some_is found all e), tt)
  models_told found (item d ds) all e = by_model (option_and_then (definition_of defs) (as_integer d)) refl (λ m. models_told (found ++ m ∷ []) ds all) e
    where
      by_model : (o : Option ModelDef) → option_and_then (definition_of defs) (as_integer d) ≡ o
          → ((m : ModelDef) → definitions_behind defs (found ++ m ∷ []) ds ≡ Some all → (rest : List ModelDef) × (all ≡ (found ++ m ∷ []) ++ rest) × AreTold Is ds rest)
          → option_and_then (λ model. definitions_behind defs (found ++ model ∷ []) ds) o ≡ Some all
          → (rest : List ModelDef) × (all ≡ found ++ rest) × AreTold Is (item d ds) rest
      by_model None p later f = absurd (cc)
      by_model (Some m) p later f =
          let k = later m f in
          (m ∷ k.0, k.1 ∙ append_assoc found (m ∷ []) k.0, (p, k.2))

  keys_told : (unit : Option ℤ) (base : Option (Option ℤ)) (models : Option Items) (keys : GatewayKeys)
      → option_and_then (λ u. option_and_then (λ b. option_map (λ m. record { unit = u; base = b; models = m }) models) base) unit ≡ Some keys
      → (unit ≡ Some keys.unit) × (base ≡ Some keys.base) × (models ≡ Some keys.models)
  keys_told None base models keys e = absurd (cc)
  keys_told (Some u) None models keys e = absurd (cc)
  keys_told (Some u) (Some b) None keys e = absurd (cc)
  keys_told (Some u) (Some b) (Some m) keys e =
      let own : GatewayKeys = record { unit = u; base = b; models = m } in
      let same : own ≡ keys = some_is own keys e in
      (ap (λ (k : GatewayKeys). Some k.unit) same, ap (λ (k : GatewayKeys). Some k.base) same, ap (λ (k : GatewayKeys). Some k.models) same)

  within_told : (unit base : Option ℕ) (fits : ℕ → Bool) (models : List ModelDef) (g : Gateway)
      → option_and_then (λ u. option_and_then (λ b. if fits b then Some (record { unit = u; base = b; models = models }) else None) base) unit ≡ Some g
      → (unit ≡ Some g.unit) × (base ≡ Some g.base) × (models ≡ g.models)
  within_told None base fits models g e = absurd (cc)
  within_told (Some u) None fits models g e = absurd (cc)
  within_told (Some u) (Some b) fits models g e =
      let own : Gateway = record { unit = u; base = b; models = models } in
      let same : own ≡ g = (cond_some (fits b) own g e).1 in
      (ap (λ (k : Gateway). Some k.unit) same, ap (λ (k : Gateway). Some k.base) same, ap (λ (k : Gateway). k.models) same)

  list_of : (d : Option Data) (ids : Items) → option_and_then numbers_in d ≡ Some ids → option_and_then as_array d ≡ Some ids
  list_of None ids e = absurd (cc)
  list_of (Some d) ids e = by_list (as_array d) e
    where
      by_list : (o : Option Items) → option_and_then (λ items. if all_numbers items then Some items else None) o ≡ Some ids → o ≡ Some ids
      by_list None f = absurd (cc)
      by_list (Some items) f = ap Some (cond_some (all_numbers items) items ids f).1

  -- what the section of a gateway says of it
  pub record IsSaid (doc : Data) (g : Gateway) : Type 0 where
    pub entry : Data
    pub there : get (codes "gateway") doc ≡ Some entry
    pub unit : number_at (codes "unit") entry ≡ Some (pos g.unit)
    pub base : number_or (codes "base") (pos 40000) entry ≡ Some (pos g.base)
    pub ids : Items
    pub listed : list_at (codes "models") entry ≡ Some ids
    pub models : AreTold Is ids g.models

  said_by : (doc entry : Data) (keys : GatewayKeys) (models : List ModelDef) (g : Gateway) → get (codes "gateway") doc ≡ Some entry → gateway_keys entry ≡ Some keys
      → definitions_behind defs [] keys.models ≡ Some models → gateway_within keys models ≡ Some g → IsSaid doc g
  said_by doc entry keys models g at e f h =
      let k = keys_told (number_at (codes "unit") entry) (optional_number_at (codes "base") entry) (option_and_then numbers_in (get (codes "models") entry)) keys e in
      let usual = option_map_or (λ n. n) keys.base (pos 40000) in
      let w = within_told (natural_within 255 keys.unit) (natural_within 65534 usual) (λ b. is_map b models) models g h in
      let own = models_told [] keys.models models f in
      record {
        entry = entry;
        there = at;
        unit = k.0 ∙ ap Some (natural_is 255 keys.unit g.unit w.0);
        base = usual_is (get (codes "base") entry) (pos 40000) keys.base k.1 ∙ ap Some (natural_is 65534 usual g.base w.1);
        ids = keys.models;
        listed = list_of (get (codes "models") entry) keys.models k.2;
        models = subst (λ (ms : List ModelDef). AreTold Is keys.models ms) (sym own.1 ∙ w.2) own.2;
      }

  pub gateway_said : (doc : Data) (g : Gateway) → gateway_of defs doc ≡ Ok g → IsSaid doc g
  gateway_said doc g e =
      by_both (ok_or (option_and_then gateway_keys (get (codes "gateway") doc)) fault.MissingKey) (λ keys. ok_or (definitions_behind defs [] keys.models) fault.UnknownModel >>= λ models. ok_or (gateway_within keys models) fault.BadRange) g e (λ keys p f.
      by_both (ok_or (definitions_behind defs [] keys.models) fault.UnknownModel) (λ models. ok_or (gateway_within keys models) fault.BadRange) g f (λ models q h.
      by_entry keys models (given (definitions_behind defs [] keys.models) fault.UnknownModel models q) (given (gateway_within keys models) fault.BadRange g h) (get (codes "gateway") doc) refl (given (option_and_then gateway_keys (get (codes "gateway") doc)) fault.MissingKey keys p)))
    where
      by_entry : (keys : GatewayKeys) (models : List ModelDef) → definitions_behind defs [] keys.models ≡ Some models → gateway_within keys models ≡ Some g
          → (o : Option Data) → get (codes "gateway") doc ≡ o → option_and_then gateway_keys o ≡ Some keys → IsSaid doc g
      by_entry keys models q h None at f = absurd (cc)
      by_entry keys models q h (Some entry) at f = said_by doc entry keys models g at f q h
