-- The devices and tags of a site file, entry by entry.
use Rattle.std.proofs.Common.{◌≡◌, ℕ, ℤ, pos, Bool, true, false, neg_ℤ, ◌&&◌, ◌||◌, not, List, [], ◌∷◌, ◌++◌, find, if◌then◌else◌, Option, Some, None, is_some, option_map, option_and_then, Result, Ok, Err, slice_get, codes, refl, sym, ap, subst, ◌∙◌, append_assoc, append-nil, true≢false}
use Rattle.std.proofs.lemmas.Option.{cond_some}
use Rattle.std.proofs.lemmas.Slice.Eq.{bytes_eq-Decides}
use Rattle.std.specs.List.{list_any}
use Rattle.std.specs.Option.{ok_or, option_map_or}
use Rattle.std.specs.Str.{bytes_eq}
use Rattle.toml.specs.Data.{Data, Items, as_str, item, no_items}
use Rattle.point_types.specs.Name.{name_of}
use Rattle.point_types.specs.Value.{◌>>=◌, int_eq, is_bool, is_within}
use Rattle.point_types.specs.declared.il_type.IlType.{IlType}
use Rattle.point_types.specs.declared.kind.Kind.{Kind}
use Rattle.model_defs.specs.declared.point.Point.{Point}
use Rattle.model_defs.specs.declared.model.ModelDef.{ModelDef}
use Rattle.file_keys.specs.Keys.{natural_within, number_at, number_or, optional_number_at, text_at}
use Rattle.site_model.specs.Devices.{DeviceKeys, device_keys, device_of, device_within, devices_behind, has_name_or_unit, optional_base, write_of}
use Rattle.site_model.specs.Gateway.{definition_of, has_id}
use Rattle.site_model.specs.Tagging.{Measures, Numbers, TagPlace, TagKeys, bit_of, device_for, device_named, device_number, ends_in_ok, exponent_of, has_range, fit_by, is_bit_place, is_companion, is_device_named, is_fitting, is_input, is_output, is_rounding, lapse_of, last_bit, measures_of, measures_within, model_for, point_for, point_number, tag_name}
use Rattle.site_model.specs.Tag.{start_of}
use Rattle.site_model.specs.Told.{AreTold, IsDevice, IsPlaced, word_of_fit}
use Rattle.site_model.specs.Wants.{is_of_device}
use Rattle.site_model.specs.declared.access.Access.{Access}
use Rattle.site_model.specs.declared.access.Access.TheVariants as access
use Rattle.site_model.specs.declared.device.SiteDevice.{SiteDevice}
use Rattle.site_model.specs.declared.device.WriteFunction.{WriteFunction}
use Rattle.site_model.specs.declared.fit.Fit.TheVariants as fits
use Rattle.site_model.specs.declared.fault.SiteFault.{SiteFault}
use Rattle.site_model.specs.declared.fault.SiteFault.TheVariants as fault
use Rattle.site_model.proofs.ToldKeys.{by_both, given, natural_is, ok_is, optional_is, some_is, spared, stands_at, text_missing, text_there}
use Rattle.point_types.proofs.Truths.{both}

-- ---- devices

device_keys_told : (name : Option (List ℕ)) (unit : Option ℤ) (base write : Option (Option ℤ)) (rewrite : Option ℤ) (keys : DeviceKeys)
    → option_and_then (λ n. option_and_then (λ u. option_and_then (λ b. option_and_then (λ w. option_map (λ r. record { name = n; unit = u; base = b; write = w; rewrite = r }) rewrite) write) base) unit) name ≡ Some keys
    → (name ≡ Some keys.name) × (unit ≡ Some keys.unit) × (base ≡ Some keys.base) × (write ≡ Some keys.write) × (rewrite ≡ Some keys.rewrite)
device_keys_told None unit base write rewrite keys e = absurd (cc)
device_keys_told (Some n) None base write rewrite keys e = absurd (cc)
device_keys_told (Some n) (Some u) None write rewrite keys e = absurd (cc)
device_keys_told (Some n) (Some u) (Some b) None rewrite keys e = absurd (cc)
device_keys_told (Some n) (Some u) (Some b) (Some w) None keys e = absurd (cc)
device_keys_told (Some n) (Some u) (Some b) (Some w) (Some r) keys e =
    let own : DeviceKeys = record { name = n; unit = u; base = b; write = w; rewrite = r } in
    let same : own ≡ keys = some_is own keys e in
    (ap (λ (k : DeviceKeys). Some k.name) same, ap (λ (k : DeviceKeys). Some k.unit) same, ap (λ (k : DeviceKeys). Some k.base) same, ap (λ (k : DeviceKeys). Some k.write) same, ap (λ (k : DeviceKeys). Some k.rewrite) same)

device_within_told : (name : List ℕ) (unit : Option ℕ) (base : Option (Option ℕ)) (write : Option WriteFunction) (rewrite : Option ℕ) (d : SiteDevice)
    → option_and_then (λ u. option_and_then (λ b. option_and_then (λ w. option_map (λ r. record { name = name; unit = u; base = b; write = w; rewrite = r }) rewrite) write) base) unit ≡ Some d
    → (name ≡ d.name) × (unit ≡ Some d.unit) × (base ≡ Some d.base) × (write ≡ Some d.write) × (rewrite ≡ Some d.rewrite)
device_within_told name None base write rewrite d e = absurd (cc)
device_within_told name (Some u) None write rewrite d e = absurd (cc)
device_within_told name (Some u) (Some b) None rewrite d e = absurd (cc)
device_within_told name (Some u) (Some b) (Some w) None d e = absurd (cc)
device_within_told name (Some u) (Some b) (Some w) (Some r) d e =
    let own : SiteDevice = record { name = name; unit = u; base = b; write = w; rewrite = r } in
    let same : own ≡ d = some_is own d e in
    (ap (λ (k : SiteDevice). k.name) same, ap (λ (k : SiteDevice). Some k.unit) same, ap (λ (k : SiteDevice). Some k.base) same, ap (λ (k : SiteDevice). Some k.write) same, ap (λ (k : SiteDevice). Some k.rewrite) same)

base_is : (o : Option ℤ) (b : Option ℕ) → optional_base o ≡ Some b → o ≡ option_map pos b
base_is None b e = ap (option_map pos) (some_is None b e)
base_is (Some z) b e = optional_is 65534 z b e

device_told : (seen : List SiteDevice) (tree : Data) (d : SiteDevice) → device_of seen tree ≡ Ok d → IsDevice tree d
device_told seen tree d e =
    by_both (ok_or (device_keys tree) fault.MissingKey) (λ keys. ok_or (device_within keys) fault.BadRange >>= λ x. (if list_any (has_name_or_unit x.name x.unit) seen then Err fault.Duplicate else Ok x)) d e (λ keys p f.
    by_both (ok_or (device_within keys) fault.BadRange) (λ x. if list_any (has_name_or_unit x.name x.unit) seen then Err fault.Duplicate else Ok x) d f (λ x q g.
    let same : x ≡ d = ok_is x d (spared (list_any (has_name_or_unit x.name x.unit) seen) (Ok x) fault.Duplicate d g) in
    let k = device_keys_told (text_at (codes "name") tree) (number_at (codes "unit") tree) (optional_number_at (codes "base") tree) (optional_number_at (codes "write") tree) (number_or (codes "rewrite") (pos 0) tree) keys (given (device_keys tree) fault.MissingKey keys p) in
    let w = device_within_told keys.name (natural_within 255 keys.unit) (optional_base keys.base) (write_of keys.write) (natural_within 3600 keys.rewrite) d (given (device_within keys) fault.BadRange x q ∙ ap Some same) in
    record {
      name = k.0 ∙ ap Some w.0;
      unit = k.1 ∙ ap Some (natural_is 255 keys.unit d.unit w.1);
      base = k.2 ∙ ap Some (base_is keys.base d.base w.2);
      write = ap (option_and_then write_of) k.3 ∙ w.3;
      rewrite = k.4 ∙ ap Some (natural_is 3600 keys.rewrite d.rewrite w.4);
    }))

pub devices_told : (seen : List SiteDevice) (trees : Items) (all : List SiteDevice) → devices_behind seen trees ≡ Ok all → (rest : List SiteDevice) × (all ≡ seen ++ rest) × AreTold IsDevice trees rest
devices_told seen no_items all e = ([], sym (append-nil seen ∙ ok_is seen all e), tt)
devices_told seen (item tree trees) all e = by_both (device_of seen tree) (λ d. devices_behind (seen ++ d ∷ []) trees) all e (λ d p f.
    let k = devices_told (seen ++ d ∷ []) trees all f in
    (d ∷ k.0, k.1 ∙ append_assoc seen (d ∷ []) k.0, (device_told seen tree d p, k.2)))

-- ---- the keys of a tag

pub numbers_told : (exponent low high : Option ℤ) (default : Option (Option ℤ)) (n : Numbers)
    → option_and_then (λ e. option_and_then (λ l. option_and_then (λ h. option_map (λ d. record { exponent = e; low = l; high = h; default = d }) default) high) low) exponent ≡ Some n
    → (exponent ≡ Some n.exponent) × (low ≡ Some n.low) × (high ≡ Some n.high) × (default ≡ Some n.default)
numbers_told None low high default n e = absurd (cc)
numbers_told (Some x) None high default n e = absurd (cc)
numbers_told (Some x) (Some l) None default n e = absurd (cc)
numbers_told (Some x) (Some l) (Some h) None n e = absurd (cc)
numbers_told (Some x) (Some l) (Some h) (Some d) n e =
    let own : Numbers = record { exponent = x; low = l; high = h; default = d } in
    let same : own ≡ n = some_is own n e in
    (ap (λ (k : Numbers). Some k.exponent) same, ap (λ (k : Numbers). Some k.low) same, ap (λ (k : Numbers). Some k.high) same, ap (λ (k : Numbers). Some k.default) same)

pub place_told : (device : Option (Option (List ℕ))) (model : Option ℤ) (point : Option (List ℕ)) (p : TagPlace)
    → option_and_then (λ d. option_and_then (λ m. option_map (λ q. record { device = d; model = m; point = q }) point) model) device ≡ Some p
    → (device ≡ Some p.device) × (model ≡ Some p.model) × (point ≡ Some p.point)
place_told None model point p e = absurd (cc)
place_told (Some d) None point p e = absurd (cc)
place_told (Some d) (Some m) None p e = absurd (cc)
place_told (Some d) (Some m) (Some q) p e =
    let own : TagPlace = record { device = d; model = m; point = q } in
    let same : own ≡ p = some_is own p e in
    (ap (λ (k : TagPlace). Some k.device) same, ap (λ (k : TagPlace). Some k.model) same, ap (λ (k : TagPlace). Some k.point) same)

-- what the ten parts of a tag's keys are
pub record AreKeys (name access kind : Option (List ℕ)) (place : Option TagPlace) (numbers : Option Numbers) (bit : Option (Option ℤ)) (round : Option (Option (List ℕ))) (lapse : Option (Option ℤ)) (fit companion : Option (Option (List ℕ))) (keys : TagKeys) : Type 0 where
  pub name_is : name ≡ Some keys.name
  pub access_is : access ≡ Some keys.access
  pub kind_is : kind ≡ Some keys.kind
  pub place_is : place ≡ Some keys.place
  pub numbers_is : numbers ≡ Some keys.numbers
  pub bit_is : bit ≡ Some keys.bit
  pub round_is : round ≡ Some keys.round
  pub lapse_is : lapse ≡ Some keys.lapse
  pub fit_is : fit ≡ Some keys.fit
  pub companion_is : companion ≡ Some keys.companion

pub keys_told : (name access kind : Option (List ℕ)) (place : Option TagPlace) (numbers : Option Numbers) (bit : Option (Option ℤ)) (round : Option (Option (List ℕ))) (lapse : Option (Option ℤ)) (fit companion : Option (Option (List ℕ))) (keys : TagKeys)
    → option_and_then (λ n. option_and_then (λ a. option_and_then (λ k. option_and_then (λ p. option_and_then (λ m. option_and_then (λ b.
    option_and_then (λ r. option_and_then (λ l. option_and_then (λ f. option_map (λ c. record { name = n; access = a; kind = k; place = p; numbers = m; bit = b; round = r; lapse = l; fit = f; companion = c }) companion) fit) lapse) round) bit) numbers) place) kind) access) name ≡ Some keys
    → AreKeys name access kind place numbers bit round lapse fit companion keys
keys_told None access kind place numbers bit round lapse fit companion keys e = absurd (cc)
keys_told (Some n) None kind place numbers bit round lapse fit companion keys e = absurd (cc)
keys_told (Some n) (Some a) None place numbers bit round lapse fit companion keys e = absurd (cc)
keys_told (Some n) (Some a) (Some k) None numbers bit round lapse fit companion keys e = absurd (cc)
keys_told (Some n) (Some a) (Some k) (Some p) None bit round lapse fit companion keys e = absurd (cc)
keys_told (Some n) (Some a) (Some k) (Some p) (Some m) None round lapse fit companion keys e = absurd (cc)
keys_told (Some n) (Some a) (Some k) (Some p) (Some m) (Some b) None lapse fit companion keys e = absurd (cc)
keys_told (Some n) (Some a) (Some k) (Some p) (Some m) (Some b) (Some r) None fit companion keys e = absurd (cc)
keys_told (Some n) (Some a) (Some k) (Some p) (Some m) (Some b) (Some r) (Some l) None companion keys e = absurd (cc)
keys_told (Some n) (Some a) (Some k) (Some p) (Some m) (Some b) (Some r) (Some l) (Some f) None keys e = absurd (cc)
keys_told (Some n) (Some a) (Some k) (Some p) (Some m) (Some b) (Some r) (Some l) (Some f) (Some c) keys e =
    let own : TagKeys = record { name = n; access = a; kind = k; place = p; numbers = m; bit = b; round = r; lapse = l; fit = f; companion = c } in
    let same : own ≡ keys = some_is own keys e in
    record {
      name_is = ap (λ (k : TagKeys). Some k.name) same;
      access_is = ap (λ (k : TagKeys). Some k.access) same;
      kind_is = ap (λ (k : TagKeys). Some k.kind) same;
      place_is = ap (λ (k : TagKeys). Some k.place) same;
      numbers_is = ap (λ (k : TagKeys). Some k.numbers) same;
      bit_is = ap (λ (k : TagKeys). Some k.bit) same;
      round_is = ap (λ (k : TagKeys). Some k.round) same;
      lapse_is = ap (λ (k : TagKeys). Some k.lapse) same;
      fit_is = ap (λ (k : TagKeys). Some k.fit) same;
      companion_is = ap (λ (k : TagKeys). Some k.companion) same;
    }

-- ---- the parts of a tag

same_bytes : (xs ys : List ℕ) → bytes_eq xs ys ≡ true → xs ≡ ys
same_bytes xs ys e = (bytes_eq-Decides xs ys).0 e

pub name_told : (text name : List ℕ) → tag_name text ≡ Some name → text ≡ name
name_told text name e = by_word (name_of text) e
  where
    by_word : (o : Option (List ℕ)) → option_and_then (λ n. if bytes_eq n text && not (ends_in_ok text) then Some n else None) o ≡ Some name → text ≡ name
    by_word None f = absurd (cc)
    by_word (Some n) f =
        let c = cond_some (bytes_eq n text && not (ends_in_ok text)) n name f in
        sym (same_bytes n text (both (bytes_eq n text) (not (ends_in_ok text)) c.0).0) ∙ c.1

-- the device of a name, and none where the point is the gateway's own
placed_in : (devices : List SiteDevice) (a : Access) (text name : Option (List ℕ)) (n : Option ℕ) → ((s : List ℕ) → name ≡ Some s → text ≡ Some s) → is_of_device a ≡ true
    → (ok_or name fault.MissingKey >>= device_named devices) ≡ Ok n → IsPlaced devices text a n
placed_in devices a text name n said polled e =
    by_both (ok_or name fault.MissingKey) (device_named devices) n e (λ s p f.
    by_number s (said s (given name fault.MissingKey s p)) (device_number devices s) refl (given (option_map Some (device_number devices s)) fault.UnknownDevice n f))
  where
    by_number : (s : List ℕ) → text ≡ Some s → (o : Option ℕ) → device_number devices s ≡ o → option_map Some o ≡ Some n → IsPlaced devices text a n
    by_number s t None p f = absurd (cc)
    by_number s t (Some i) p f =
        let h = stands_at (is_device_named s) devices i p in
        subst (λ (m : Option ℕ). IsPlaced devices text a m) (some_is (Some i) n f) (polled, h.0, h.1, t ∙ ap Some (same_bytes s (h.0).name h.2))

own_place : (devices : List SiteDevice) (a : Access) (text : Option (List ℕ)) (n : Option ℕ) → is_of_device a ≡ false → ◌≡◌ {A = Result (Option ℕ) SiteFault} (Ok None) (Ok n) → IsPlaced devices text a n
own_place devices a text n own e = subst (λ (m : Option ℕ). IsPlaced devices text a m) (ok_is None n e) own

pub placed : (devices : List SiteDevice) (a : Access) (text name : Option (List ℕ)) (n : Option ℕ) → ((s : List ℕ) → name ≡ Some s → text ≡ Some s) → device_for devices (Some a) name ≡ Ok n → IsPlaced devices text a n
placed devices access.Input text name n said e = placed_in devices access.Input text name n said refl e
placed devices access.Output text name n said e = placed_in devices access.Output text name n said refl e
placed devices access.Setting text name n said e = own_place devices access.Setting text n refl e
placed devices access.Shown text name n said e = own_place devices access.Shown text n refl e
placed devices access.Time text name n said e = own_place devices access.Time text n refl e

-- the model of an ID: of all that are defined, or of the gateway's own, which are among these
pub model_told : (own defs : List ModelDef) (a : Access) (id : ℤ) (m : ModelDef) → (find (has_id id) own ≡ Some m → definition_of defs id ≡ Some m) → model_for own defs (Some a) id ≡ Some m → definition_of defs id ≡ Some m
model_told own defs access.Input id m among e = e
model_told own defs access.Output id m among e = e
model_told own defs access.Setting id m among e = among e
model_told own defs access.Shown id m among e = among e
model_told own defs access.Time id m among e = among e

pub point_told : (name : List ℕ) (model : ModelDef) (p : Point) → point_for name model ≡ Some p → (i : ℕ) × (slice_get model.points i ≡ Some p) × (name ≡ p.name)
point_told name model p e = by_number (point_number name model) refl e
  where
    by_number : (o : Option ℕ) → point_number name model ≡ o → option_and_then (slice_get model.points) o ≡ Some p → (i : ℕ) × (slice_get model.points i ≡ Some p) × (name ≡ p.name)
    by_number None q f = absurd (cc)
    by_number (Some i) q f =
        let h = stands_at (λ (x : Point). bytes_eq x.name name) model.points i q in
        let same : h.0 ≡ p = some_is h.0 p (sym h.1 ∙ f) in
        (i, f, sym (same_bytes (h.0).name name h.2) ∙ ap (λ (x : Point). x.name) same)

measures_parts : (exponent : Option ℤ) (bit lapse : Option (Option ℕ)) (m : Measures) → option_and_then (λ e. option_and_then (λ b. option_map (λ l. record { exponent = e; bit = b; lapse = l }) lapse) bit) exponent ≡ Some m
    → (exponent ≡ Some m.exponent) × (bit ≡ Some m.bit) × (lapse ≡ Some m.lapse)
measures_parts None bit lapse m e = absurd (cc)
measures_parts (Some x) None lapse m e = absurd (cc)
measures_parts (Some x) (Some b) None m e = absurd (cc)
measures_parts (Some x) (Some b) (Some l) m e =
    let own : Measures = record { exponent = x; bit = b; lapse = l } in
    let same : own ≡ m = some_is own m e in
    (ap (λ (k : Measures). Some k.exponent) same, ap (λ (k : Measures). Some k.bit) same, ap (λ (k : Measures). Some k.lapse) same)

some_chosen : {A : Type 0} (b : Bool) (o : Option A) (x : A) → (if b then o else None) ≡ Some x → o ≡ Some x
some_chosen true o x e = e
some_chosen false o x e = absurd (cc)

some_other : {A : Type 0} (b : Bool) (o : Option A) (x : A) → (if b then None else o) ≡ Some x → o ≡ Some x
some_other true o x e = absurd (cc)
some_other false o x e = e

pub measures_told : (kind : Option IlType) (point : Kind) (n : Numbers) (bit lapse : Option ℤ) (m : Measures) → measures_of kind point n bit lapse ≡ Some m
    → (n.exponent ≡ m.exponent) × (bit_of point bit ≡ Some m.bit) × (lapse_of lapse ≡ Some m.lapse)
measures_told kind point n bit lapse m e =
    let within = some_chosen (has_range kind n.low n.high (start_of n.low n.default)) (measures_within point n.exponent bit lapse) m e in
    let k = measures_parts (exponent_of n.exponent) (bit_of point bit) (lapse_of lapse) m within in
    ((cond_some (is_within (neg_ℤ (pos 10)) (pos 10) n.exponent) n.exponent m.exponent k.0).1, k.1, k.2)

pub lapse_told : (seconds : Option ℤ) (l : Option ℕ) → lapse_of seconds ≡ Some l → seconds ≡ option_map pos l
lapse_told None l e = ap (option_map pos) (some_is None l e)
lapse_told (Some n) l e = optional_is 86400 n l (some_other (int_eq n (pos 0)) (option_map Some (natural_within 86400 n)) l e)

pub bit_told : (a : Access) (kind : IlType) (point : Kind) (bit : Option ℤ) (b : Option ℕ) → bit_of point bit ≡ Some b → is_bit_place a kind point bit ≡ true → bit ≡ option_map pos b
bit_told a kind point None b e h = ap (option_map pos) (some_is None b e)
bit_told a kind point (Some z) b e h = by_last (last_bit point) e (both (is_bool kind) (is_some (last_bit point)) (both (is_input a) (is_bool kind && is_some (last_bit point)) h).1).1
  where
    by_last : (last : Option ℕ) → option_map_or (λ last. option_map Some (natural_within last z)) last (Some None) ≡ Some b → is_some last ≡ true → Some z ≡ option_map pos b
    by_last None f there = absurd (true≢false (sym there))
    by_last (Some last) f there = optional_is last z b f

pub round_told : (a : Access) (bit : Option ℤ) (round : Option (List ℕ)) (o : Option Data) → option_map_or (λ d. option_map Some (as_str d)) o (Some None) ≡ Some round → is_rounding a bit round ≡ true
    → option_and_then as_str o ≡ (if is_some round then Some (codes "down") else None)
round_told a bit None o e h = text_missing o e
round_told a bit (Some word) o e h =
    let down = (both (not (is_some bit)) (bytes_eq word (codes "down")) (both (is_input a) (not (is_some bit) && bytes_eq word (codes "down")) h).1).1 in
    text_there o word e ∙ ap Some (same_bytes word (codes "down") down)

pub fit_told : (a : Access) (fit : Option (List ℕ)) (o : Option Data) → option_map_or (λ d. option_map Some (as_str d)) o (Some None) ≡ Some fit → is_fitting a fit ≡ true
    → option_and_then as_str o ≡ word_of_fit (fit_by fit)
fit_told a None o e h = text_missing o e
fit_told a (Some word) o e h = text_there o word e ∙ by_word (bytes_eq word (codes "up")) refl
  where
    one : (bytes_eq word (codes "down") || bytes_eq word (codes "up")) ≡ true
    one = (both (is_output a) (bytes_eq word (codes "down") || bytes_eq word (codes "up")) h).1

    below : (d u : Bool) → (d || u) ≡ true → u ≡ false → d ≡ true
    below true u p q = refl
    below false u p q = cc

    by_word : (up : Bool) → bytes_eq word (codes "up") ≡ up → Some word ≡ word_of_fit (if up then fits.Up else fits.Down)
    by_word true p = ap Some (same_bytes word (codes "up") p)
    by_word false p = ap Some (same_bytes word (codes "down") (below (bytes_eq word (codes "down")) (bytes_eq word (codes "up")) one p))

-- the word of the key `with` is the name that it is read as
pub companion_told : (a : Access) (companion : Option (List ℕ)) (o : Option Data) → option_map_or (λ d. option_map Some (as_str d)) o (Some None) ≡ Some companion → is_companion a companion ≡ true
    → option_and_then as_str o ≡ option_and_then tag_name companion
companion_told a None o e h = text_missing o e
companion_told a (Some word) o e h = text_there o word e ∙ by_name (tag_name word) refl
  where
    by_name : (n : Option (List ℕ)) → tag_name word ≡ n → Some word ≡ n
    by_name None q = absurd (let f : is_some (tag_name word) ≡ false = ap is_some q in let t = (both (is_output a) (is_some (tag_name word)) h).1 in cc)
    by_name (Some n) q = ap Some (name_told word n q)
