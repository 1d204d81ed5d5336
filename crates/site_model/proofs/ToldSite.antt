-- A site that is read is the one that its file says.
use Rattle.std.proofs.Common.{◌≡◌, ◌⊎◌, inl, inr, ℕ, ℤ, suc, pos, ◌≤ℤ◌, int_le, Bool, true, false, true≢false, ◌&&◌, ◌||◌, List, [], ◌∷◌, ◌++◌, map, if◌then◌else◌, Option, Some, None, option_map, option_and_then, Ok, Err, slice_get, codes, refl, sym, ap, subst, ◌∙◌, append_assoc, append-nil}
use Rattle.std.proofs.lemmas.Option.{cond_some}
use Rattle.std.specs.List.{list_any}
use Rattle.std.proofs.lemmas.Slice.Eq.{bytes_eq-Decides}
use Rattle.std.specs.Option.{ok_or, option_map_or}
use Rattle.std.specs.Str.{bytes_eq}
use Rattle.toml.specs.Data.{Data, Items, Members, as_integer, get, item, no_items, table}
use Rattle.toml.specs.Parse.{parse_document}
use Rattle.point_types.specs.Value.{◌>>=◌, is_bool}
use Rattle.point_types.specs.declared.il_type.IlType.{IlType}
use Rattle.model_defs.specs.declared.point.Point.{Point}
use Rattle.model_defs.specs.declared.model.ModelDef.{ModelDef}
use Rattle.file_keys.specs.Keys.{number_at, optional_number_at, optional_text_at, section_at, text_at}
use Rattle.site_model.specs.Companions.{companions_of, first_unpaired, paired, unless_unpaired}
use Rattle.site_model.specs.Devices.{devices_behind}
use Rattle.site_model.specs.File.{Layout, has_too_many, layout_of, layout_over, section_in, site_of}
use Rattle.site_model.specs.Gateway.{Gateway, definition_of, gateway_of}
use Rattle.site_model.specs.Lengths.{lengths_of}
use Rattle.site_model.specs.Serving.{served_behind}
use Rattle.site_model.specs.Tagging.{Tag, TagKeys, access_of, clashes, device_for, goes_together, is_bit_place, is_companion, is_fitting, is_on_heading, is_place, is_lapsing, is_rounding, may_be_written, measures_of, Measures, model_for, numbers_of, place_of, point_for, point_tag_of, tag_keys, tag_name, tag_of, tag_over, tag_placed, tag_typed, tags_behind, type_of, TimeKeys, has_point_words, has_range, has_time_range, is_time, time_keys, time_over, time_placed, time_tag_of, time_typed}
use Rattle.site_model.specs.Told.{AreIn, AreTold, IsDefined, IsDevice, IsPlaced, IsPoint, IsPointTag, IsTag, IsTimeTag, IsTold, SitesAreTold, word_of_fit}
use Rattle.site_model.specs.Views.{site_view}
use Rattle.site_model.specs.TagView.{tag_view}
use Rattle.site_model.specs.Wants.{length_of}
use Rattle.site_model.specs.declared.access.Access.{Access}
use Rattle.site_model.specs.declared.device.SiteDevice.{SiteDevice}
use Rattle.site_model.specs.declared.fault.SiteFault.TheVariants as fault
use Rattle.site_model.specs.declared.served.Served.{Served}
use Rattle.site_model.specs.declared.site.Site.{Site}
use Rattle.site_model.specs.declared.tag.SiteTag.{SiteTag}
use Rattle.site_model.proofs.ToldKeys.{by_both, chosen, given, ok_is, some_is, spared, text_there, unsaid}
use Rattle.site_model.proofs.ToldModels.{IsSaid, defined_by_its_id, gateway_said, model_length, own_defined}
use Rattle.site_model.proofs.Owns.{at_most}
use Rattle.site_model.proofs.ToldTags.{bit_told, companion_told, devices_told, fit_told, keys_told, lapse_told, measures_told, model_told, name_told, numbers_told, place_told, placed, point_told, round_told}
use Rattle.point_types.proofs.Truths.{both}

-- ---- what a tag was made of

record IsMade (devices : List SiteDevice) (own defs : List ModelDef) (tree : Data) (t : Tag) : Type 0 where
  pub keys : TagKeys
  pub read : tag_keys tree ≡ Some keys
  pub device : Option ℕ
  pub at : device_for devices (access_of keys.access) keys.place.device ≡ Ok device
  pub model : ModelDef
  pub of_model : model_for own defs (access_of keys.access) keys.place.model ≡ Some model
  pub point : Point
  pub of_point : point_for keys.place.point model ≡ Some point
  pub measures : Measures
  pub measured : measures_of (type_of keys.kind) point.kind keys.numbers keys.bit keys.lapse ≡ Some measures
  pub typed : tag_typed keys measures device model point ≡ Some t

made_by : (devices : List SiteDevice) (own defs : List ModelDef) (seen : List Tag) (tree : Data) (t : Tag) → point_tag_of devices own defs seen tree ≡ Ok t → IsMade devices own defs tree t
made_by devices own defs seen tree t e =
    by_both (ok_or (tag_keys tree) fault.MissingKey) (λ keys. device_for devices (access_of keys.access) keys.place.device >>= λ device. tag_placed own defs keys device >>= λ x. (if is_on_heading x || list_any (clashes x) seen then Err fault.Duplicate else Ok x)) t e (λ keys p f.
    by_both (device_for devices (access_of keys.access) keys.place.device) (λ device. tag_placed own defs keys device >>= λ x. (if is_on_heading x || list_any (clashes x) seen then Err fault.Duplicate else Ok x)) t f (λ device q g.
    by_both (tag_placed own defs keys device) (λ x. if is_on_heading x || list_any (clashes x) seen then Err fault.Duplicate else Ok x) t g (λ x r h.
    by_place keys device (given (tag_keys tree) fault.MissingKey keys p) q (r ∙ ap Ok (ok_is x t (spared (is_on_heading x || list_any (clashes x) seen) (Ok x) fault.Duplicate t h))))))
  where
    by_place : (keys : TagKeys) (device : Option ℕ) → tag_keys tree ≡ Some keys → device_for devices (access_of keys.access) keys.place.device ≡ Ok device → tag_placed own defs keys device ≡ Ok t → IsMade devices own defs tree t
    by_place keys device read at f =
        by_both (ok_or (model_for own defs (access_of keys.access) keys.place.model) fault.UnknownModel)
        (λ model. ok_or (point_for keys.place.point model) fault.UnknownPoint >>= λ p. (if may_be_written (access_of keys.access) p.writable then (ok_or (measures_of (type_of keys.kind) p.kind keys.numbers keys.bit keys.lapse) fault.BadRange >>= λ measures. ok_or (tag_typed keys measures device model p) fault.BadType) else Err fault.NotWritable))
        t f (λ model m g.
        by_both (ok_or (point_for keys.place.point model) fault.UnknownPoint)
        (λ p. if may_be_written (access_of keys.access) p.writable then (ok_or (measures_of (type_of keys.kind) p.kind keys.numbers keys.bit keys.lapse) fault.BadRange >>= λ measures. ok_or (tag_typed keys measures device model p) fault.BadType) else Err fault.NotWritable)
        t g (λ point k h.
        by_both (ok_or (measures_of (type_of keys.kind) point.kind keys.numbers keys.bit keys.lapse) fault.BadRange) (λ measures. ok_or (tag_typed keys measures device model point) fault.BadType)
        t (chosen (may_be_written (access_of keys.access) point.writable) (ok_or (measures_of (type_of keys.kind) point.kind keys.numbers keys.bit keys.lapse) fault.BadRange >>= λ measures. ok_or (tag_typed keys measures device model point) fault.BadType) fault.NotWritable t h).1 (λ measures u i.
        record {
          keys = keys;
          read = read;
          device = device;
          at = at;
          model = model;
          of_model = given (model_for own defs (access_of keys.access) keys.place.model) fault.UnknownModel model m;
          point = point;
          of_point = given (point_for keys.place.point model) fault.UnknownPoint point k;
          measures = measures;
          measured = given (measures_of (type_of keys.kind) point.kind keys.numbers keys.bit keys.lapse) fault.BadRange measures u;
          typed = given (tag_typed keys measures device model point) fault.BadType t i;
        })))

-- what the time since the scan before was made of
record IsTimed (tree : Data) (t : Tag) : Type 0 where
  pub said : is_time tree ≡ true
  pub keys : TimeKeys
  pub read : time_keys tree ≡ Some keys
  pub ranged : has_time_range (type_of keys.kind) keys ≡ true
  pub pointless : has_point_words tree ≡ false
  pub typed : time_typed keys ≡ Some t

timed_by : (seen : List Tag) (tree : Data) (t : Tag) → is_time tree ≡ true → time_tag_of seen tree ≡ Ok t → IsTimed tree t
timed_by seen tree t said e =
    by_both (ok_or (time_keys tree) fault.MissingKey) (λ keys. time_placed keys (has_point_words tree) >>= λ x. (if list_any (clashes x) seen then Err fault.Duplicate else Ok x)) t e (λ keys p f.
    by_both (time_placed keys (has_point_words tree)) (λ x. if list_any (clashes x) seen then Err fault.Duplicate else Ok x) t f (λ x q g.
    let same = ok_is x t (spared (list_any (clashes x) seen) (Ok x) fault.Duplicate t g) in
    let placed = q ∙ ap Ok same in
    let c = chosen (has_time_range (type_of keys.kind) keys) (if has_point_words tree then Err fault.BadType else ok_or (time_typed keys) fault.BadType) fault.BadRange t placed in
    record {
      said = said;
      keys = keys;
      read = given (time_keys tree) fault.MissingKey keys p;
      ranged = c.0;
      pointless = unsaid (has_point_words tree) (ok_or (time_typed keys) fault.BadType) fault.BadType t c.1;
      typed = given (time_typed keys) fault.BadType t (spared (has_point_words tree) (ok_or (time_typed keys) fault.BadType) fault.BadType t c.1);
    }))

-- what a tag was made of
IsEntry : (devices : List SiteDevice) (own defs : List ModelDef) → Data → Tag → Type 0
IsEntry devices own defs tree t = IsMade devices own defs tree t ⊎ IsTimed tree t

entry_by : (devices : List SiteDevice) (own defs : List ModelDef) (seen : List Tag) (tree : Data) (t : Tag) → tag_of devices own defs seen tree ≡ Ok t → IsEntry devices own defs tree t
unfolding IsEntry
entry_by devices own defs seen tree t e = by_access (is_time tree) refl e
  where
    by_access : (b : Bool) → is_time tree ≡ b → (if b then time_tag_of seen tree else point_tag_of devices own defs seen tree) ≡ Ok t → IsMade devices own defs tree t ⊎ IsTimed tree t
    by_access true p f = inr (timed_by seen tree t p f)
    by_access false p f = inl (made_by devices own defs seen tree t f)

made_all : (devices : List SiteDevice) (own defs : List ModelDef) (seen : List Tag) (trees : Items) (all : List Tag) → tags_behind devices own defs seen trees ≡ Ok all
    → (rest : List Tag) × (all ≡ seen ++ rest) × AreTold (IsEntry devices own defs) trees rest
made_all devices own defs seen no_items all e = ([], sym (append-nil seen ∙ ok_is seen all e), tt)
made_all devices own defs seen (item tree trees) all e = by_both (tag_of devices own defs seen tree) (λ t. tags_behind devices own defs (seen ++ t ∷ []) trees) all e (λ t p f.
    let k = made_all devices own defs (seen ++ t ∷ []) trees all f in
    (t ∷ k.0, k.1 ∙ append_assoc seen (t ∷ []) k.0, (entry_by devices own defs seen tree t p, k.2)))

-- ---- what its words are

record AreWords (keys : TagKeys) (measures : Measures) (device : Option ℕ) (model : ModelDef) (p : Point) (t : Tag) : Type 0 where
  pub name : List ℕ
  pub named : tag_name keys.name ≡ Some name
  pub access : Access
  pub accessed : access_of keys.access ≡ Some access
  pub kind : IlType
  pub kinded : type_of keys.kind ≡ Some kind
  pub together : goes_together access kind p.kind keys ≡ true
  pub is : tag_over keys measures device model p name access kind ≡ t

words_told : (keys : TagKeys) (measures : Measures) (device : Option ℕ) (model : ModelDef) (p : Point) (t : Tag) → tag_typed keys measures device model p ≡ Some t → AreWords keys measures device model p t
words_told keys measures device model p t e = by_words (tag_name keys.name) refl (access_of keys.access) refl (type_of keys.kind) refl e
  where
    by_words : (n : Option (List ℕ)) → tag_name keys.name ≡ n → (a : Option Access) → access_of keys.access ≡ a → (k : Option IlType) → type_of keys.kind ≡ k
        → option_and_then (λ n. option_and_then (λ a. option_and_then (λ k. if goes_together a k p.kind keys then Some (tag_over keys measures device model p n a k) else None) k) a) n ≡ Some t
        → AreWords keys measures device model p t
    by_words None x a y k z f = absurd (cc)
    by_words (Some n) x None y k z f = absurd (cc)
    by_words (Some n) x (Some a) y None z f = absurd (cc)
    by_words (Some n) x (Some a) y (Some k) z f =
        let c = cond_some (goes_together a k p.kind keys) (tag_over keys measures device model p n a k) t f in
        record { name = n; named = x; access = a; accessed = y; kind = k; kinded = z; together = c.0; is = c.1 }

-- ---- the time since the scan before

time_keys_told : (name kind : Option (List ℕ)) (low high : Option ℤ) (keys : TimeKeys)
    → option_and_then (λ n. option_and_then (λ k. option_and_then (λ l. option_map (λ h. record { name = n; kind = k; low = l; high = h }) high) low) kind) name ≡ Some keys
    → (name ≡ Some keys.name) × (kind ≡ Some keys.kind) × (low ≡ Some keys.low) × (high ≡ Some keys.high)
time_keys_told None kind low high keys e = absurd (cc)
time_keys_told (Some n) None low high keys e = absurd (cc)
time_keys_told (Some n) (Some k) None high keys e = absurd (cc)
time_keys_told (Some n) (Some k) (Some l) None keys e = absurd (cc)
time_keys_told (Some n) (Some k) (Some l) (Some h) keys e =
    let own : TimeKeys = record { name = n; kind = k; low = l; high = h } in
    let same : own ≡ keys = some_is own keys e in
    (ap (λ (k : TimeKeys). Some k.name) same, ap (λ (k : TimeKeys). Some k.kind) same, ap (λ (k : TimeKeys). Some k.low) same, ap (λ (k : TimeKeys). Some k.high) same)

record AreTimeWords (keys : TimeKeys) (t : Tag) : Type 0 where
  pub name : List ℕ
  pub named : tag_name keys.name ≡ Some name
  pub kind : IlType
  pub kinded : type_of keys.kind ≡ Some kind
  pub whole : is_bool kind ≡ false
  pub is : time_over keys name kind ≡ t

time_words_told : (keys : TimeKeys) (t : Tag) → time_typed keys ≡ Some t → AreTimeWords keys t
time_words_told keys t e = by_words (tag_name keys.name) refl (type_of keys.kind) refl e
  where
    by_kind : (n : List ℕ) → tag_name keys.name ≡ Some n → (k : IlType) → type_of keys.kind ≡ Some k → (b : Bool) → is_bool k ≡ b → (if b then None else Some (time_over keys n k)) ≡ Some t → AreTimeWords keys t
    by_kind n x k z true p f = absurd (cc)
    by_kind n x k z false p f = record { name = n; named = x; kind = k; kinded = z; whole = p; is = some_is (time_over keys n k) t f }

    by_words : (n : Option (List ℕ)) → tag_name keys.name ≡ n → (k : Option IlType) → type_of keys.kind ≡ k
        → option_and_then (λ n. option_and_then (λ k. if is_bool k then None else Some (time_over keys n k)) k) n ≡ Some t → AreTimeWords keys t
    by_words None x k z f = absurd (cc)
    by_words (Some n) x None z f = absurd (cc)
    by_words (Some n) x (Some k) z f = by_kind n x k z (is_bool k) refl f

word_said : (o : Option (List ℕ)) → option_map_or (λ word. bytes_eq word (codes "time")) o false ≡ true → o ≡ Some (codes "time")
word_said None e = absurd (true≢false (sym e))
word_said (Some word) e = ap Some ((bytes_eq-Decides word (codes "time")).0 e)

time_said : (tree : Data) (t : SiteTag) → IsTimed tree (tag_view t) → IsTimeTag tree t
time_said tree t timed =
    let keys = timed.keys in
    let words = time_words_told keys (tag_view t) timed.typed in
    let k = time_keys_told (text_at (codes "name") tree) (text_at (codes "type") tree) (number_at (codes "low") tree) (number_at (codes "high") tree) keys timed.read in
    let low : keys.low ≡ t.low = ap (λ (x : Tag). x.low) words.is in
    record {
      said = word_said (text_at (codes "access") tree) timed.said;
      timed = sym (ap (λ (x : Tag). x.access) words.is);
      name = k.0 ∙ ap Some (name_told keys.name words.name words.named ∙ ap (λ (x : Tag). x.name) words.is);
      kind = ap (option_and_then type_of) k.1 ∙ words.kinded ∙ ap (λ (x : Tag). Some x.kind) words.is;
      whole = sym (ap (λ (x : Tag). is_bool x.kind) words.is) ∙ words.whole;
      low = k.2 ∙ ap Some low;
      positive = subst (λ z. pos 0 ≤ℤ z) low (at_most (pos 0) keys.low (both (int_le (pos 0) keys.low) (has_range (type_of keys.kind) keys.low keys.high keys.low) timed.ranged).0);
      high = k.3 ∙ ap Some (ap (λ (x : Tag). x.high) words.is);
      pointless = timed.pointless;
    }

-- ---- a tag

module _ (defs : List ModelDef) (site : Site) (ids : Items) (own : List ModelDef) (models : AreTold (λ id m. IsDefined defs (as_integer id) m) ids own) (lengths : site.lengths ≡ lengths_of own defs (map tag_view site.tags)) where
  point_said : (tree : Data) (i : ℕ) (t : SiteTag) → slice_get site.tags i ≡ Some t → (made : IsMade site.devices own defs tree (tag_view t))
      → (words : AreWords made.keys made.measures made.device made.model made.point (tag_view t))
      → number_at (codes "model") tree ≡ Some (made.keys).place.model → text_at (codes "point") tree ≡ Some (made.keys).place.point → IsPoint defs site.lengths tree t
  point_said tree i t at made words model_key point_key =
      let found = ap (λ o. model_for own defs o (made.keys).place.model) (sym words.accessed) ∙ made.of_model in
      let defined = model_told own defs words.access (made.keys).place.model made.model (own_defined defs ids own (made.keys).place.model made.model models) found in
      let id : t.model ≡ (made.model).id = sym (ap (λ (x : Tag). x.model) words.is) in
      let p = point_told (made.keys).place.point made.model made.point made.of_point in
      record {
        model = made.model;
        defined = ap (option_and_then (definition_of defs)) model_key ∙ defined;
        id = id;
        measured = ap (λ ls. length_of ls t.model) lengths ∙ model_length defs ids own site.tags i t made.model models (defined_by_its_id defs (made.keys).place.model made.model defined) at id;
        number = p.0;
        point = made.point;
        there = p.1;
        named = point_key ∙ ap Some p.2;
        kind = sym (ap (λ (x : Tag). x.point) words.is);
        offset = sym (ap (λ (x : Tag). x.offset) words.is);
        scaled = sym (ap (λ (x : Tag). x.sf) words.is);
        writable = sym (ap (λ (x : Tag). x.writable) words.is);
      }

  tag_said : (tree : Data) (i : ℕ) (t : SiteTag) → slice_get site.tags i ≡ Some t → IsMade site.devices own defs tree (tag_view t) → IsPointTag defs site tree t
  tag_said tree i t at made =
      let keys = made.keys in
      let words = words_told keys made.measures made.device made.model made.point (tag_view t) made.typed in
      let k = keys_told (text_at (codes "name") tree) (text_at (codes "access") tree) (text_at (codes "type") tree) (place_of tree) (numbers_of tree) (optional_number_at (codes "bit") tree) (optional_text_at (codes "round") tree) (optional_number_at (codes "lapse") tree) (optional_text_at (codes "fit") tree) (optional_text_at (codes "with") tree) keys made.read in
      let n = numbers_told (number_at (codes "exponent") tree) (number_at (codes "low") tree) (number_at (codes "high") tree) (optional_number_at (codes "default") tree) keys.numbers k.numbers_is in
      let p = place_told (optional_text_at (codes "device") tree) (number_at (codes "model") tree) (text_at (codes "point") tree) keys.place k.place_is in
      let u = measures_told (type_of keys.kind) (made.point).kind keys.numbers keys.bit keys.lapse made.measures made.measured in
      let written = is_fitting words.access keys.fit && is_companion words.access keys.companion in
      let ends = is_lapsing words.access (keys.numbers).default keys.lapse && written in
      let last = is_rounding words.access keys.bit keys.round && ends in
      let rules = both (is_bit_place words.access words.kind (made.point).kind keys.bit) last (both (is_place words.access keys.place.device (made.point).kind) (is_bit_place words.access words.kind (made.point).kind keys.bit && last) words.together).1 in
      let rounds = both (is_rounding words.access keys.bit keys.round) ends rules.1 in
      let down = round_told words.access keys.bit keys.round (get (codes "round") tree) k.round_is rounds.0 in
      let fitting = both (is_fitting words.access keys.fit) (is_companion words.access keys.companion) (both (is_lapsing words.access (keys.numbers).default keys.lapse) written rounds.1).1 in
      let fit = fit_told words.access keys.fit (get (codes "fit") tree) k.fit_is fitting.0 in
      let companion = companion_told words.access keys.companion (get (codes "with") tree) k.companion_is fitting.1 in
      let device = placed site.devices words.access (text_at (codes "device") tree) keys.place.device made.device
      (λ s e. text_there (get (codes "device") tree) s (p.0 ∙ ap Some e)) (ap (λ o. device_for site.devices o keys.place.device) (sym words.accessed) ∙ made.at) in
      record {
        name = k.name_is ∙ ap Some (name_told keys.name words.name words.named ∙ ap (λ (x : Tag). x.name) words.is);
        access = ap (option_and_then access_of) k.access_is ∙ words.accessed ∙ ap (λ (x : Tag). Some x.access) words.is;
        kind = ap (option_and_then type_of) k.kind_is ∙ words.kinded ∙ ap (λ (x : Tag). Some x.kind) words.is;
        low = n.1 ∙ ap (λ (x : Tag). Some x.low) words.is;
        high = n.2 ∙ ap (λ (x : Tag). Some x.high) words.is;
        default = n.3 ∙ ap (λ (x : Tag). Some x.default) words.is;
        exponent = n.0 ∙ ap Some u.0 ∙ ap (λ (x : Tag). Some x.exponent) words.is;
        bit = k.bit_is ∙ ap Some (bit_told words.access words.kind (made.point).kind keys.bit (made.measures).bit u.1 rules.0) ∙ ap (λ (x : Tag). Some (option_map pos x.bit)) words.is;
        round = down ∙ ap (λ (x : Tag). if x.down then Some (codes "down") else None) words.is;
        lapse = k.lapse_is ∙ ap Some (lapse_told keys.lapse (made.measures).lapse u.2) ∙ ap (λ (x : Tag). Some (option_map pos x.lapse)) words.is;
        fit = fit ∙ ap (λ (x : Tag). word_of_fit x.fit) words.is;
        companion = companion ∙ ap (λ (x : Tag). x.companion) words.is;
        device = subst (λ (x : Tag). IsPlaced site.devices (text_at (codes "device") tree) x.access x.device) words.is device;
        point = point_said tree i t at made words p.1 p.2;
      }

  entry_said : (tree : Data) (i : ℕ) (t : SiteTag) → slice_get site.tags i ≡ Some t → IsEntry site.devices own defs tree (tag_view t) → IsTag defs site tree t
  unfolding IsEntry
  entry_said tree i t at (inl made) = inl (tag_said tree i t at made)
  entry_said tree i t at (inr timed) = inr (time_said tree t timed)

  tags_said : (trees : Items) (ts : List SiteTag) → ((i : ℕ) (t : SiteTag) → slice_get ts i ≡ Some t → (k : ℕ) × (slice_get site.tags k ≡ Some t)) → AreTold (IsEntry site.devices own defs) trees (map tag_view ts) → AreTold (IsTag defs site) trees ts
  tags_said no_items [] there made = tt
  tags_said no_items (t ∷ ts) there made = absurd made
  tags_said (item tree trees) [] there made = absurd made
  tags_said (item tree trees) (t ∷ ts) there made = let k = there 0 t refl in (entry_said tree k.0 t k.1 made.0, tags_said trees ts (λ i u. there (suc i) u) made.1)

-- ---- the site

-- what the sections of a file gave
record IsLaid (defs : List ModelDef) (doc : Data) (l : Layout) : Type 0 where
  pub gateway : Gateway
  pub said : IsSaid defs doc gateway
  pub device_entries : Items
  pub device_section : section_at (codes "device") doc ≡ Some device_entries
  pub devices : List SiteDevice
  pub devices_are : AreTold IsDevice device_entries devices
  pub tag_entries : Items
  pub tag_section : section_at (codes "tag") doc ≡ Some tag_entries
  pub tags : List Tag
  pub tags_are : AreTold (IsEntry devices gateway.models defs) tag_entries tags
  pub served : List Served
  pub companions : List (Option ℕ)
  pub pairs : first_unpaired tags ≡ None
  pub is : layout_over defs gateway devices tags companions served ≡ l

-- where all go with tags that they may, none is the first that doesn't
none_unpaired : (tags : List Tag) (companions : List (Option ℕ)) → paired tags ≡ Ok companions → first_unpaired tags ≡ None
none_unpaired tags companions e = by_first (first_unpaired tags) refl (let f : unless_unpaired (first_unpaired tags) (companions_of tags) ≡ Ok companions = e in f)
  where
    by_first : (o : Option ℕ) → first_unpaired tags ≡ o → unless_unpaired o (companions_of tags) ≡ Ok companions → first_unpaired tags ≡ None
    by_first None p f = p
    by_first (Some i) p f = absurd (cc)

laid_by : (defs : List ModelDef) (doc : Data) (l : Layout) → layout_of defs doc ≡ Ok l → IsLaid defs doc l
laid_by defs doc l e =
    by_both (gateway_of defs doc) (λ g. section_in (codes "device") doc >>= devices_behind [] >>= λ devices. section_in (codes "tag") doc >>= tags_behind devices g.models defs [] >>= λ tags. section_in (codes "served") doc >>= served_behind g.models tags [] >>= λ served. paired tags >>= λ companions. Ok (layout_over defs g devices tags companions served)) l e (λ g p f.
    by_both (section_in (codes "device") doc >>= devices_behind []) (λ devices. section_in (codes "tag") doc >>= tags_behind devices g.models defs [] >>= λ tags. section_in (codes "served") doc >>= served_behind g.models tags [] >>= λ served. paired tags >>= λ companions. Ok (layout_over defs g devices tags companions served)) l f (λ devices q h.
    by_both (section_in (codes "tag") doc >>= tags_behind devices g.models defs []) (λ tags. section_in (codes "served") doc >>= served_behind g.models tags [] >>= λ served. paired tags >>= λ companions. Ok (layout_over defs g devices tags companions served)) l h (λ tags r i.
    by_both (section_in (codes "served") doc >>= served_behind g.models tags []) (λ served. paired tags >>= λ companions. Ok (layout_over defs g devices tags companions served)) l i (λ served s j.
    by_both (paired tags) (λ companions. Ok (layout_over defs g devices tags companions served)) l j (λ companions u v.
    by_both (section_in (codes "device") doc) (devices_behind []) devices q (λ ds a b.
    by_both (section_in (codes "tag") doc) (tags_behind devices g.models defs []) tags r (λ ts c d.
    let k = devices_told [] ds devices b in
    let m = made_all devices g.models defs [] ts tags d in
    record {
      gateway = g;
      said = gateway_said defs doc g p;
      device_entries = ds;
      device_section = given (section_at (codes "device") doc) fault.MissingKey ds a;
      devices = devices;
      devices_are = subst (λ (xs : List SiteDevice). AreTold IsDevice ds xs) (sym k.1) k.2;
      tag_entries = ts;
      tag_section = given (section_at (codes "tag") doc) fault.MissingKey ts c;
      tags = tags;
      tags_are = subst (λ (xs : List Tag). AreTold (IsEntry devices g.models defs) ts xs) (sym m.1) m.2;
      served = served;
      companions = companions;
      pairs = none_unpaired tags companions u;
      is = ok_is (layout_over defs g devices tags companions served) l v;
    })))))))

in_section : {T : Type 0} (Is : Data → T → Type 0) (o : Option Items) (entries : Items) (xs : List T) → o ≡ Some entries → AreTold Is entries xs → AreIn Is o xs
in_section Is o entries xs e told = subst (λ (o : Option Items). AreIn Is o xs) (sym e) told

told_by : (defs : List ModelDef) (text : List ℕ) (members : Members) (site : Site) → parse_document text ≡ Some members → IsLaid defs (table members) (site_view site) → IsTold defs text site
told_by defs text members site parsed laid =
    let said = laid.said in
    let g = laid.gateway in
    let models : g.models ≡ site.models = ap (λ (l : Layout). l.models) laid.is in
    let devices : laid.devices ≡ site.devices = ap (λ (l : Layout). l.devices) laid.is in
    let tags : laid.tags ≡ map tag_view site.tags = ap (λ (l : Layout). l.tags) laid.is in
    let lengths : site.lengths ≡ lengths_of g.models defs (map tag_view site.tags) = sym (ap (λ (l : Layout). l.lengths) laid.is) ∙ ap (lengths_of g.models defs) tags in
    let made : AreTold (IsEntry site.devices g.models defs) laid.tag_entries laid.tags = subst (λ (ds : List SiteDevice). AreTold (IsEntry ds g.models defs) laid.tag_entries laid.tags) devices laid.tags_are in
    let own : AreTold (IsEntry site.devices g.models defs) laid.tag_entries (map tag_view site.tags) = subst (λ (ts : List Tag). AreTold (IsEntry site.devices g.models defs) laid.tag_entries ts) tags made in
    record {
      file = table members;
      toml = ap (option_map table) parsed;
      gateway = (
        said.entry,
        said.there,
        record {
          unit = said.unit ∙ ap (λ (l : Layout). Some (pos l.unit)) laid.is;
          base = said.base ∙ ap (λ (l : Layout). Some (pos l.base)) laid.is;
          models = in_section (λ id. IsDefined defs (as_integer id)) _ said.ids site.models said.listed (subst (λ (ms : List ModelDef). AreTold (λ id m. IsDefined defs (as_integer id) m) said.ids ms) models said.models);
        },
      );
      devices = in_section IsDevice (section_at (codes "device") (table members)) laid.device_entries site.devices laid.device_section (subst (λ (ds : List SiteDevice). AreTold IsDevice laid.device_entries ds) devices laid.devices_are);
      tags = in_section (IsTag defs site) (section_at (codes "tag") (table members)) laid.tag_entries site.tags laid.tag_section (tags_said defs site said.ids g.models said.models lengths laid.tag_entries site.tags (λ i t e. (i, e)) own);
      pairs = sym (ap first_unpaired tags) ∙ laid.pairs;
    }

pub sites_are_told : SitesAreTold
sites_are_told defs text site e = by_text (parse_document text) refl e
  where
    by_text : (o : Option Members) → parse_document text ≡ o → (ok_or (option_map table o) fault.NotToml >>= site_of defs) ≡ Ok (site_view site) → IsTold defs text site
    by_text None p f = absurd (cc)
    by_text (Some members) p f = told_by defs text members site p (laid_by defs (table members) (site_view site) (spared (has_too_many (table members)) (layout_of defs (table members)) fault.TooMany (site_view site) f))
