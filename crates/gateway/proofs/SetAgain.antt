-- The request by which a client sets a tag alone.
use Rattle.std.proofs.Common.{◌≡◌, ◌⊎◌, inl, inr, ℕ, zero, suc, ◌+◌, ◌-◌, ◌<◌, ◌≤◌, Bool, true, false, List, [], ◌∷◌, ◌++◌, length, take, drop, get_or, Option, Some, None, Result, Ok, Err, refl, sym, ap, subst, ◌∙◌, arith}
use Rattle.std.specs.Prelude.{ℤ, ◌≤ℤ◌, slice_get, slice_set, is_some, nat_le, ◌&&◌, if◌then◌else◌, option_and_then, IfSome, MatchOption}
use Rattle.std.specs.List.{flat_map}
use Rattle.std.specs.Option.{option_map_or}
use Rattle.std.proofs.lemmas.Bool.{le-leb, leb-true}
use Rattle.std.proofs.lemmas.Bool.Decides.{leb_tells}
use Rattle.std.proofs.lemmas.List.{drop_more, take_all, drop_all}
use Rattle.point_types.specs.declared.kind.Kind.{Kind}
use Rattle.point_types.specs.declared.kind.Kind.TheVariants as kinds
use Rattle.point_types.specs.declared.reading.Reading.TheVariants as reading
use Rattle.point_types.specs.Point.{StandsFor}
use Rattle.point_types.specs.Reading.{IsScaled, ReadsBy}
use Rattle.point_types.specs.Encoding.{EncodesBy}
use Rattle.model_defs.specs.declared.model.ModelDef.{ModelDef}
use Rattle.model_defs.specs.declared.point.Point.{Point}
use Rattle.modbus_frame.specs.declared.message.Request.{Request}
use Rattle.modbus_frame.specs.declared.message.Request.TheVariants.{WriteMany}
use Rattle.modbus_frame.specs.declared.message.Response.{Response}
use Rattle.modbus_frame.specs.declared.message.Response.TheVariants as response
use Rattle.modbus_frame.specs.declared.message.Exception.{Exception}
use Rattle.site_model.specs.declared.served.Served.{Served}
use Rattle.site_model.specs.declared.site.Site.{Site}
use Rattle.site_model.specs.declared.tag.SiteTag.{SiteTag}
use Rattle.gateway.specs.declared.served.point.OwnPoint.{OwnPoint}
use Rattle.gateway.specs.declared.served.point.OwnPoint.TheVariants as own
use Rattle.gateway.specs.served.Points.{own_points, own_point, points_from, model_points, mark, end_model, registers_of, value_point}
use Rattle.gateway.specs.event_core.SiteRun.{ReadsBack, Sets, SetsOne, Writes, ages_after, are_settings, points_behind, renewed, renewed_one, setting_of, written_points}
use Rattle.gateway.specs.event_core.Restoring.{AreRead, AreWordsFor, NothingSets, SetsAlone, SetsAt}
use Rattle.gateway.proofs.Settled.{reads_in_range, sets_on, sets_back}
use Rattle.gateway.proofs.Sized.{size_within}

-- ---- each point has a register

abbrev AreLong : List OwnPoint → Type 0
AreLong points = (i : ℕ) (p : OwnPoint) → slice_get points i ≡ Some p → 1 ≤ registers_of p

none_long : AreLong []
none_long i p e = cc

more_long : (p : OwnPoint) (ps : List OwnPoint) → 1 ≤ registers_of p → AreLong ps → AreLong (p ∷ ps)
more_long p ps one rest zero q e = let s : p ≡ q = cc in subst (λ x. 1 ≤ registers_of x) s one
more_long p ps one rest (suc i) q e = rest i q e

both_long : (ps qs : List OwnPoint) → AreLong ps → AreLong qs → AreLong (ps ++ qs)
both_long [] qs a b = b
both_long (p ∷ ps) qs a b = more_long p (ps ++ qs) (a 0 p refl) (both_long ps qs (λ i q e. a (suc i) q e) b)

module _ (served : List Served) (tags : List SiteTag) (m : ModelDef) where
  value_long : (i : ℕ) (p : Point) (k : Kind) → 1 ≤ registers_of (value_point served tags m i p k)
  value_long i p kinds.Int16 = (size_within kinds.Int16).0
  value_long i p kinds.Uint16 = (size_within kinds.Uint16).0
  value_long i p kinds.Acc16 = (size_within kinds.Acc16).0
  value_long i p kinds.Enum16 = (size_within kinds.Enum16).0
  value_long i p kinds.Bitfield16 = (size_within kinds.Bitfield16).0
  value_long i p kinds.Sunssf = (size_within kinds.Sunssf).0
  value_long i p kinds.Pad = (size_within kinds.Pad).0
  value_long i p kinds.Int32 = (size_within kinds.Int32).0
  value_long i p kinds.Uint32 = (size_within kinds.Uint32).0
  value_long i p kinds.Enum32 = (size_within kinds.Enum32).0
  value_long i p kinds.Bitfield32 = (size_within kinds.Bitfield32).0
  value_long i p kinds.Acc32 = (size_within kinds.Acc32).0
  value_long i p kinds.Int64 = (size_within kinds.Int64).0
  value_long i p kinds.Uint64 = (size_within kinds.Uint64).0
  value_long i p kinds.Acc64 = (size_within kinds.Acc64).0
  value_long i p kinds.String = p.not_empty

  point_long : (i : ℕ) (p : Point) → 1 ≤ registers_of (own_point served tags m i p)
  point_long zero p = omega arith
  point_long (suc zero) p = omega arith
  point_long (suc (suc i)) p = value_long (suc (suc i)) p p.kind

  points_long : (i : ℕ) (ps : List Point) → AreLong (points_from served tags m i ps)
  points_long i [] = none_long
  points_long i (p ∷ ps) = more_long (own_point served tags m i p) (points_from served tags m (i + 1) ps) (point_long i p) (points_long (i + 1) ps)

models_long : (served : List Served) (tags : List SiteTag) (ms : List ModelDef) → AreLong (flat_map (model_points served tags) ms)
models_long served tags [] = none_long
models_long served tags (m ∷ ms) = both_long (model_points served tags m) (flat_map (model_points served tags) ms) (points_long served tags m 0 m.points) (models_long served tags ms)

words_long : (v w : ℕ) → AreLong (own.Word v ∷ own.Word w ∷ [])
words_long v w = more_long (own.Word v) (own.Word w ∷ []) (omega arith) (more_long (own.Word w) [] (omega arith) none_long)

all_long : (site : Site) → AreLong (own_points site)
all_long site =
    both_long mark (flat_map (model_points site.served site.tags) site.models ++ end_model) (words_long 0x5375 0x6E53)
    (both_long (flat_map (model_points site.served site.tags) site.models) end_model (models_long site.served site.tags site.models) (words_long 0xFFFF 0))

-- ---- the words of a point

module _ (kind : Kind) (t : SiteTag) (n : ℤ) where
  abbrev Raw : Option ℤ → List ℕ → Type 0
  Raw f words = (raw : ℤ) × StandsFor kind words raw × ReadsBy IsScaled raw f t.exponent t.low t.high (reading.Value n)

  raw_of : (f : Option ℤ) (words : List ℕ) → t.low ≤ℤ n → n ≤ℤ t.high → EncodesBy kind n t.exponent f (Ok words) → Raw f words
  raw_of None words low high h = cc
  raw_of (Some s) words low high h = (h.0, h.1, (h.2, low, high))

  of_raw : (f : Option ℤ) (words : List ℕ) → Raw f words → EncodesBy kind n t.exponent f (Ok words)
  of_raw None words h = let e = h.2 in cc
  of_raw (Some s) words h = let r : IsScaled h.0 s t.exponent n × (t.low ≤ℤ n) × (n ≤ℤ t.high) = h.2 in (h.0, h.1, r.0)

  pub read_by : (f : Option ℤ) (o : Option (List ℕ)) → t.low ≤ℤ n → n ≤ℤ t.high → MatchOption o ((ws : List ℕ) → EncodesBy kind n t.exponent f (Ok ws) → ⊥) (λ ws. EncodesBy kind n t.exponent f (Ok ws)) →
      MatchOption o ((ws : List ℕ) → Raw f ws → ⊥) (Raw f)
  read_by f None low high h = λ ws r. h ws (of_raw f ws r)
  read_by f (Some ws) low high h = raw_of f ws low high h

sized : (p : OwnPoint) (t : SiteTag) (n : ℤ) (words : List ℕ) → AreRead p t n words → length words ≡ registers_of p
sized (own.Word w) t n words h = absurd h
sized (own.Text size entry) t n words h = absurd h
sized (own.Number kind factor from) t n words h = h.1.sized

reads_back : (p : OwnPoint) (t : SiteTag) (n : ℤ) (words : List ℕ) → AreRead p t n words → ReadsBack p t words n
reads_back (own.Word w) t n words h = absurd h
reads_back (own.Text size entry) t n words h = absurd h
reads_back (own.Number kind factor from) t n words h = (h.0, h.1.value, h.2)

pub read_in_range : (p : OwnPoint) (t : SiteTag) (n : ℤ) (words : List ℕ) → AreRead p t n words → (t.low ≤ℤ n) × (n ≤ℤ t.high)
read_in_range p t n words h = reads_in_range p t words n (reads_back p t n words h)

same_some : {X : Type 0} {o : Option X} {a b : X} → o ≡ Some a → o ≡ Some b → a ≡ b
same_some p q = cc

pub set_by : (tags : List SiteTag) (tag : ℕ) (number : ℤ) (point : OwnPoint) (to : SiteTag) (o : Option (List ℕ)) → setting_of tags point ≡ Some tag → slice_get tags tag ≡ Some to →
    MatchOption o ((ws : List ℕ) → AreRead point to number ws → ⊥) (AreRead point to number) → MatchOption o ((ws : List ℕ) → AreWordsFor tags tag number point ws → ⊥) (AreWordsFor tags tag number point)
set_by tags tag number point to None own found none = λ ws h. none ws (subst (λ t. AreRead point t number ws) (same_some h.found found) h.read)
set_by tags tag number point to (Some ws) own found read = record { own = own; to = to; found = found; read = read }

-- ---- the points after so many registers

module _ (p : OwnPoint) (ps : List OwnPoint) (one : 1 ≤ registers_of p) where
  at_more : (n m : ℕ) → m ≡ registers_of p + n → points_behind (p ∷ ps) m ≡ points_behind ps n
  at_more n zero e = absurd (omega (arith, one, e))
  at_more n (suc k) e =
      let h : registers_of p ≤ suc k = omega (arith, e) in
      let r : suc k - registers_of p ≡ n = omega (arith, e) in
      ap (λ b. if b then points_behind ps (suc k - registers_of p) else None) (le-leb (registers_of p) (suc k) h) ∙ ap (λ j. points_behind ps j) r

  at_part : (k : ℕ) → suc k < registers_of p → points_behind (p ∷ ps) (suc k) ≡ None
  at_part k h = go (leb_tells (registers_of p) (suc k))
    where
      go : ((nat_le (registers_of p) (suc k) ≡ true) × (registers_of p ≤ suc k)) ⊎ ((nat_le (registers_of p) (suc k) ≡ false) × (suc k < registers_of p)) → points_behind (p ∷ ps) (suc k) ≡ None
      go (inl e) = let le = e.1 in absurd (omega (arith, h, le))
      go (inr e) = ap (λ b. if b then points_behind ps (suc k - registers_of p) else None) e.0

  settings_one : (tags : List SiteTag) (tag m : ℕ) → setting_of tags p ≡ Some tag → m ≡ registers_of p → are_settings tags (p ∷ ps) m ≡ true
  settings_one tags tag zero own e = absurd (omega (arith, one, e))
  settings_one tags tag (suc k) own e =
      let h : registers_of p ≤ suc k = omega (arith, e) in
      let r : suc k - registers_of p ≡ 0 = omega (arith, e) in
      ap (λ o. is_some o && (nat_le (registers_of p) (suc k) && are_settings tags ps (suc k - registers_of p))) own
      ∙ ap (λ b. b && are_settings tags ps (suc k - registers_of p)) (le-leb (registers_of p) (suc k) h) ∙ ap (λ j. are_settings tags ps j) r

  -- the tag of one point is set
  renewed_alone : (tags : List SiteTag) (tag m : ℕ) (ages : List (Option ℕ)) → setting_of tags p ≡ Some tag → m ≡ registers_of p → renewed tags (p ∷ ps) m ages ≡ slice_set ages tag (Some 0)
  renewed_alone tags tag zero ages own e = absurd (omega (arith, one, e))
  renewed_alone tags tag (suc k) ages own e =
      let r : suc k - registers_of p ≡ 0 = omega (arith, e) in
      ap (λ o. renewed tags ps (suc k - registers_of p) (renewed_one o ages)) own ∙ ap (λ j. renewed tags ps j (slice_set ages tag (Some 0))) r

none_behind : (d : ℕ) (p : OwnPoint) (ps : List OwnPoint) → points_behind [] d ≡ Some (p ∷ ps) → ⊥
none_behind zero p ps e = cc
none_behind (suc d) p ps e = cc

-- ---- an address

-- a sum that doesn't fit 64 bits is past the last address
pub not_below : (n : ℕ) → (n < 18446744073709551616 → ⊥) → 65536 < n
not_below n full = go (leb_tells 18446744073709551616 n)
  where
    go : ((nat_le 18446744073709551616 n ≡ true) × (18446744073709551616 ≤ n)) ⊎ ((nat_le 18446744073709551616 n ≡ false) × (n < 18446744073709551616)) → 65536 < n
    go (inl h) = let le = h.1 in omega (arith, le)
    go (inr h) = absurd (full h.1)

module _ (site : Site) (addr n : ℕ) (points : List OwnPoint) where
  abbrev chosen : Bool → Option (List OwnPoint) → Option (List OwnPoint)
  chosen b o = if b then option_and_then (λ ps. if are_settings site.tags ps n then Some ps else None) o else None

  covered : written_points site addr n ≡ Some points → (site.base ≤ addr) × (points_behind (own_points site) (addr - site.base) ≡ Some points)
  covered e = go (nat_le site.base addr) refl (points_behind (own_points site) (addr - site.base)) e
    where
      inner : (ps : List OwnPoint) (b : Bool) → (if b then Some ps else None) ≡ Some points → Some ps ≡ Some points
      inner ps true h = h
      inner ps false h = cc

      go : (b : Bool) → nat_le site.base addr ≡ b → (o : Option (List OwnPoint)) → chosen b o ≡ Some points → (site.base ≤ addr) × (o ≡ Some points)
      go true t (Some ps) h = (leb-true site.base addr t, inner ps (are_settings site.tags ps n) h)
      go true t None h = cc
      go false t o h = cc

  covers : site.base ≤ addr → points_behind (own_points site) (addr - site.base) ≡ Some points → are_settings site.tags points n ≡ true → written_points site addr n ≡ Some points
  covers from here whole = ap (λ b. chosen b (points_behind (own_points site) (addr - site.base))) (le-leb site.base addr from) ∙ ap (λ o. chosen true o) here ∙ ap (λ b. if b then Some points else None) whole

-- ---- the search for an address

module _ (site : Site) (tag : ℕ) (number : ℤ) where
  -- the points from an address on are still to be looked at, and none before them is the tag with words for the number
  pub record Before (addr : ℕ) (rest : List OwnPoint) : Type 0 where
    pub from : site.base ≤ addr
    pub here : (n : ℕ) → points_behind (own_points site) ((addr - site.base) + n) ≡ points_behind rest n
    pub long : AreLong rest
    pub none : (a : ℕ) (words : List ℕ) → a < addr → a + length words ≤ 65536 → SetsAt site tag number a words → ⊥

  -- where the points of a request stand
  standing : (addr a : ℕ) (rest : List OwnPoint) (words : List ℕ) → Before addr rest → addr ≤ a → (sets : SetsAt site tag number a words) → points_behind rest (a - addr) ≡ Some (sets.point ∷ sets.behind)
  standing addr a rest words so_far le sets =
      let low = so_far.from in
      let e : a - site.base ≡ (addr - site.base) + (a - addr) = omega (arith, low, le) in
      sym (so_far.here (a - addr)) ∙ ap (λ n. points_behind (own_points site) n) (sym e) ∙ (covered site a (length words) (sets.point ∷ sets.behind) sets.covers).1

  -- a request that begins within the first of the points begins at it
  within : (addr a : ℕ) (p : OwnPoint) (ps : List OwnPoint) (words : List ℕ) → Before addr (p ∷ ps) → addr ≤ a → a < addr + registers_of p → SetsAt site tag number a words → (a ≡ addr) × AreWordsFor site.tags tag number p words
  within addr a p ps words so_far le lt sets = go (a - addr) refl (standing addr a (p ∷ ps) words so_far le sets)
    where
      go : (d : ℕ) → a - addr ≡ d → points_behind (p ∷ ps) d ≡ Some (sets.point ∷ sets.behind) → (a ≡ addr) × AreWordsFor site.tags tag number p words
      go zero e h = let s : sets.point ≡ p = cc in (omega (arith, e, le), subst (λ q. AreWordsFor site.tags tag number q words) s sets.are)
      go (suc k) e h =
          let part : suc k < registers_of p = omega (arith, e, le, lt) in
          let none = at_part p ps (so_far.long 0 p refl) k part in
          cc

  pub begins : Before site.base (own_points site)
  begins = record {
    from = omega arith;
    here = λ n. let e : (site.base - site.base) + n ≡ n = omega arith in ap (λ k. points_behind (own_points site) k) e;
    long = all_long site;
    none = λ a words lt fits sets. let le = (covered site a (length words) (sets.point ∷ sets.behind) sets.covers).0 in absurd (omega (arith, lt, le));
  }

  pub goes_on : (addr next : ℕ) (p : OwnPoint) (ps : List OwnPoint) → Before addr (p ∷ ps) → next ≡ addr + registers_of p → ((words : List ℕ) → AreWordsFor site.tags tag number p words → ⊥) → Before next ps
  goes_on addr next p ps so_far e none =
      let low = so_far.from in
      record {
        from = omega (arith, low, e);
        here = λ n.
            let m : (next - site.base) + n ≡ (addr - site.base) + (registers_of p + n) = omega (arith, low, e) in
            ap (λ k. points_behind (own_points site) k) m ∙ so_far.here (registers_of p + n) ∙ at_more p ps (so_far.long 0 p refl) n (registers_of p + n) refl;
        long = λ i q h. so_far.long (suc i) q h;
        none = λ a words lt fits sets. found a words lt fits sets (leb_tells addr a);
      }
    where
      found : (a : ℕ) (words : List ℕ) → a < next → a + length words ≤ 65536 → SetsAt site tag number a words → ((nat_le addr a ≡ true) × (addr ≤ a)) ⊎ ((nat_le addr a ≡ false) × (a < addr)) → ⊥
      found a words lt fits sets (inl h) = let le = h.1 in none words (within addr a p ps words so_far le (omega (arith, lt, e)) sets).1
      found a words lt fits sets (inr h) = so_far.none a words h.1 fits sets

  -- what is left begins past the last address
  pub past : (addr : ℕ) (rest : List OwnPoint) → Before addr rest → 65536 < addr → NothingSets site tag number
  past addr rest so_far far a words fits sets = so_far.none a words (omega (arith, far, fits)) fits sets

  pub ends : (addr : ℕ) → Before addr [] → NothingSets site tag number
  ends addr so_far a words fits sets = go (leb_tells addr a)
    where
      go : ((nat_le addr a ≡ true) × (addr ≤ a)) ⊎ ((nat_le addr a ≡ false) × (a < addr)) → ⊥
      go (inl h) = none_behind (a - addr) sets.point sets.behind (standing addr a [] words so_far h.1 sets)
      go (inr h) = so_far.none a words h.1 fits sets

  -- the first of the points reaches past the last address
  pub too_far : (addr : ℕ) (p : OwnPoint) (ps : List OwnPoint) → Before addr (p ∷ ps) → 65536 < addr + registers_of p → NothingSets site tag number
  too_far addr p ps so_far far a words fits sets = go (leb_tells addr a)
    where
      go : ((nat_le addr a ≡ true) × (addr ≤ a)) ⊎ ((nat_le addr a ≡ false) × (a < addr)) → ⊥
      go (inl h) =
          let le = h.1 in
          let lt : a < addr + registers_of p = omega (arith, far, fits) in
          let w = within addr a p ps words so_far le lt sets in
          let e = w.0 in
          let s = sized p w.1.to number words w.1.read in
          omega (arith, far, fits, e, s)
      go (inr h) = so_far.none a words h.1 fits sets

  pub found : (addr : ℕ) (p : OwnPoint) (ps : List OwnPoint) (words : List ℕ) → Before addr (p ∷ ps) → AreWordsFor site.tags tag number p words → SetsAt site tag number addr words
  found addr p ps words so_far are =
      let e : (addr - site.base) + 0 ≡ addr - site.base = omega arith in
      let here = ap (λ k. points_behind (own_points site) k) (sym e) ∙ so_far.here 0 in
      let whole = settings_one p ps (so_far.long 0 p refl) site.tags tag (length words) are.own (sized p are.to number words are.read) in
      record { point = p; behind = ps; covers = covers site addr (length words) (p ∷ ps) so_far.from here whole; are = are }

  -- ---- the same at a point of a list

  module _ (addr i : ℕ) (points : List OwnPoint) (d : OwnPoint) (inside : i < length points) (so_far : Before addr (drop i points)) where
    abbrev point : OwnPoint
    point = get_or points i d

    abbrev rest : List OwnPoint
    rest = drop (i + 1) points

    first : Before addr (point ∷ rest)
    first = subst (λ ps. Before addr ps) (drop_more points i d inside) so_far

    pub next_on : (next n : ℕ) → n ≡ registers_of point → next ≡ addr + n → ((words : List ℕ) → AreWordsFor site.tags tag number point words → ⊥) → Before next rest
    next_on next n size e none = goes_on addr next point rest first (e ∙ ap (λ k. addr + k) size) none

    pub none_on : (n : ℕ) → n ≡ registers_of point → 65536 < addr + n → ((words : List ℕ) → AreWordsFor site.tags tag number point words → ⊥) → NothingSets site tag number
    none_on n size far none = past (addr + n) rest (goes_on addr (addr + n) point rest first (ap (λ k. addr + k) size) none) far

    pub too_far_on : (words : List ℕ) → AreWordsFor site.tags tag number point words → 65536 < addr + length words → NothingSets site tag number
    too_far_on words are far = too_far addr point rest first (subst (λ n. 65536 < addr + n) (sized point are.to number words are.read) far)

    pub found_on : (words : List ℕ) → AreWordsFor site.tags tag number point words → SetsAt site tag number addr words
    found_on words are = found addr point rest words first are

  pub ends_on : (addr i : ℕ) (points : List OwnPoint) → length points ≤ i → Before addr (drop i points) → NothingSets site tag number
  ends_on addr i points all so_far = ends addr (subst (λ ps. Before addr ps) (drop_all i points all) so_far)

  -- ---- what the request does

  pub alone_if : (asked : Option Request) (addr : ℕ) (words : List ℕ) → IfSome asked (λ r. r ≡ WriteMany addr words) → SetsAlone site tag number (WriteMany addr words) → IfSome asked (SetsAlone site tag number)
  alone_if None addr words h s = h
  alone_if (Some r) addr words h s = subst (λ q. SetsAlone site tag number q) (sym h) s

  pub alone : (addr : ℕ) (words : List ℕ) → 1 ≤ length words → SetsAt site tag number addr words → SetsAlone site tag number (WriteMany addr words)
  alone addr words some sets s t r does = go r (subst (λ o. Writes site.tags o words s.sets r t.sets) sets.covers does.0) does.1
    where
      are : AreWordsFor site.tags tag number sets.point words
      are = sets.are

      mid : List (Option ℤ)
      mid = slice_set s.sets tag (Some number)

      size : length words ≡ registers_of sets.point
      size = sized sets.point are.to number words are.read

      whole : take (registers_of sets.point) words ≡ words
      whole = take_all (registers_of sets.point) words (omega (arith, size))

      left : drop (registers_of sets.point) words ≡ []
      left = drop_all (registers_of sets.point) words (omega (arith, size))

      one : SetsOne site.tags sets.point (take (registers_of sets.point) words) s.sets mid
      one = subst (λ ws. SetsOne site.tags sets.point ws s.sets mid) (sym whole) (tag, are.to, number, are.own, are.found, reads_back sets.point are.to number words are.read, refl)

      all : Sets site.tags (sets.point ∷ sets.behind) words s.sets mid
      all = sets_on site.tags sets.point sets.behind words s.sets mid mid some one (subst (λ ws. Sets site.tags sets.behind ws mid mid) (sym left) refl)

      only : (new : List (Option ℤ)) → Sets site.tags (sets.point ∷ sets.behind) words s.sets new → new ≡ mid
      only new h = subst (λ ws. Sets site.tags sets.behind ws mid new) left (sets_back site.tags sets.point sets.behind words s.sets mid new some one h)

      young : ages_after site addr (length words) (Ok response.Wrote) s.ages ≡ slice_set s.ages tag (Some 0)
      young =
          ap (λ o. option_map_or (λ points. renewed site.tags points (length words) s.ages) o s.ages) sets.covers
          ∙ renewed_alone sets.point sets.behind (omega (arith, some, size)) site.tags tag (length words) s.ages are.own size

      go : (q : Result Response Exception) → Writes site.tags (Some (sets.point ∷ sets.behind)) words s.sets q t.sets → t ≡ record s { sets = t.sets; ages = ages_after site addr (length words) q s.ages } → (q ≡ Ok response.Wrote) × (t ≡ record s { sets = mid; ages = slice_set s.ages tag (Some 0) })
      go (Ok (response.Words read)) h after = absurd h
      go (Ok response.Wrote) h after =
          (refl, after ∙ ap (λ (x : List (Option ℤ)). record s { sets = x; ages = ages_after site addr (length words) (Ok response.Wrote) s.ages }) (only t.sets h) ∙ ap (λ (x : List (Option ℕ)). record s { sets = mid; ages = x }) young)
      go (Err e) h after = absurd (h.1 mid all)

pub few_words : (p : OwnPoint) (t : SiteTag) (n : ℤ) (words : List ℕ) → AreRead p t n words → (1 ≤ length words) × (length words ≤ 123)
few_words (own.Word w) t n words h = absurd h
few_words (own.Text size entry) t n words h = absurd h
few_words (own.Number kind factor from) t n words h = subst (λ k. (1 ≤ k) × (k ≤ 123)) (sym h.1.sized) (size_within kind)

pub for_tags : {tags us : List SiteTag} (tag : ℕ) (number : ℤ) {p : OwnPoint} (words : List ℕ) → tags ≡ us → AreWordsFor tags tag number p words → AreWordsFor us tag number p words
for_tags tag number {p} words e h = subst (λ ts. AreWordsFor ts tag number p words) e h

pub none_for_tags : {tags us : List SiteTag} (tag : ℕ) (number : ℤ) {p : OwnPoint} → tags ≡ us → ((words : List ℕ) → AreWordsFor tags tag number p words → ⊥) → (words : List ℕ) → AreWordsFor us tag number p words → ⊥
none_for_tags tag number {p} e none words h = none words (subst (λ ts. AreWordsFor ts tag number p words) (sym e) h)
