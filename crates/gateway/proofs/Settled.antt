-- Numbers that are read back from words, and the lists that they are set in.
use Rattle.std.proofs.Common.{◌≡◌, ◌≢◌, ◌⊎◌, inl, inr, ℕ, zero, suc, ◌+◌, ◌-◌, ◌<◌, ◌≤◌, List, [], ◌∷◌, length, take, drop, get_or, Option, Some, None, Result, Ok, Err, refl, sym, ap, subst, ◌∙◌, arith, leb-true, length-drop}
use Rattle.std.specs.Prelude.{ℤ, ◌≤ℤ◌, slice_get, slice_set, is_some, nat_le, Bool, true, false, ◌&&◌, MatchOption}
use Rattle.std.proofs.lemmas.List.{drop_more}
use Rattle.point_types.specs.declared.kind.Kind.{Kind}
use Rattle.point_types.specs.declared.reading.Reading.{Reading}
use Rattle.point_types.specs.declared.reading.Reading.TheVariants as reading
use Rattle.point_types.specs.Point.{value_of}
use Rattle.point_types.specs.Reading.{IsScaled, ReadsBy, IsReading, factor_of}
use Rattle.point_types.proofs.Uniqueness.{at_most_one_reading}
use Rattle.site_model.specs.declared.tag.SiteTag.{SiteTag}
use Rattle.site_model.specs.Readings.{AreSettings}
use Rattle.modbus_frame.specs.declared.message.Exception.{Exception}
use Rattle.modbus_frame.specs.declared.message.Response.{Response}
use Rattle.gateway.specs.declared.served.point.OwnPoint.{OwnPoint}
use Rattle.gateway.specs.declared.served.point.OwnPoint.TheVariants as own
use Rattle.gateway.specs.served.ServedImage.{own_value}
use Rattle.gateway.specs.event_core.SiteRun.{IsNumberIn, ReadsBack, Sets, SetsOne, Writes, are_settings, setting_of}
use Rattle.gateway.specs.served.Points.{registers_of}

same_some : {X : Type 0} {o : Option X} {a b : X} → o ≡ Some a → o ≡ Some b → a ≡ b
same_some p q = cc

same_value : {n m : ℤ} → reading.Value n ≡ reading.Value m → n ≡ m
same_value e = cc

-- ---- one number at most, and it lies in its range

in_range : (raw : ℤ) (o : Option ℤ) (e low high n : ℤ) → ReadsBy IsScaled raw o e low high (reading.Value n) → (low ≤ℤ n) × (n ≤ℤ high)
in_range raw None e low high n h = cc
in_range raw (Some s) e low high n h = (h.1, h.2)

pub number_in_range : (kind : Kind) (factor : Option ℤ) (t : SiteTag) (words : List ℕ) (n : ℤ) → IsNumberIn kind factor t words n → (t.low ≤ℤ n) × (n ≤ℤ t.high)
number_in_range kind factor t words n h = in_range h.0 (factor_of factor) t.exponent t.low t.high n h.2

pub one_number : (kind : Kind) (factor : Option ℤ) (t : SiteTag) (words : List ℕ) (n m : ℤ) → IsNumberIn kind factor t words n → IsNumberIn kind factor t words m → n ≡ m
one_number kind factor t words n m h k =
    let e : h.0 ≡ k.0 = same_some h.1 k.1 in
    let g = subst (λ raw. IsReading raw factor t.exponent t.low t.high (reading.Value n)) e h.2 in
    same_value (at_most_one_reading k.0 factor t.exponent t.low t.high (reading.Value n) (reading.Value m) g k.2)

-- a raw number whose reading is no value of its own
pub no_number : (kind : Kind) (factor : Option ℤ) (t : SiteTag) (words : List ℕ) (raw : ℤ) (r : Reading) → value_of kind words ≡ Some raw → IsReading raw factor t.exponent t.low t.high r → ((n : ℤ) → r ≢ reading.Value n) →
    (n : ℤ) → IsNumberIn kind factor t words n → ⊥
no_number kind factor t words raw r e h other n k =
    let g = subst (λ x. IsReading x factor t.exponent t.low t.high (reading.Value n)) (same_some k.1 e) k.2 in
    other n (at_most_one_reading raw factor t.exponent t.low t.high r (reading.Value n) h g)

pub reads_in_range : (p : OwnPoint) (t : SiteTag) (words : List ℕ) (n : ℤ) → ReadsBack p t words n → (t.low ≤ℤ n) × (n ≤ℤ t.high)
reads_in_range (own.Word w) t words n h = absurd h
reads_in_range (own.Text size entry) t words n h = absurd h
reads_in_range (own.Number kind factor from) t words n h = number_in_range kind factor t words n h

pub one_reading : (p : OwnPoint) (t : SiteTag) (words : List ℕ) (n m : ℤ) → ReadsBack p t words n → ReadsBack p t words m → n ≡ m
one_reading (own.Word w) t words n m h k = absurd h
one_reading (own.Text size entry) t words n m h k = absurd h
one_reading (own.Number kind factor from) t words n m h k = one_number kind factor t words n m h k

-- what the reading of a raw number tells
pub number_told : (kind : Kind) (factor : Option ℤ) (t : SiteTag) (words : List ℕ) (raw : ℤ) (r : Reading) → value_of kind words ≡ Some raw → IsReading raw factor t.exponent t.low t.high r →
    MatchOption (own_value r) ((n : ℤ) → IsNumberIn kind factor t words n → ⊥) (IsNumberIn kind factor t words)
number_told kind factor t words raw (reading.Value n) e h = (raw, e, h)
number_told kind factor t words raw (reading.Default n why) e h = no_number kind factor t words raw (reading.Default n why) e h (λ m q. cc)
number_told kind factor t words raw (reading.Absent why) e h = no_number kind factor t words raw (reading.Absent why) e h (λ m q. cc)

-- ---- one setting

pub one_setting : (tags : List SiteTag) (p : OwnPoint) (words : List ℕ) (old a b : List (Option ℤ)) → SetsOne tags p words old a → SetsOne tags p words old b → a ≡ b
one_setting tags p words old a b h k =
    let i = same_some h.3 k.3 in
    let t = same_some (subst (λ j. slice_get tags j ≡ Some h.1) i h.4) k.4 in
    let n = one_reading p k.1 words h.2 k.2 (subst (λ u. ReadsBack p u words h.2) t h.5) k.5 in
    h.6 ∙ ap (λ j. slice_set old j (Some h.2)) i ∙ ap (λ m. slice_set old k.0 (Some m)) n ∙ sym k.6

-- an entry of a list in which one was replaced
pub set-cases : {A : Type 0} (xs : List A) (i : ℕ) (v : A) (k : ℕ) (r : A) → slice_get (slice_set xs i v) k ≡ Some r → ((k ≡ i) × (r ≡ v)) ⊎ (slice_get xs k ≡ Some r)
set-cases [] i v k r e = cc
set-cases (x ∷ xs) zero v zero r e = inl (refl, cc)
set-cases (x ∷ xs) zero v (suc k) r e = inr e
set-cases (x ∷ xs) (suc i) v zero r e = inr e
set-cases (x ∷ xs) (suc i) v (suc k) r e = go (set-cases xs i v k r e)
  where
    go : ((k ≡ i) × (r ≡ v)) ⊎ (slice_get xs k ≡ Some r) → ((suc k ≡ suc i) × (r ≡ v)) ⊎ (slice_get xs k ≡ Some r)
    go (inl p) = inl (ap suc p.0, p.1)
    go (inr p) = inr p

-- where a tag is set to a number in its range, all are in theirs
pub still_settings : (tags : List SiteTag) (old : List (Option ℤ)) (i : ℕ) (t : SiteTag) (n : ℤ) → AreSettings tags old → slice_get tags i ≡ Some t → (t.low ≤ℤ n) × (n ≤ℤ t.high) → AreSettings tags (slice_set old i (Some n))
still_settings tags old i t n ranged e within k u m p q = go (set-cases old i (Some n) k (Some m) q)
  where
    go : ((k ≡ i) × (Some m ≡ Some n)) ⊎ (slice_get old k ≡ Some (Some m)) → (u.low ≤ℤ m) × (m ≤ℤ u.high)
    go (inl h) =
        let same : n ≡ m = cc in
        let tag : t ≡ u = same_some e (subst (λ j. slice_get tags j ≡ Some u) h.0 p) in
        subst (λ x. (u.low ≤ℤ x) × (x ≤ℤ u.high)) same (subst (λ (x : SiteTag). (x.low ≤ℤ n) × (n ≤ℤ x.high)) tag within)
    go (inr h) = ranged k u m p h

-- ---- point by point

module _ (tags : List SiteTag) (p : OwnPoint) (ps : List OwnPoint) where
  pub whole_more : (words : List ℕ) → 0 < length words → are_settings tags (p ∷ ps) (length words) ≡ true → (registers_of p ≤ length words) × (are_settings tags ps (length words - registers_of p) ≡ true)
  whole_more [] some e = absurd (omega arith)
  whole_more (w ∷ words) some e = let a = both (is_some (setting_of tags p)) _ e in let b = both (nat_le (registers_of p) (length (w ∷ words))) _ a.1 in (leb-true (registers_of p) (length (w ∷ words)) b.0, b.1)
    where
      both : (a b : Bool) → (a && b) ≡ true → (a ≡ true) × (b ≡ true)
      both true b h = (refl, h)
      both false b h = cc

  pub sets_on : (words : List ℕ) (old mid new : List (Option ℤ)) → 0 < length words → SetsOne tags p (take (registers_of p) words) old mid → Sets tags ps (drop (registers_of p) words) mid new → Sets tags (p ∷ ps) words old new
  sets_on [] old mid new some one rest = absurd (omega arith)
  sets_on (w ∷ words) old mid new some one rest = (mid, one, rest)

  pub sets_back : (words : List ℕ) (old mid new : List (Option ℤ)) → 0 < length words → SetsOne tags p (take (registers_of p) words) old mid → Sets tags (p ∷ ps) words old new → Sets tags ps (drop (registers_of p) words) mid new
  sets_back [] old mid new some one all = absurd (omega arith)
  sets_back (w ∷ words) old mid new some one all =
      let e = one_setting tags p (take (registers_of p) (w ∷ words)) old all.0 mid all.1 one in
      subst (λ (x : List (Option ℤ)). Sets tags ps (drop (registers_of p) (w ∷ words)) x new) e all.2

  pub sets_none : (words : List ℕ) (old new : List (Option ℤ)) → 0 < length words → ((mid : List (Option ℤ)) → SetsOne tags p (take (registers_of p) words) old mid → ⊥) → Sets tags (p ∷ ps) words old new → ⊥
  sets_none [] old new some none all = absurd (omega arith)
  sets_none (w ∷ words) old new some none all = none all.0 all.1

pub no_more : (tags : List SiteTag) (words : List ℕ) → 0 < length words → are_settings tags [] (length words) ≡ true → ⊥
no_more tags [] some e = absurd (omega arith)
no_more tags (w ∷ words) some e = cc

-- the same for the points of a list from one on
module _ (tags : List SiteTag) (points : List OwnPoint) (i n : ℕ) (d : OwnPoint) (left front after : List ℕ) (inside : i < length points) (size : n ≡ registers_of (get_or points i d)) (is_front : front ≡ take n left) (is_after : after ≡ drop n left) (some : 0 < length left) where
  abbrev point : OwnPoint
  point = get_or points i d

  abbrev behind : List OwnPoint
  behind = drop (i + 1) points

  one_here : (old mid : List (Option ℤ)) → SetsOne tags point front old mid → SetsOne tags point (take (registers_of point) left) old mid
  one_here old mid one = subst (λ ws. SetsOne tags point ws old mid) (is_front ∙ ap (λ k. take k left) size) one

  pub goes_on : (old mid new : List (Option ℤ)) → SetsOne tags point front old mid → Sets tags behind after mid new → Sets tags (drop i points) left old new
  goes_on old mid new one rest =
      let r = subst (λ ws. Sets tags behind ws mid new) (is_after ∙ ap (λ k. drop k left) size) rest in
      subst (λ ps. Sets tags ps left old new) (sym (drop_more points i d inside)) (sets_on tags point behind left old mid new some (one_here old mid one) r)

  pub goes_back : (old mid new : List (Option ℤ)) → SetsOne tags point front old mid → Sets tags (drop i points) left old new → Sets tags behind after mid new
  goes_back old mid new one all =
      let a = subst (λ ps. Sets tags ps left old new) (drop_more points i d inside) all in
      subst (λ ws. Sets tags behind ws mid new) (sym (is_after ∙ ap (λ k. drop k left) size)) (sets_back tags point behind left old mid new some (one_here old mid one) a)

  pub goes_nowhere : (old new : List (Option ℤ)) → ((mid : List (Option ℤ)) → SetsOne tags point front old mid → ⊥) → Sets tags (drop i points) left old new → ⊥
  goes_nowhere old new none all =
      let a = subst (λ ps. Sets tags ps left old new) (drop_more points i d inside) all in
      sets_none tags point behind left old new some (λ mid one. none mid (subst (λ ws. SetsOne tags point ws old mid) (sym (is_front ∙ ap (λ k. take k left) size)) one)) a

  pub whole_on : are_settings tags (drop i points) (length left) ≡ true → are_settings tags behind (length after) ≡ true
  whole_on whole =
      let a = subst (λ ps. are_settings tags ps (length left) ≡ true) (drop_more points i d inside) whole in
      let e : length left - registers_of point ≡ length after = sym (ap length (is_after ∙ ap (λ k. drop k left) size) ∙ length-drop (registers_of point) left) in
      subst (λ k. are_settings tags behind k ≡ true) e (whole_more tags point behind left some a).1

-- a write that is refused sets nothing
pub refused_keeps : (tags : List SiteTag) (points : Option (List OwnPoint)) (words : List ℕ) (r : Result Response Exception) (e : Exception) (new old : List (Option ℤ)) → r ≡ Err e → Writes tags points words old r new → new ≡ old
refused_keeps tags points words (Ok response) e new old is written = absurd (cc)
refused_keeps tags None words (Err f) e new old is written = written.1
refused_keeps tags (Some points) words (Err f) e new old is written = written.2
