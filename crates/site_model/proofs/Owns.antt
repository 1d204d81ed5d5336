-- A tag's reading before its default is a number in the tag's range, or one that was set, or absent.
use Rattle.std.proofs.Common.{◌≡◌, ℕ, Bool, true, false, ◌&&◌, if◌then◌else◌, List, ℤ, pos, negsuc, ◌≤ℤ◌, int_le, Option, Some, None, IfSome, IsTrue, refl, sym, subst, arith, leb-true, leb-false, true≢false}
use Rattle.std.proofs.lemmas.Int.{ints}
use Rattle.point_types.specs.declared.reading.Cause.{Cause}
use Rattle.point_types.specs.declared.reading.Cause.TheVariants as cause
use Rattle.point_types.specs.declared.reading.Reading.{Reading}
use Rattle.point_types.specs.declared.reading.Reading.TheVariants as reading
use Rattle.point_types.specs.Point.{size_of, value_of}
use Rattle.point_types.specs.Reading.{Reads, ReadsBy, IsScaled, IsScaledDown, factor_of}
use Rattle.point_types.specs.Value.{is_within, low_of, high_of}
use Rattle.site_model.specs.declared.access.Access.{Access}
use Rattle.site_model.specs.declared.access.Access.TheVariants as access
use Rattle.site_model.specs.declared.tag.SiteTag.{SiteTag}
use Rattle.site_model.specs.Tag.{start_of}
use Rattle.site_model.specs.Readings.{registers_at, scale_for, bit_of, number_reading, IsOfRaw, IsOfValue, IsOfRegisters, IsOfBlock, setting_reading, time_within, IsOwn, IsTagReading, IsUsable}

-- a reading that is no default, and whose number is so
abbrev pub IsPlain : (ℤ → Type 0) → Reading → Type 0
IsPlain K (reading.Value n) = K n
IsPlain K (reading.Default n why) = ⊥
IsPlain K (reading.Absent why) = Unit {0}

abbrev pub IsIn : (low high : ℤ) → ℤ → Type 0
IsIn low high n = (low ≤ℤ n) × (n ≤ℤ high)

both : (a b : Bool) → IsTrue (a && b) → IsTrue a × IsTrue b
both true b h = (refl, h)
both false b h = absurd (true≢false (sym h))

pub at_most : (a b : ℤ) → IsTrue (int_le a b) → a ≤ℤ b
at_most (pos a) (pos b) h = let x = leb-true a b h in omega (arith, ints)
at_most (pos a) (negsuc b) h = absurd (true≢false (sym h))
at_most (negsuc a) (pos b) h = omega (arith, ints)
at_most (negsuc a) (negsuc b) h = let x = leb-true b a h in omega (arith, ints)

within : (low high n : ℤ) → IsTrue (is_within low high n) → IsIn low high n
within low high n h = let p = both (int_le low n) (int_le n high) h in (at_most low n p.0, at_most n high p.1)

absent : (K : ℤ → Type 0) (r : Reading) (why : Cause) → r ≡ reading.Absent why → IsPlain K r
absent K r why e = subst (IsPlain K) (sym e) tt

number-plain : (K : ℤ → Type 0) (low high n : ℤ) (r : Reading) → ((m : ℤ) → IsIn low high m → K m) → r ≡ number_reading low high n → IsPlain K r
number-plain K low high n r k e = subst (IsPlain K) (sym e) (go (is_within low high n) refl)
  where
    go : (b : Bool) → is_within low high n ≡ b → IsPlain K (if b then reading.Value n else reading.Absent cause.OutOfRange)
    go true q = k n (within low high n q)
    go false q = tt

reads-plain : (K : ℤ → Type 0) (Is : ℤ → Type 0) (low high : ℤ) (r : Reading) → ((m : ℤ) → IsIn low high m → K m) → Reads Is low high r → IsPlain K r
reads-plain K Is low high (reading.Value n) k h = k n (h.1, h.2)
reads-plain K Is low high (reading.Default n why) k h = h
reads-plain K Is low high (reading.Absent why) k h = tt

by-plain : (K : ℤ → Type 0) (Is : (raw s e n : ℤ) → Type 0) (raw : ℤ) (o : Option ℤ) (exponent low high : ℤ) (r : Reading) → ((m : ℤ) → IsIn low high m → K m) → ReadsBy Is raw o exponent low high r → IsPlain K r
by-plain K Is raw None exponent low high r k h = absent K r cause.BadScale h
by-plain K Is raw (Some s) exponent low high r k h = reads-plain K (Is raw s exponent) low high r k h

-- what a tag begins with, its default or its least number, stands in its range
start-in : (t : SiteTag) → IsIn t.low t.high (start_of t.low t.default)
start-in t =
    let n = start_of t.low t.default in
    let a = both (int_le (low_of t.kind) t.low && is_within t.low t.high n) (int_le t.high (high_of t.kind)) t.ranged in
    let b = both (int_le (low_of t.kind) t.low) (is_within t.low t.high n) a.0 in
    within t.low t.high n b.1

above : (a b : ℤ) → int_le a b ≡ false → b ≤ℤ a
above (pos a) (pos b) h = omega (arith, ints, leb-false a b h)
above (pos a) (negsuc b) h = omega (arith, ints)
above (negsuc a) (pos b) h = absurd (true≢false h)
above (negsuc a) (negsuc b) h = omega (arith, ints, leb-false b a h)

-- time that is held in a range lies in it, where the range isn't empty
held-in : (low high : ℤ) (elapsed : Option ℕ) → low ≤ℤ high → IsIn low high (time_within low high elapsed)
held-in low high None h = (omega (arith, ints), h)
held-in low high (Some n) h = go (int_le (pos n) low) refl (int_le high (pos n)) refl
  where
    go : (b : Bool) → int_le (pos n) low ≡ b → (c : Bool) → int_le high (pos n) ≡ c → IsIn low high (if b then low else if c then high else pos n)
    go true p c q = (omega (arith, ints), h)
    go false p true q = (h, omega (arith, ints))
    go false p false q = (above (pos n) low p, above high (pos n) q)

-- and no tag's range is empty
time-in : (t : SiteTag) (elapsed : Option ℕ) → IsIn t.low t.high (time_within t.low t.high elapsed)
time-in t elapsed = held-in t.low t.high elapsed (omega (arith, ints, (start-in t).0, (start-in t).1))

module _ (K : ℤ → Type 0) (t : SiteTag) (r : Reading) (k : (m : ℤ) → IsIn t.low t.high m → K m) where
  raw-plain : (bit : Option ℕ) (down : Bool) (raw : ℤ) (factor : Option ℤ) → IsOfRaw bit down t raw factor r → IsPlain K r
  raw-plain (Some bit) down raw factor h = number-plain K t.low t.high (bit_of raw bit) r k h
  raw-plain None true raw factor h = by-plain K IsScaledDown raw (factor_of factor) t.exponent t.low t.high r k h
  raw-plain None false raw factor h = by-plain K IsScaled raw (factor_of factor) t.exponent t.low t.high r k h

  value-plain : (value factor : Option ℤ) → IsOfValue t value factor r → IsPlain K r
  value-plain None factor h = absent K r cause.NotImplemented h
  value-plain (Some raw) factor h = raw-plain t.bit t.down raw factor h

  registers-plain : (registers : Option (List ℕ)) (scale : Option (Option ℤ)) → IsOfRegisters t registers scale r → IsPlain K r
  registers-plain None scale h = absent K r cause.ShortModel h
  registers-plain (Some registers) None h = absent K r cause.ShortModel h
  registers-plain (Some registers) (Some factor) h = value-plain (value_of t.point registers) factor h

  block-plain : (block : Option (List ℕ)) → IsOfBlock t block r → IsPlain K r
  block-plain None h = absent K r cause.NoBlock h
  block-plain (Some words) h = registers-plain (registers_at words t.offset (size_of t.point)) (scale_for t.bit words t.sf) h

  setting-plain : (set : Option ℤ) → IfSome set K → r ≡ setting_reading set → IsPlain K r
  setting-plain None s h = absent K r cause.NotImplemented h
  setting-plain (Some n) s h = subst (IsPlain K) (sym h) s

  time-plain : (elapsed : Option ℕ) → r ≡ reading.Value (time_within t.low t.high elapsed) → IsPlain K r
  time-plain elapsed h = subst (IsPlain K) (sym h) (k (time_within t.low t.high elapsed) (time-in t elapsed))

  pub own-plain : (a : Access) (block : Option (List ℕ)) (set : Option ℤ) (elapsed : Option ℕ) → IfSome set K → IsOwn a t block set elapsed r → IsPlain K r
  own-plain access.Input block set elapsed s h = block-plain block h
  own-plain access.Setting block set elapsed s h = setting-plain set s h
  own-plain access.Output block set elapsed s h = absent K r cause.NoBlock h
  own-plain access.Shown block set elapsed s h = absent K r cause.NoBlock h
  own-plain access.Time block set elapsed s h = time-plain elapsed h

-- so the default stands in the tag's range, too
default-in : (t : SiteTag) (n : ℤ) → t.default ≡ Some n → IsIn t.low t.high n
default-in t n e = subst (λ d. IsIn t.low t.high (start_of t.low d)) e (start-in t)

no_number-plain : (t : SiteTag) (block : Option (List ℕ)) (set : Option ℤ) (elapsed : Option ℕ) (n : ℤ) (why : Cause) → IsOwn t.access t block set elapsed (reading.Default n why) → ⊥
no_number-plain t block set elapsed n why h = own-plain (λ _. Unit {0}) t (reading.Default n why) (λ m i. tt) t.access block set elapsed (any set) h
  where
    any : (o : Option ℤ) → IfSome o (λ _. Unit {0})
    any None = tt
    any (Some m) = tt

-- a reading that isn't absent stands as it is
pub tag-own : (t : SiteTag) (block : Option (List ℕ)) (set : Option ℤ) (elapsed : Option ℕ) (r : Reading) → ((why : Cause) → r ≡ reading.Absent why → ⊥) → IsOwn t.access t block set elapsed r → IsTagReading t block set elapsed r
tag-own t block set elapsed (reading.Value n) other h = h
tag-own t block set elapsed (reading.Default n why) other h = absurd (no_number-plain t block set elapsed n why h)
tag-own t block set elapsed (reading.Absent why) other h = absurd (other why refl)

pub tag-usable : (t : SiteTag) (block : Option (List ℕ)) (set : Option ℤ) (elapsed : Option ℕ) (r : Reading) → IfSome set (IsIn t.low t.high) → IsTagReading t block set elapsed r → IsUsable t r
tag-usable t block set elapsed (reading.Value n) s h = own-plain (IsIn t.low t.high) t (reading.Value n) (λ m i. i) t.access block set elapsed s h
tag-usable t block set elapsed (reading.Default n why) s h = default-in t n h.1
tag-usable t block set elapsed (reading.Absent why) s h = h.1
