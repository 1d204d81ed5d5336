-- The numbers next to one that a tag's point can't say.
use Rattle.std.proofs.Common.{◌≡◌, if◌then◌else◌, FitsSigned, Bool, true, false, ◌&&◌, int_le, ℕ, zero, suc, ◌*◌, ◌^◌, List, ℤ, pos, negsuc, neg_ℤ, ◌+ℤ◌, ◌*ℤ◌, ◌≤ℤ◌, ◌<ℤ◌, unsigned_abs, Option, Some, None, Result, Ok, Err, refl, sym, ap, subst, ◌∙◌, arith}
use Rattle.std.specs.Int.{w64, w128}
use Rattle.std.proofs.lemmas.Int.{ints}
use Rattle.point_types.specs.declared.encoding.Unencodable.{Unencodable}
use Rattle.point_types.specs.declared.kind.Kind.{Kind}
use Rattle.point_types.specs.Encoding.{EncodesBy, IsEncoding}
use Rattle.point_types.specs.Point.{StandsFor}
use Rattle.point_types.specs.Reading.{IsExponent, IsScaled, factor_of}
use Rattle.point_types.specs.Value.{high_of, is_within, low_of}
use Rattle.point_types.specs.declared.il_type.IlType.{IlType}
use Rattle.point_types.specs.declared.il_type.IlType.TheVariants as il
use Rattle.point_types.proofs.Truths.{both}
use Rattle.point_types.proofs.RoundTrips.{at_most_one_encoding}
use Rattle.site_model.specs.Serving.{raw_range}
use Rattle.site_model.specs.Tag.{start_of}
use Rattle.site_model.specs.declared.fit.Fit.{Fit}
use Rattle.site_model.specs.declared.fit.Fit.TheVariants as fits
use Rattle.site_model.specs.declared.tag.SiteTag.{SiteTag}
use Rattle.std.specs.Option.{ok_or}
use Rattle.point_writer.specs.Fitting.{CanSay, GoesOutBy}
use Rattle.point_writer.specs.Outgoing.{IsInPlace, IsOutgoing}
use Rattle.point_writer.specs.declared.fitting.SaidNumber.{SaidNumber}
use Rattle.point_writer.specs.Nearest.{IsAbove, IsAboveFor, IsBelow, IsBelowFor, IsBound, IsBoundFor, IsNext, IsOneBelow}
use Rattle.point_writer.proofs.Ranges.{has_words, in_range}

-- ---- signs

neg_neg : (n : ℕ) → neg_ℤ (neg_ℤ (pos n)) ≡ pos n
neg_neg zero = refl
neg_neg (suc n) = refl

turned_product : (x : ℤ) (t : ℕ) → (neg_ℤ x *ℤ pos t) ≡ neg_ℤ (x *ℤ pos t)
turned_product (pos zero) t = omega (arith, ints)
turned_product (pos (suc n)) t = refl
turned_product (negsuc n) t = sym (neg_neg (suc n * t))

turned : (raw s e n : ℤ) → IsScaled raw s e n → IsScaled (neg_ℤ raw) s e (neg_ℤ n)
turned raw s e n h = turned_product raw (10 ^ unsigned_abs (s +ℤ pos 10)) ∙ ap neg_ℤ h ∙ sym (turned_product n (10 ^ unsigned_abs (e +ℤ pos 10)))

-- ---- a tag's range

ends : (k : IlType) → (neg_ℤ (pos (2 ^ 63)) ≤ℤ low_of k) × (high_of k <ℤ pos (2 ^ 63))
ends il.Bool = (omega (arith, ints), omega (arith, ints))
ends il.Sint = (omega (arith, ints), omega (arith, ints))
ends il.Int = (omega (arith, ints), omega (arith, ints))
ends il.Dint = (omega (arith, ints), omega (arith, ints))
ends il.Lint = (omega (arith, ints), omega (arith, ints))
ends il.Usint = (omega (arith, ints), omega (arith, ints))
ends il.Uint = (omega (arith, ints), omega (arith, ints))
ends il.Udint = (omega (arith, ints), omega (arith, ints))

pub record IsLong (t : SiteTag) : Type 0 where
  pub low : neg_ℤ (pos (2 ^ 63)) ≤ℤ t.low
  pub ascends : t.low ≤ℤ t.high
  pub high : t.high <ℤ pos (2 ^ 63)

pub tag_long : (t : SiteTag) → IsLong t
tag_long t =
    let start = start_of t.low t.default in
    let a = both (int_le (low_of t.kind) t.low && is_within t.low t.high start) (int_le t.high (high_of t.kind)) t.ranged in
    let b = both (int_le (low_of t.kind) t.low) (is_within t.low t.high start) a.0 in
    let d = both (int_le t.low start) (int_le start t.high) b.1 in
    let e = ends t.kind in
    record { low = omega (arith, ints, e.0, b.0); ascends = omega (arith, ints, d.0, d.1); high = omega (arith, ints, e.1, a.1) }

pub fits_long : (n : ℤ) → neg_ℤ (pos (2 ^ 63)) ≤ℤ n → n <ℤ pos (2 ^ 63) → FitsSigned w64 n
fits_long (pos m) l h = record { sfits = omega (arith, ints, h) }
fits_long (negsuc m) l h = record { sfits = omega (arith, ints, l) }

pub long_v : (n : ℤ) → FitsSigned w64 n → (neg_ℤ (pos (2 ^ 63)) ≤ℤ n) × (n <ℤ pos (2 ^ 63))
long_v (pos m) f = (omega (arith, ints, f.sfits), omega (arith, ints, f.sfits))
long_v (negsuc m) f = (omega (arith, ints, f.sfits), omega (arith, ints, f.sfits))

pub fits_wide : (n : ℤ) → neg_ℤ (pos (2 ^ 127)) ≤ℤ n → n <ℤ pos (2 ^ 127) → FitsSigned w128 n
fits_wide (pos m) l h = record { sfits = omega (arith, ints, h) }
fits_wide (negsuc m) l h = record { sfits = omega (arith, ints, l) }

-- ---- what the point can say

-- a factor that can be used is a power of ten
pub usable : (f : Option ℤ) (s : ℤ) → Some s ≡ factor_of f → IsExponent s
usable None s e = cc
usable (Some x) s e = go (is_within (neg_ℤ (pos 10)) (pos 10) x) refl e
  where
    same : {m n : ℤ} → Some m ≡ Some n → n ≡ m
    same q = cc

    go : (b : Bool) → is_within (neg_ℤ (pos 10)) (pos 10) x ≡ b → Some s ≡ (if b then Some x else None) → IsExponent s
    go true p q =
        let t = both (int_le (neg_ℤ (pos 10)) x) (int_le x (pos 10)) p in
        subst IsExponent (same q) (omega (arith, ints, t.0), omega (arith, ints, t.1))
    go false p q = cc

abbrev HasWords : Kind → ℤ → (e s : ℤ) → List ℕ → Type 0
HasWords k m e s ws = (raw : ℤ) × StandsFor k ws raw × IsScaled raw s e m

-- it has no words where the factor can't be used
pub no_factor : (k : Kind) (m e : ℤ) (f : Option ℤ) (ws : List ℕ) → None ≡ factor_of f → IsEncoding k m e f (Ok ws) → ⊥
no_factor k m e f ws q h = let d = subst (λ (g : Option ℤ). EncodesBy k m e g (Ok ws)) (sym q) h in cc

pub not_both : (k : Kind) (v e : ℤ) (f : Option ℤ) (ws : List ℕ) (fault : Unencodable) → IsEncoding k v e f (Ok ws) → IsEncoding k v e f (Err fault) → ⊥
not_both k v e f ws fault h l = let q = at_most_one_encoding k v e f (Ok ws) (Err fault) h l in cc

module _ (t : SiteTag) (f : Option ℤ) (s : ℤ) (scale : Some s ≡ factor_of f) (r : ℤ × ℤ) (range : Some r ≡ raw_range t.point) (v : ℤ) where
  told : (m : ℤ) (c : CanSay t f m) → HasWords t.point m t.exponent s c.words
  told m c = subst (λ (g : Option ℤ). EncodesBy t.point m t.exponent g (Ok c.words)) (sym scale) c.encoded

  said : (m raw : ℤ) → r.0 ≤ℤ raw → raw ≤ℤ r.1 → IsScaled raw s t.exponent m → t.low ≤ℤ m → m ≤ℤ t.high → CanSay t f m
  said m raw l h scaled low high =
      let w = has_words t.point r range raw (l, h) in
      record { words = w.0; encoded = subst (λ (g : Option ℤ). EncodesBy t.point m t.exponent g (Ok w.0)) scale (raw, w.1, scaled); low = low; high = high }

  -- ---- below

  one_below : (m : ℤ) → CanSay t f m → m ≤ℤ v → IsOneBelow v t.exponent s r.0 r.1 m
  one_below m c below =
      let w = told m c in
      let i = in_range t.point r range c.words w.0 w.1 in
      record { raw = w.0; says = w.2; low = i.0; high = i.1; below = below }

  pub below_bound : (x n : ℤ) → x ≡ v → v ≤ℤ t.high → t.low ≤ℤ n → IsBound x t.exponent s r.0 r.1 n → IsBelowFor t f v n
  below_bound x n is most low bx = let b = subst (λ y. IsBound y t.exponent s r.0 r.1 n) is bx in record {
    low = low;
    below = b.below;
    greatest = λ m c l. b.greatest m (one_below m c l);
    said = λ m c l.
        let o = b.said m (one_below m c l) in
        let u = b.below in
        said n o.raw o.low o.high o.says low (omega (arith, ints));
  }

  pub none_below : (x n : ℤ) → x ≡ v → n <ℤ t.low → IsBound x t.exponent s r.0 r.1 n → IsBelow t f v None
  none_below x n is low bx m c l = let b = subst (λ y. IsBound y t.exponent s r.0 r.1 n) is bx in let g = b.greatest m (one_below m c l) in let h = c.low in omega (arith, ints)

  pub deep_below : (x : ℤ) → x ≡ v → neg_ℤ (pos (2 ^ 64)) ≤ℤ t.low → IsBoundFor x t.exponent s r.0 r.1 None → IsBelow t f v None
  deep_below x is short bx m c l = let b = subst (λ y. IsBoundFor y t.exponent s r.0 r.1 None) is bx in let g = b m (one_below m c l) in let h = c.low in omega (arith, ints)

  -- ---- above: below, with all signs turned

  turn : (x low high : ℤ) (n : Option ℤ) → x ≡ neg_ℤ v → low ≡ neg_ℤ r.1 → high ≡ neg_ℤ r.0 → IsBoundFor x t.exponent s low high n → IsBoundFor (neg_ℤ v) t.exponent s (neg_ℤ r.1) (neg_ℤ r.0) n
  turn x low high n p q u h = subst (λ y. IsBoundFor (neg_ℤ v) t.exponent s (neg_ℤ r.1) y n) u (subst (λ y. IsBoundFor (neg_ℤ v) t.exponent s y high n) q (subst (λ y. IsBoundFor y t.exponent s low high n) p h))

  one_above : (m : ℤ) → CanSay t f m → v ≤ℤ m → IsOneBelow (neg_ℤ v) t.exponent s (neg_ℤ r.1) (neg_ℤ r.0) (neg_ℤ m)
  one_above m c l =
      let w = told m c in
      let i = in_range t.point r range c.words w.0 w.1 in
      let x = i.0 in
      let y = i.1 in
      record { raw = neg_ℤ w.0; says = turned w.0 s t.exponent m w.2; low = omega (arith, ints); high = omega (arith, ints); below = omega (arith, ints) }

  turned_bound : (n : ℤ) → t.low ≤ℤ v → neg_ℤ n ≤ℤ t.high → IsBound (neg_ℤ v) t.exponent s (neg_ℤ r.1) (neg_ℤ r.0) n → IsAboveFor t f v (neg_ℤ n)
  turned_bound n least high b = record {
    high = high;
    above = let u = b.below in omega (arith, ints);
    least = λ m c l. let g = b.greatest (neg_ℤ m) (one_above m c l) in omega (arith, ints);
    said = λ m c l.
        let o = b.said (neg_ℤ m) (one_above m c l) in
        let u = b.below in
        let x = o.low in
        let y = o.high in
        said (neg_ℤ n) (neg_ℤ o.raw) (omega (arith, ints)) (omega (arith, ints)) (turned o.raw s t.exponent n o.says) (omega (arith, ints)) high;
  }

  pub above_bound : (x low most n out : ℤ) → x ≡ neg_ℤ v → low ≡ neg_ℤ r.1 → most ≡ neg_ℤ r.0 → out ≡ neg_ℤ n → t.low ≤ℤ v → neg_ℤ n ≤ℤ t.high → IsBound x t.exponent s low most n → IsAboveFor t f v out
  above_bound x low most n out p q u o least high h = subst (IsAboveFor t f v) (sym o) (turned_bound n least high (turn x low most (Some n) p q u h))

  pub none_above : (x low most n : ℤ) → x ≡ neg_ℤ v → low ≡ neg_ℤ r.1 → most ≡ neg_ℤ r.0 → t.high <ℤ neg_ℤ n → IsBound x t.exponent s low most n → IsAbove t f v None
  none_above x low most n p q u high w m c l = let b = turn x low most (Some n) p q u w in let g = b.greatest (neg_ℤ m) (one_above m c l) in let h = c.high in omega (arith, ints)

  pub deep_above : (x low most : ℤ) → x ≡ neg_ℤ v → low ≡ neg_ℤ r.1 → most ≡ neg_ℤ r.0 → t.high ≤ℤ pos (2 ^ 64) → IsBoundFor x t.exponent s low most None → IsAbove t f v None
  deep_above x low most p q u short w m c l = let b = turn x low most None p q u w in let g = b (neg_ℤ m) (one_above m c l) in let h = c.high in omega (arith, ints)

-- ---- what goes out

abbrev IsUnsaid : SiteTag → Option ℤ → ℤ → Type 0
IsUnsaid t f v = (ws : List ℕ) → IsEncoding t.point v t.exponent f (Ok ws) → ⊥

-- nothing does where there is no next number
none_out : (fit : Fit) (t : SiteTag) (f : Option ℤ) (v : ℤ) → IsUnsaid t f v → IsNext fit t f v None → (n : ℤ) → GoesOutBy fit t f v n → ⊥
none_out fits.Exact t f v unsaid next n goes = let c = goes.0 in unsaid c.words (subst (λ m. IsEncoding t.point m t.exponent f (Ok c.words)) goes.1 c.encoded)
none_out fits.Down t f v unsaid next n goes = next n goes.said goes.below
none_out fits.Up t f v unsaid next n goes = next n goes.said goes.above

pub none_next : (t : SiteTag) (f : Option ℤ) (v : ℤ) → IsUnsaid t f v → IsNext t.fit t f v None → (n : ℤ) → GoesOutBy t.fit t f v n → ⊥
none_next t = none_out t.fit t

-- the next number does, where it has words
some_out : (fit : Fit) (t : SiteTag) (f : Option ℤ) (v n : ℤ) → t.low ≤ℤ v → v ≤ℤ t.high → IsNext fit t f v (Some n) → (ws : List ℕ) → IsEncoding t.point n t.exponent f (Ok ws) → GoesOutBy fit t f v n
some_out fits.Exact t f v n low high next ws words = absurd (cc)
some_out fits.Down t f v n low high next ws words = let b = next.below in record {
  said = record { words = ws; encoded = words; low = next.low; high = omega (arith, ints) };
  below = b;
  greatest = next.greatest;
}
some_out fits.Up t f v n low high next ws words = let b = next.above in record {
  said = record { words = ws; encoded = words; low = omega (arith, ints); high = next.high };
  above = b;
  least = next.least;
}

pub some_next : (t : SiteTag) (f : Option ℤ) (v n : ℤ) → t.low ≤ℤ v → v ≤ℤ t.high → IsNext t.fit t f v (Some n) → (ws : List ℕ) → IsEncoding t.point n t.exponent f (Ok ws) → GoesOutBy t.fit t f v n
some_next t = some_out t.fit t

-- and nothing does where it has none
unsaid_out : (fit : Fit) (t : SiteTag) (f : Option ℤ) (v n : ℤ) → IsNext fit t f v (Some n) → (fault : Unencodable) → IsEncoding t.point n t.exponent f (Err fault) → (m : ℤ) → GoesOutBy fit t f v m → ⊥
unsaid_out fits.Exact t f v n next fault words m goes = cc
unsaid_out fits.Down t f v n next fault words m goes = let c = next.said m goes.said goes.below in not_both t.point n t.exponent f c.words fault c.encoded words
unsaid_out fits.Up t f v n next fault words m goes = let c = next.said m goes.said goes.above in not_both t.point n t.exponent f c.words fault c.encoded words

pub unsaid_next : (t : SiteTag) (f : Option ℤ) (v n : ℤ) → IsNext t.fit t f v (Some n) → (fault : Unencodable) → IsEncoding t.point n t.exponent f (Err fault) → (m : ℤ) → GoesOutBy t.fit t f v m → ⊥
unsaid_next t = unsaid_out t.fit t

-- a number that has words goes out itself
out_itself : (fit : Fit) (t : SiteTag) (f : Option ℤ) (v : ℤ) → t.low ≤ℤ v → v ≤ℤ t.high → (ws : List ℕ) → IsEncoding t.point v t.exponent f (Ok ws) → GoesOutBy fit t f v v
out_itself fits.Exact t f v low high ws words = (record { words = ws; encoded = words; low = low; high = high }, refl)
out_itself fits.Down t f v low high ws words = record { said = record { words = ws; encoded = words; low = low; high = high }; below = omega (arith, ints); greatest = λ m c l. l }
out_itself fits.Up t f v low high ws words = record { said = record { words = ws; encoded = words; low = low; high = high }; above = omega (arith, ints); least = λ m c l. l }

pub itself : (t : SiteTag) (f : Option ℤ) (v : ℤ) → t.low ≤ℤ v → v ≤ℤ t.high → (ws : List ℕ) → IsEncoding t.point v t.exponent f (Ok ws) → GoesOutBy t.fit t f v v
itself t = out_itself t.fit t

-- what goes out in its place, or the cause why nothing does
pub in_its_place : (t : SiteTag) (f : Option ℤ) (v : ℤ) (fault : Unencodable) (o : Option SaidNumber) (r : Result SaidNumber Unencodable) → IsEncoding t.point v t.exponent f (Err fault) → IsInPlace t f v o → r ≡ ok_or o fault → IsOutgoing t f v r
in_its_place t f v fault None r words place e = subst (IsOutgoing t f v) (sym e) (record { unsaid = words; none = place })
in_its_place t f v fault (Some out) r words place e = subst (IsOutgoing t f v) (sym e) place

-- one number does at most
one_out : (fit : Fit) (t : SiteTag) (f : Option ℤ) (v m n : ℤ) → GoesOutBy fit t f v m → GoesOutBy fit t f v n → m ≡ n
one_out fits.Exact t f v m n h l = h.1 ∙ sym l.1
one_out fits.Down t f v m n h l = let a = h.greatest n l.said l.below in let b = l.greatest m h.said h.below in omega (arith, ints)
one_out fits.Up t f v m n h l = let a = h.least n l.said l.above in let b = l.least m h.said h.above in omega (arith, ints)

pub one_goes_out : (t : SiteTag) (f : Option ℤ) (v m n : ℤ) → GoesOutBy t.fit t f v m → GoesOutBy t.fit t f v n → m ≡ n
one_goes_out t = one_out t.fit t

-- its words are those that say it
out_said : (fit : Fit) (t : SiteTag) (f : Option ℤ) (v n : ℤ) → GoesOutBy fit t f v n → CanSay t f n
out_said fits.Exact t f v n h = h.0
out_said fits.Down t f v n h = h.said
out_said fits.Up t f v n h = h.said

pub goes_said : (t : SiteTag) (f : Option ℤ) (v n : ℤ) → GoesOutBy t.fit t f v n → CanSay t f n
goes_said t = out_said t.fit t

pub exact_out : (fit : Fit) (t : SiteTag) (f : Option ℤ) (v n : ℤ) → fit ≡ fits.Exact → GoesOutBy fit t f v n → n ≡ v
exact_out fits.Exact t f v n e h = h.1
exact_out fits.Down t f v n e h = cc
exact_out fits.Up t f v n e h = cc
