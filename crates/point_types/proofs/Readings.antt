-- From a number at another power of ten to the reading.
use Rattle.std.proofs.Common.{◌≡◌, ◌⊎◌, inl, inr, ℤ, ◌≤ℤ◌, ◌<ℤ◌, Option, Some, FitsSigned, sym, subst, arith}
use Rattle.std.specs.Int.{w64}
use Rattle.std.proofs.lemmas.Int.{ints}
use Rattle.point_types.specs.declared.reading.Cause.TheVariants as cause
use Rattle.point_types.specs.declared.reading.Reading.{Reading}
use Rattle.point_types.specs.declared.reading.Reading.TheVariants as reading
use Rattle.point_types.specs.Reading.{Reads, ReadsBy, IsScaled, IsScaledDown}
use Rattle.point_types.specs.Rescaling.{LiesAbove, IsBeyond, IsInRange}
use Rattle.point_types.proofs.Powers.{not_between, down_whole}

-- the factor is one
by_factor : (Is : (raw s e n : ℤ) → Type 0) (raw s e low high : ℤ) (f : Option ℤ) (r : Reading) → Some s ≡ f → Reads (Is raw s e) low high r → ReadsBy Is raw f e low high r
by_factor Is raw s e low high f r e' h = subst (λ (g : Option ℤ). ReadsBy Is raw g e low high r) e' h

in_reads : (Is : ℤ → Type 0) (low high n : ℤ) (r : Reading) → Is n → IsInRange n low high r → Reads Is low high r
in_reads Is low high n (reading.Value m) i h = (subst Is (sym h.0) i, subst (λ (k : ℤ). low ≤ℤ k) (sym h.0) h.1, subst (λ (k : ℤ). k ≤ℤ high) (sym h.0) h.2)
in_reads Is low high n (reading.Default m c) i h = absurd (cc (h.0))
in_reads Is low high n (reading.Absent c) i h = subst (Reads Is low high) (sym h.0) (n, i, h.1)

pub whole_reads : (Is : (raw s e n : ℤ) → Type 0) (raw s e low high n : ℤ) (f : Option ℤ) (r : Reading) → Some s ≡ f → Is raw s e n → IsInRange n low high r → ReadsBy Is raw f e low high r
whole_reads Is raw s e low high n f r e' i h = by_factor Is raw s e low high f r e' (in_reads (Is raw s e) low high n r i h)

pub between_reads : (raw s e low high n : ℤ) (f : Option ℤ) → Some s ≡ f → LiesAbove raw s e n → ReadsBy IsScaled raw f e low high (reading.Absent cause.Inexact)
between_reads raw s e low high n f e' h = by_factor IsScaled raw s e low high f (reading.Absent cause.Inexact) e' (not_between raw s e n h)

-- what leaves 128 bits lies outside each range of 64
outside : (low high n : ℤ) → FitsSigned w64 low → FitsSigned w64 high → IsBeyond n → (n <ℤ low) ⊎ (high <ℤ n)
outside low high n f g (inl h) = inl (omega (arith, ints))
outside low high n f g (inr h) = inr (omega (arith, ints))

pub beyond_reads_down : (raw s e low high n : ℤ) (f : Option ℤ) → Some s ≡ f → FitsSigned w64 low → FitsSigned w64 high → IsScaled raw s e n → IsBeyond n → ReadsBy IsScaledDown raw f e low high (reading.Absent cause.OutOfRange)
beyond_reads_down raw s e low high n f e' l g i h = by_factor IsScaledDown raw s e low high f (reading.Absent cause.OutOfRange) e' (n, down_whole raw s e n i, outside low high n l g h)
