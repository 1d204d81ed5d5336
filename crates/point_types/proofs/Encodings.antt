-- From a number at another power of ten to the encoding.
use Rattle.std.proofs.Common.{◌≡◌, inl, inr, List, ℕ, ℤ, Option, Some, Result, Err, sym, subst, arith}
use Rattle.std.proofs.lemmas.Int.{ints}
use Rattle.point_types.specs.declared.kind.Kind.{Kind}
use Rattle.point_types.specs.declared.encoding.Unencodable.{Unencodable}
use Rattle.point_types.specs.declared.encoding.Unencodable.TheVariants as unencodable
use Rattle.point_types.specs.Encoding.{Encodes, EncodesBy, IsOutOfType}
use Rattle.point_types.specs.Reading.{IsScaled}
use Rattle.point_types.specs.Rescaling.{LiesAbove, IsBeyond}
use Rattle.point_types.proofs.Forms.{stands-small}
use Rattle.point_types.proofs.Powers.{not_between}

by_factor : (k : Kind) (v s e : ℤ) (f : Option ℤ) (r : Result (List ℕ) Unencodable) → Some s ≡ f → Encodes k v s e r → EncodesBy k v e f r
by_factor k v s e f r q h = subst (λ (g : Option ℤ). EncodesBy k v e g r) q h

pub between_encodes : (k : Kind) (v s e n : ℤ) (f : Option ℤ) → Some s ≡ f → LiesAbove v e s n → EncodesBy k v e f (Err unencodable.Inexact)
between_encodes k v s e n f q h = by_factor k v s e f (Err unencodable.Inexact) q (λ raw i. not_between v e s n h raw (sym i))

out-beyond : (k : Kind) (raw : ℤ) → IsBeyond raw → IsOutOfType k raw
out-beyond k raw (inl b) ws h = let s = stands-small k ws raw h in omega (arith, ints)
out-beyond k raw (inr b) ws h = let s = stands-small k ws raw h in omega (arith, ints)

pub beyond_encodes : (k : Kind) (v s e raw : ℤ) (f : Option ℤ) → Some s ≡ f → IsScaled v e s raw → IsBeyond raw → EncodesBy k v e f (Err unencodable.OutOfType)
beyond_encodes k v s e raw f q i h = by_factor k v s e f (Err unencodable.OutOfType) q (raw, sym i, out-beyond k raw h)
