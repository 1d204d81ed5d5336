-- The point of a name, looked up by its number.
use Rattle.std.proofs.Common.{◌≡◌, ℕ, List, [], ◌∷◌, Option, None, Some, option_map, IfSome, sym, ap}
use Rattle.std.proofs.lemmas.List.Quantifiers.{position-Some}
use Rattle.std.proofs.lemmas.Option.{slice_get-get_or}
use Rattle.std.proofs.lemmas.Slice.Eq.{bytes_eq-Decides}
use Rattle.std.specs.List.{position, slice_get}
use Rattle.std.specs.Str.{bytes_eq}
use Rattle.model_defs.specs.declared.point.Point.{Point}

named_at : (name : List ℕ) (points : List Point) (i : ℕ) → position (λ p. bytes_eq p.name name) points ≡ Some i → option_map (λ p. p.name) (slice_get points i) ≡ Some name
named_at name [] i h = absurd (cc)
named_at name (x ∷ xs) i h =
    let s = position-Some (λ p. bytes_eq p.name name) (x ∷ xs) i x h in
    rw (slice_get-get_or (x ∷ xs) i x s.0) (ap Some ((bytes_eq-Decides _ name).0 s.1))

pub named_in : (name : List ℕ) (points : List Point) (o : Option ℕ) → o ≡ position (λ p. bytes_eq p.name name) points → IfSome o (λ i. option_map (λ p. p.name) (slice_get points i) ≡ Some name)
named_in name points None h = tt
named_in name points (Some i) h = named_at name points i (sym h)
