-- A number has one encoding at most, and its words read back as it.
use Rattle.std.proofs.Common.{◌≡◌, ℕ, List, ℤ, pos, Option, Some, None, Result, Ok, Err, refl, sym, subst, ◌∙◌}
use Rattle.point_types.specs.declared.kind.Kind.{Kind}
use Rattle.point_types.specs.declared.encoding.Unencodable.{Unencodable}
use Rattle.point_types.specs.declared.encoding.Unencodable.TheVariants as unencodable
use Rattle.point_types.specs.Point.{StandsFor, value_of}
use Rattle.point_types.specs.Reading.{IsScaled, factor_of}
use Rattle.point_types.specs.Encoding.{Encodes, EncodesBy, IsEncoding}
use Rattle.point_types.specs.Laws.{CanHold}
use Rattle.point_types.proofs.Spellings.{at_most_one_spelling, has_words}
use Rattle.point_types.proofs.Uniqueness.{scaled_one}

-- the raw number is determined
raw_one : (v s e raw other : ℤ) → IsScaled raw s e v → IsScaled other s e v → raw ≡ other
raw_one v s e raw other h k = scaled_one v e s raw other (sym h) (sym k)

ok_same : {ws us : List ℕ} → ws ≡ us → ◌≡◌ {A = Result (List ℕ) Unencodable} (Ok ws) (Ok us)
ok_same p = cc

one_encodes : (k : Kind) (v s e : ℤ) (r t : Result (List ℕ) Unencodable) → Encodes k v s e r → Encodes k v s e t → r ≡ t
one_encodes k v s e (Ok ws) (Ok us) h l = ok_same (at_most_one_spelling k ws us l.0 (subst (StandsFor k ws) (raw_one v s e h.0 l.0 h.2 l.2) h.1) l.1)
one_encodes k v s e (Ok ws) (Err unencodable.Inexact) h l = absurd (l h.0 h.2)
one_encodes k v s e (Ok ws) (Err unencodable.OutOfType) h l = absurd (l.2 ws (subst (StandsFor k ws) (raw_one v s e h.0 l.0 h.2 l.1) h.1))
one_encodes k v s e (Err unencodable.Inexact) (Ok us) h l = absurd (h l.0 l.2)
one_encodes k v s e (Err unencodable.Inexact) (Err unencodable.Inexact) h l = refl
one_encodes k v s e (Err unencodable.Inexact) (Err unencodable.OutOfType) h l = absurd (h l.0 l.1)
one_encodes k v s e (Err unencodable.OutOfType) (Ok us) h l = absurd (h.2 us (subst (StandsFor k us) (raw_one v s e l.0 h.0 l.2 h.1) l.1))
one_encodes k v s e (Err unencodable.OutOfType) (Err unencodable.Inexact) h l = absurd (l h.0 h.1)
one_encodes k v s e (Err unencodable.OutOfType) (Err unencodable.OutOfType) h l = refl
one_encodes k v s e (Err unencodable.BadScale) t h l = absurd h
one_encodes k v s e r (Err unencodable.BadScale) h l = absurd l

pub at_most_one_encoding : (k : Kind) (v e : ℤ) (f : Option ℤ) (r t : Result (List ℕ) Unencodable) → IsEncoding k v e f r → IsEncoding k v e f t → r ≡ t
at_most_one_encoding k v e f r t h l = go (factor_of f) h l
  where
    go : (g : Option ℤ) → EncodesBy k v e g r → EncodesBy k v e g t → r ≡ t
    go None h' l' = h' ∙ sym l'
    go (Some s) h' l' = one_encodes k v s e r t h' l'

same_scale : (raw v : ℤ) → IsScaled raw (pos 0) (pos 0) v → raw ≡ v
same_scale raw v h = scaled_one raw (pos 0) (pos 0) raw v refl h

pub round_trip : (k : Kind) (v : ℤ) (r : Result (List ℕ) Unencodable) → CanHold k v → Encodes k v (pos 0) (pos 0) r → (ws : List ℕ) × (r ≡ Ok ws) × (value_of k ws ≡ Some v)
round_trip k v (Ok ws) h i = (ws, refl, subst (λ (z : ℤ). value_of k ws ≡ Some z) (same_scale i.0 v i.2) i.1.value)
round_trip k v (Err unencodable.BadScale) h i = absurd i
round_trip k v (Err unencodable.Inexact) h i = absurd (i v refl)
round_trip k v (Err unencodable.OutOfType) h i = let w = has_words k v h in absurd (i.2 w.0 (subst (StandsFor k w.0) (sym (same_scale i.0 v i.1)) w.1))
