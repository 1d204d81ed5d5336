-- Words of a kind, and the registers of a text.
use Rattle.std.proofs.Common.{◌≡◌, ℕ, zero, suc, ◌+◌, ◌-◌, ◌<◌, List, [], ◌∷◌, ◌++◌, length, take, Option, Ok, Err, sym, ap, ◌∙◌, arith, append_assoc}
use Rattle.std.specs.Prelude.{ℤ, slice_set}
use Rattle.std.proofs.lemmas.List.{take_more_set, length-set}
use Rattle.point_types.specs.declared.kind.Kind.{Kind}
use Rattle.point_types.specs.declared.encoding.Unencodable.{Unencodable}
use Rattle.point_types.specs.Encoding.{IsEncoding}
use Rattle.point_types.proofs.RoundTrips.{at_most_one_encoding}
use Rattle.gateway.specs.served.ServedImage.{text_words, first_word, behind_word}

-- words and a refusal don't go together
pub not_both : (k : Kind) (v e : ℤ) (f : Option ℤ) (fault : Unencodable) → IsEncoding k v e f (Err fault) → (ws : List ℕ) → IsEncoding k v e f (Ok ws) → ⊥
not_both k v e f fault h ws l = let q = at_most_one_encoding k v e f (Ok ws) (Err fault) l h in cc

-- one register more of a text
text_more : (n : ℕ) (text : List ℕ) → 0 < n → text_words n text ≡ first_word text ∷ text_words (n - 1) (behind_word text)
text_more zero text some = absurd (omega arith)
text_more (suc n) text some = let e : n ≡ suc n - 1 = omega arith in ap (λ k. first_word text ∷ text_words k (behind_word text)) e

pub text_put : (into rest : List ℕ) (i : ℕ) → i < length into →
    take i into ++ text_words (length into - i) rest ≡ take (i + 1) (slice_set into i (first_word rest)) ++ text_words (length (slice_set into i (first_word rest)) - (i + 1)) (behind_word rest)
text_put into rest i h =
    let e : length into - i - 1 ≡ length into - (i + 1) = omega (arith, h) in
    rw (take_more_set into i (first_word rest) h) (rw (length-set into i (first_word rest)) (rw (← e)
    (ap (λ l. take i into ++ l) (text_more (length into - i) rest (omega (arith, h))) ∙ sym (append_assoc (take i into) (first_word rest ∷ []) (text_words (length into - i - 1) (behind_word rest))))))
