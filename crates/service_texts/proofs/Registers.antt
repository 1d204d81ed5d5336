-- A text in registers.
use Rattle.std.proofs.Common.{◌≡◌, ℕ, zero, suc, ◌+◌, ◌-◌, ◌<◌, List, [], ◌∷◌, ◌++◌, length, take, sym, ap, ◌∙◌, arith, append_assoc}
use Rattle.std.specs.Prelude.{slice_set}
use Rattle.std.proofs.lemmas.List.{take_more_set, length-set}
use Rattle.gateway.specs.served.ServedImage.{text_words, first_word, behind_word}

-- one register more of a text
text_more : (n : ℕ) (text : List ℕ) → 0 < n → text_words n text ≡ first_word text ∷ text_words (n - 1) (behind_word text)
text_more zero text some = absurd (omega arith)
text_more (suc n) text some = let e : n ≡ suc n - 1 = omega arith in ap (λ k. first_word text ∷ text_words k (behind_word text)) e

pub text_put : (into rest : List ℕ) (i : ℕ) → i < length into →
    take i into ++ text_words (length into - i) rest ≡ take (i + 1) (slice_set into i (first_word rest)) ++ text_words (length (slice_set into i (first_word rest)) - (i + 1)) (behind_word rest)
text_put into rest i h =
    let e : length into - i - 1 ≡ length into - (i + 1) = omega (arith, h) in
    rw (take_more_set into i (first_word rest) h) (rw (length-set into i (first_word rest)) (rw (← e)
    (ap (λ l. take i into ++ l) (text_more (length into - i) rest (omega (arith, h))) ∙ sym (append_assoc (take i into) (first_word rest ∷ []) (text_words (length into - i - 1) (behind_word rest))))))
