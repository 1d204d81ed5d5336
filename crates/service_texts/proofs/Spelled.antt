-- The front of a spelling.
use Rattle.std.proofs.Common.{◌≡◌, ◌≤◌, ◌∙◌, ℕ, List, [], ◌∷◌, length, take, refl, ap, arith}
use Rattle.hex.specs.Hex.{encode_lower, encode_with}
use Rattle.sha2.specs.Sha256.{sha256}
use Rattle.service_texts.specs.Starting.{digits}

-- the spelling of six bytes is the first twelve digits of all
pub six_are_twelve : (bytes : List ℕ) → 6 ≤ length bytes → encode_lower (take 6 bytes) ≡ take 12 (encode_lower bytes)
unfolding encode_with
six_are_twelve (a ∷ b ∷ c ∷ d ∷ e ∷ f ∷ rest) long = refl
six_are_twelve [] long = absurd (omega arith)
six_are_twelve (a ∷ []) long = absurd (omega arith)
six_are_twelve (a ∷ b ∷ []) long = absurd (omega arith)
six_are_twelve (a ∷ b ∷ c ∷ []) long = absurd (omega arith)
six_are_twelve (a ∷ b ∷ c ∷ d ∷ []) long = absurd (omega arith)
six_are_twelve (a ∷ b ∷ c ∷ d ∷ e ∷ []) long = absurd (omega arith)

-- a text's digits, from its digest's first six bytes
pub digits_shown : (text digest front shown : List ℕ) → 6 ≤ length digest → digest ≡ sha256 text → front ≡ take 6 digest → shown ≡ encode_lower front → shown ≡ digits text
digits_shown text digest front shown long is_digest is_front is_shown =
    is_shown ∙ ap encode_lower is_front ∙ six_are_twelve digest long ∙ ap (λ bytes. take 12 (encode_lower bytes)) is_digest
