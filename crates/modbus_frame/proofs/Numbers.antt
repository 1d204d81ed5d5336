-- 16-bit numbers and their two bytes.
use Rattle.std.proofs.Common.{◌≡◌, ℕ, ◌+◌, ◌-◌, ◌*◌, ◌/◌, ◌%◌, ◌<◌, List, [], ◌∷◌, ◌++◌, length, suc, ap, ◌∙◌, arith, refl}
use Rattle.modbus_frame.specs.Bytes.{AreBytes, number, number_bytes, word_bytes, words_of}

-- a number is what its bytes stand for
pub number-number_bytes : (n : ℕ) → number (n / 256) (n % 256) ≡ n
number-number_bytes n = omega arith

-- two bytes are those of their number
pub number_bytes-number : (high low : ℕ) → low < 256 → number_bytes (number high low) ≡ high ∷ low ∷ []
number_bytes-number high low h =
    let upper : (256 * high + low) / 256 ≡ high = omega arith in
    let lower : (256 * high + low) % 256 ≡ low = omega arith in
    rw (upper, lower) refl

pub length-word_bytes : (words : List ℕ) → length (word_bytes words) ≡ 2 * length words
length-word_bytes [] = refl
length-word_bytes (word ∷ words) = omega (arith, length-word_bytes words)

-- registers are what their bytes stand for
pub words_of-word_bytes : (words : List ℕ) → words_of (word_bytes words) ≡ words
words_of-word_bytes [] = refl
words_of-word_bytes (word ∷ words) = rw (number-number_bytes word, words_of-word_bytes words) refl

pub length-words_of : (bytes : List ℕ) (n : ℕ) → length bytes ≡ 2 * n → length (words_of bytes) ≡ n
length-words_of [] n even = omega arith
length-words_of (_ ∷ []) n even = absurd (omega arith)
length-words_of (high ∷ low ∷ bytes) n even =
    let fewer = length-words_of bytes (n - 1) (omega arith) in omega arith

-- bytes in pairs are those of the registers that they stand for
pub word_bytes-words_of : (bytes : List ℕ) (n : ℕ) → AreBytes bytes → length bytes ≡ 2 * n → word_bytes (words_of bytes) ≡ bytes
word_bytes-words_of [] n fit even = refl
word_bytes-words_of (_ ∷ []) n fit even = absurd (omega arith)
word_bytes-words_of (high ∷ low ∷ bytes) n fit even =
    let others = word_bytes-words_of bytes (n - 1) (λ k. fit (suc (suc k))) (omega arith) in
    ap (λ l. l ++ word_bytes (words_of bytes)) (number_bytes-number high low (fit 1)) ∙ ap (λ l. high ∷ low ∷ l) others
