-- Bytes, and 16-bit numbers as two of them, the most significant first (Modbus Application Protocol V1.1b3, section 4.2).
use Rattle.std.specs.Prelude.{ℕ, ◌+◌, ◌*◌, ◌/◌, ◌%◌, ◌<◌, List, [], ◌∷◌, slice_index}
use Rattle.std.specs.List.{flat_map}

-- each element is a byte
abbrev pub AreBytes : List ℕ → Type 0
AreBytes bytes = (k : ℕ) → slice_index bytes k < 256

-- the number that two bytes stand for
abbrev pub number : ℕ → ℕ → ℕ
number high low = 256 * high + low

-- the two bytes of a number
abbrev pub number_bytes : ℕ → List ℕ
number_bytes n = n / 256 ∷ n % 256 ∷ []

-- the bytes of a list of registers
abbrev pub word_bytes : List ℕ → List ℕ
word_bytes words = flat_map number_bytes words

-- the registers that a list of bytes stands for, two bytes each
abbrev pub words_of : List ℕ → List ℕ
words_of (high ∷ low ∷ bytes) = number high low ∷ words_of bytes
words_of (_ ∷ []) = []
words_of [] = []
