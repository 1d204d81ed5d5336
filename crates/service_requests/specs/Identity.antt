-- Which device it is, by the registers of its common model (SunSpec Device Information Model Specification, model 1, and its strings).
use Rattle.std.specs.Prelude.{ℕ, ◌==◌, Bool, true, false, ◌&&◌, List, [], ◌∷◌, length, take, drop, Option, None, Some, if◌then◌else◌}
use Rattle.std.specs.Str.{bytes_eq}
use Rattle.modbus_frame.specs.Bytes.{word_bytes}
use Rattle.service_requests.specs.declared.identity.Identity.{Identity}

-- ---- texts

-- a byte before a text; a blank before none is none
abbrev pub before : ℕ → List ℕ → List ℕ
before byte [] = if byte == 32 then [] else byte ∷ []
before byte (b ∷ more) = byte ∷ b ∷ more

-- the text that bytes are: up to the first zero, without the blanks at its end
abbrev pub text_of : List ℕ → List ℕ
text_of [] = []
text_of (b ∷ bytes) = if b == 0 then [] else before b (text_of bytes)

-- registers have the same text
abbrev pub same_text : List ℕ → List ℕ → Bool
same_text first second = bytes_eq (text_of (word_bytes first)) (text_of (word_bytes second))

-- ---- what a device says

-- the text of 16 registers from this one on is that, if any
abbrev pub is_text : Option (List ℕ) → List ℕ → ℕ → Bool
is_text None words start = true
is_text (Some text) words start = same_text text (take 16 (drop start words))

-- The registers of a common model, from its ID on, say it: the ID is 1, the maker stands 2 registers after it, the model 18 and the
-- serial number 50.
abbrev pub is_said_by : Identity → List ℕ → Bool
is_said_by identity (id ∷ l ∷ texts) = (id == 1) && ((length texts == 64) && (is_text identity.maker texts 0 && (is_text identity.model texts 16 && is_text identity.serial texts 48)))
is_said_by identity (id ∷ []) = false
is_said_by identity [] = false
