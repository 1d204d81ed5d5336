-- The time of day, and a text by a few digits. That a time is written so is ISO 8601's; what stands where there is none, and
-- how many digits are told, is this project's.
use Rattle.std.specs.Prelude.{◌≡◌, ◌≤◌, ◌<◌, ◌*◌, ◌++◌, ℕ, pos, List, take, Option, Some, None, codes}
use Rattle.hex.specs.Hex.{encode_lower}
use Rattle.jiff.specs.Words.{civil_nanos, iso_datetime_text}
use Rattle.jiff.specs.Types.{DateTime}
use Rattle.sha2.specs.Sha256.{sha256}
use Rattle.service_texts.specs.declared.clock_times.Times.{Times}
use Rattle.service_texts.specs.declared.clock_times.Times.TheVariants.{Seconds, Utc}

-- the first twelve digits of the hexadecimal spelling of a text's SHA-256
abbrev pub digits : List ℕ → List ℕ
digits text = take 12 (encode_lower (sha256 text))

-- a text is the date and the time that a clock in UTC shows so many seconds after 1970-01-01T00:00:00Z, to the second, and Z
abbrev pub IsInstant : ℕ → List ℕ → Type 0
IsInstant seconds text = (shown : DateTime) × (civil_nanos shown ≡ pos (seconds * 1000000000)) × (text ≡ iso_datetime_text shown ++ codes "Z")

-- the time of day of so many seconds; a line where they aren't known, or are past 9999-12-30T22:00:00Z
abbrev pub IsTimeOfDay : Option ℕ → List ℕ → Type 0
IsTimeOfDay None text = text ≡ codes "-"
IsTimeOfDay (Some seconds) text = (seconds ≤ 253402207200 → IsInstant seconds text) × (253402207200 < seconds → text ≡ codes "-")

-- a line after its time
abbrev pub timed : (time line : List ℕ) → List ℕ
timed time line = time ++ codes " " ++ line ++ codes "\n"

-- a text is a line after the time of day of so many seconds
abbrev pub IsTimed : Option ℕ → (line text : List ℕ) → Type 0
IsTimed seconds line text = (time : List ℕ) × IsTimeOfDay seconds time × (text ≡ timed time line)

-- the word that asks for a time of lines
abbrev pub times_word : Times → List ℕ
times_word Seconds = codes "seconds"
times_word Utc = codes "utc"
