-- Lines as JSON (RFC 8259). The keys are this project's.
use Rattle.std.specs.Prelude.{ℕ, nat_lt, Bool, true, false, List, [], ◌∷◌, ◌++◌, codes, if◌then◌else◌}
use Rattle.std.specs.Fmt.{decimal}
use Rattle.serde_json.specs.Data.{string}
use Rattle.serde_json.specs.Written.{compact_text}
use Rattle.history.specs.Events.{Line}

-- a text as JSON, letter by letter
abbrev pub quoted : List ℕ → List ℕ
quoted text = compact_text (string text)

abbrev pub line_text : Line → List ℕ
line_text line = codes "{\"n\":" ++ decimal line.number ++ codes ",\"time\":" ++ quoted line.time ++ codes ",\"text\":" ++ quoted line.text ++ codes "}"

-- the texts of those lines that come after a number
abbrev pub texts_after : ℕ → List Line → List (List ℕ)
texts_after number [] = []
texts_after number (line ∷ lines) = if nat_lt number line.number then line_text line ∷ texts_after number lines else texts_after number lines

abbrev pub comma_if : Bool → List ℕ
comma_if true = codes ","
comma_if false = []

-- texts with commas between them, and one before them where others stand there
abbrev pub joined : Bool → List (List ℕ) → List ℕ
joined later [] = []
joined later (text ∷ texts) = comma_if later ++ text ++ joined true texts

-- whether texts stand there, after these too
abbrev pub is_later : Bool → List (List ℕ) → Bool
is_later later [] = later
is_later later (text ∷ texts) = true
