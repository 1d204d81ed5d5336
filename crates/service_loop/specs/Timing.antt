-- By which time lines are told. No standard says what is printed; it is this project's.
use Rattle.std.specs.Prelude.{◌≡◌, ℕ, List, Option}
use Rattle.service_texts.specs.Lines.{stamped_line}
use Rattle.service_texts.specs.Starting.{IsTimed}
use Rattle.service_texts.specs.declared.clock_times.Times.{Times}
use Rattle.service_texts.specs.declared.clock_times.Times.TheVariants.{Seconds, Utc}

-- a text is a line after its time: the milliseconds since the start, or the seconds since 1970-01-01T00:00:00Z, where they
-- are known, as the time of day
abbrev pub IsLineAt : Times → ℕ → Option ℕ → (line text : List ℕ) → Type 0
IsLineAt Seconds now seconds line text = text ≡ stamped_line now line
IsLineAt Utc now seconds line text = IsTimed seconds line text
