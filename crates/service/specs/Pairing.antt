-- Which writes wait for others: an output that goes with another one is written only where its device has that one, by an
-- acknowledgement over the very connection. No standard says it; site files are this project's.
use Rattle.std.specs.Prelude.{◌≡◌, ◌==◌, ⊤, ℕ, nat_eq, Bool, true, false, List, map, Option, None, Some, option_and_then, slice_get}
use Rattle.std.specs.List.{position}
use Rattle.std.specs.Option.{option_map_or}
use Rattle.site_model.specs.declared.site.Site.{Site}
use Rattle.site_model.specs.Readings.{known_at}
use Rattle.site_model.specs.TagView.{companion_at}
use Rattle.service_parts.specs.declared.asked.Aim.{Aim}
use Rattle.service_parts.specs.declared.asked.Aim.TheVariants as aim
use Rattle.service.specs.declared.held_writes.HeldWrite.{HeldWrite}

-- ---- which outputs go with which

-- the output of the tag with this number
abbrev pub output_by : Site → (tag : ℕ) → Option ℕ
output_by site tag = position (λ number. number == tag) site.outs

-- the output of the tag that the tag with this number goes with, if any
abbrev pub companion_by : Site → (tag : ℕ) → Option ℕ
companion_by site tag = option_and_then (output_by site) (companion_at site.tags tag)

-- the output that this one goes with, if any
abbrev pub companion_of : Site → (output : ℕ) → Option ℕ
companion_of site output = option_and_then (companion_by site) (slice_get site.outs output)

-- the same of each output
abbrev pub companions_of : Site → List (Option ℕ)
companions_of site = map (companion_by site) site.outs

-- ---- what is had

-- Something of an output is, by an acknowledgement over the connection with this number. `Holds` says what is had of each output.
pub record IsHadOver (Holds : ℕ → HeldWrite → Type 0) (number output : ℕ) : Type 0 where
  pub write : HeldWrite
  pub has : Holds output write
  pub over : write.number ≡ number

abbrev pub IsHadIf : (Holds : ℕ → HeldWrite → Type 0) → (number : ℕ) → Option ℕ → Type 0
IsHadIf Holds number None = ⊤
IsHadIf Holds number (Some output) = IsHadOver Holds number output

-- ---- which requests go with what is had

-- Over the connection with this number: whatever reads; and a write of an output which goes with none, or with one that is had.
abbrev pub IsPaired : List (Option ℕ) → (Holds : ℕ → HeldWrite → Type 0) → (number : ℕ) → Aim → Type 0
IsPaired companions Holds number (aim.Output output) = IsHadIf Holds number (known_at companions output)
IsPaired companions Holds number (aim.Block want) = ⊤
IsPaired companions Holds number aim.Map = ⊤

-- ---- inner: the same as a question

abbrev pub is_had_over : List (Option HeldWrite) → (number output : ℕ) → Bool
is_had_over writes number output = option_map_or (λ (held : HeldWrite). nat_eq held.number number) (known_at writes output) false

abbrev pub is_had_if : List (Option HeldWrite) → (number : ℕ) → Option ℕ → Bool
is_had_if writes number None = true
is_had_if writes number (Some output) = is_had_over writes number output
