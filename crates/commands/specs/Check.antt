-- What `check` prints: that no scan of the program on the site can go wrong, with the most steps of a scan, or why not.
-- SunSpec Device Information Model Specification, model definitions; IEC 61131-3 edition 2, 3.2.
use Rattle.std.specs.Prelude.{◌≡◌, ◌⊎◌, ℕ, List, Option}
use Rattle.std.specs.Io.KnownBytes.{Appends}
use Rattle.il_assemble.specs.Meaning.{Program}
use Rattle.site_model.specs.declared.site.Site.{Site}
use Rattle.verifier.specs.Verified.{Acceptance}
use Rattle.commands.specs.Accepted.{Accepts, Refuses}
use Rattle.commands.specs.Sources.{AreTextsOf}
use Rattle.commands.specs.Told.{IsTold, Told, refused_with}
use Rattle.commands.specs.Report.{accepted_lines, no_memory_line}

-- the program is accepted for the site, and its budget is told
abbrev pub TellsAccepted : List ℕ → List ℕ → List (List ℕ) → Told → Type 0
TellsAccepted site program texts told =
    (s : Site) × (p : Program) × (a : Acceptance) × Accepts site program texts s p a × (told ≡ record { lines = accepted_lines a.budget; status = 0 })

abbrev pub TellsInputs : List ℕ → List ℕ → List (List ℕ) → Told → Type 0
TellsInputs site program texts told = TellsAccepted site program texts told ⊎ Refuses site program texts told

abbrev pub TellsCheck : List ℕ → List ℕ → List (List ℕ) → Told → Type 0
TellsCheck site program texts told = TellsInputs site program texts told ⊎ (told ≡ refused_with no_memory_line)

-- what `check` writes and its status, by the bytes of the writer before and after
abbrev pub IsCheck : List ℕ → List ℕ → List (List ℕ) → Option (List ℕ) → Option (List ℕ) → ℕ → Type 0
IsCheck site program texts old new status = (told : Told) × TellsCheck site program texts told × IsTold old new told status

-- `accepted` and this budget were printed for the site and the program of the texts, of which P holds
abbrev pub PrintsAccepted : List ℕ → List ℕ → List (List ℕ) → Option (List ℕ) → Option (List ℕ) → (Site → Program → Acceptance → Type 0) → Type 0
PrintsAccepted site program texts old new P =
    (s : Site) × (p : Program) × (a : Acceptance) × AreTextsOf site program texts s p a × Appends old new (accepted_lines a.budget) × P s p a
