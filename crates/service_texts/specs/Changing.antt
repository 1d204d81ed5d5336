-- Which set values change.
use Rattle.std.specs.Prelude.{◌≡◌, ◌<◌, ℤ, List, length, take, slice_index_or, slice_set, Option, Some, None}
use Rattle.service_texts.specs.declared.settings.Change.{Change}

-- A change is the first one from what was told to what is set, and then it is told too.
pub record IsFirst (told settings : List (Option ℤ)) (change : Change) (new : List (Option ℤ)) : Type 0 where
  pub within : change.tag < length told
  pub before : change.before ≡ slice_index_or told change.tag None
  pub after : change.after ≡ slice_index_or settings change.tag None
  pub other : change.before ≡ change.after → ⊥
  pub earlier : take change.tag told ≡ take change.tag settings
  pub now : new ≡ slice_set told change.tag change.after

-- the first change, or none, where what is set is what was told
abbrev pub IsNext : (told settings : List (Option ℤ)) → Option Change → List (Option ℤ) → Type 0
IsNext told settings (Some change) new = IsFirst told settings change new
IsNext told settings None new = (settings ≡ told) × (new ≡ told)
