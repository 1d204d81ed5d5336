-- The tree of a text that is TOML 1.0.
use Rattle.std.specs.Prelude.{◌≡◌, ℕ, List, Result, Ok, Err, None, Some}
use Rattle.toml.specs.Data.{Members, table}
use Rattle.toml.specs.Parse.{parse_document}
use Rattle.toml.specs.View.{view}
use Rattle.toml.specs.declared.value.Value.{Value}

-- the text is TOML, and this is its tree
abbrev pub IsTree : List ℕ → Value → Type 0
IsTree text tree = (members : Members) × (parse_document text ≡ Some members) × (view tree ≡ table members)

abbrev pub IsNoToml : List ℕ → Type 0
IsNoToml text = parse_document text ≡ None

-- what is kept of a text: its tree, or why it has none
abbrev pub IsKept : {E : Type 0} → List ℕ → Result Value E → Type 0
IsKept text (Ok tree) = IsTree text tree
IsKept text (Err e) = IsNoToml text
