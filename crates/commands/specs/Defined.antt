-- The model definitions of a run: those that are shipped, and after them those that are handed in as texts.
-- SunSpec Device Information Model Specification, model definitions.
use Rattle.std.specs.Prelude.{◌≡◌, ◌⊎◌, ℕ, List, [], ◌∷◌, ◌++◌, map}
use Rattle.model_defs.specs.declared.fault.DefFault.{DefFault}
use Rattle.model_defs.specs.declared.model.ModelDef.{ModelDef}
use Rattle.model_defs.specs.Definition.{Breaks, IsRead}
use Rattle.model_defs.specs.Shipped.{shipped_texts}

-- each of the texts is a definition, and stands after those before it
abbrev pub AreRead : List (List ℕ) → List ModelDef → List ModelDef → Type 0
AreRead [] before models = models ≡ before
AreRead (text ∷ texts) before models = (model : ModelDef) × IsRead text model × AreRead texts (before ++ model ∷ []) models

-- the first text that is no definition, and why
abbrev pub IsFirstBroken : List (List ℕ) → DefFault → Type 0
IsFirstBroken [] fault = ⊥
IsFirstBroken (text ∷ texts) fault = Breaks text fault ⊎ ((model : ModelDef) × IsRead text model × IsFirstBroken texts fault)

-- the shipped texts, and after them those that are handed in
unfoldable pub all_texts : List (List ℕ) → List (List ℕ)
all_texts texts = map (λ model. model.1) shipped_texts ++ texts

-- the definitions of a run, in order, of which the last one of an ID counts
abbrev pub AreDefined : List (List ℕ) → List ModelDef → Type 0
AreDefined texts models = AreRead (all_texts texts) [] models

-- the first of all texts of a run that is no definition, and why
abbrev pub IsUndefined : List (List ℕ) → DefFault → Type 0
IsUndefined texts fault = IsFirstBroken (all_texts texts) fault

-- they hang on the texts that are handed in alone
abbrev pub TextsDefineOneList : Type 0
TextsDefineOneList = (texts : List (List ℕ)) (a b : List ModelDef) → AreDefined texts a → AreDefined texts b → a ≡ b
