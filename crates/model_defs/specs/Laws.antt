-- What is proved of definitions.
-- SunSpec Device Information Model Specification, model definitions in JSON.
use Rattle.std.specs.Prelude.{◌≡◌, ℕ, List}
use Rattle.model_defs.specs.declared.model.ModelDef.{ModelDef}
use Rattle.model_defs.specs.Definition.{IsRead}

-- a text is the definition of one model at most
abbrev pub TextsGiveOneModel : Type 0
TextsGiveOneModel = (text : List ℕ) (a b : ModelDef) → IsRead text a → IsRead text b → a ≡ b
