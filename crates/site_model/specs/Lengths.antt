-- The lengths of the models that a site names: those of their definitions.
-- SunSpec Device Information Model Specification, models: the length counts the registers after ID and L.
use Rattle.std.specs.Prelude.{ℕ, pos, List, ◌++◌, map}
use Rattle.std.specs.Option.{option_map_or}
use Rattle.model_defs.specs.declared.model.ModelDef.{ModelDef}
use Rattle.site_model.specs.Gateway.{definition_of}
use Rattle.site_model.specs.Tagging.{Tag}

abbrev pub length_of_model : ModelDef → ℕ × ℕ
length_of_model m = (m.id, m.length)

abbrev pub defined_length : List ModelDef → ℕ → ℕ
defined_length defs model = option_map_or (λ d. d.length) (definition_of defs (pos model)) 0

abbrev pub length_of_tag : List ModelDef → Tag → ℕ × ℕ
length_of_tag defs t = (t.model, defined_length defs t.model)

-- the gateway's models, then those of the tags
abbrev pub lengths_of : List ModelDef → List ModelDef → List Tag → List (ℕ × ℕ)
lengths_of own defs tags = map length_of_model own ++ map (length_of_tag defs) tags
