-- The models whose definitions are shipped, and their texts.
-- SunSpec Device Information Model Specification: common, inverters, and the inverter controls.
use Rattle.std.specs.Prelude.{ℕ, ◌==◌, List, [], ◌∷◌, Option, option_map, find}
use Rattle.model_defs.specs.declared.models.common.TheConstants.{TEXT as common}
use Rattle.model_defs.specs.declared.models.inverter.TheConstants.{SINGLE_PHASE, SPLIT_PHASE, THREE_PHASE}
use Rattle.model_defs.specs.declared.models.nameplate.TheConstants.{TEXT as nameplate}
use Rattle.model_defs.specs.declared.models.settings.TheConstants.{TEXT as settings}
use Rattle.model_defs.specs.declared.models.status.TheConstants.{TEXT as status}
use Rattle.model_defs.specs.declared.models.controls.TheConstants.{TEXT as controls}
use Rattle.model_defs.specs.declared.models.storage.TheConstants.{TEXT as storage}

-- the ID of each with its text
abbrev pub shipped_texts : List (ℕ × List ℕ)
shipped_texts =
    (1, common.now)
    ∷ (101, SINGLE_PHASE.now)
    ∷ (102, SPLIT_PHASE.now)
    ∷ (103, THREE_PHASE.now)
    ∷ (120, nameplate.now)
    ∷ (121, settings.now)
    ∷ (122, status.now)
    ∷ (123, controls.now)
    ∷ (124, storage.now)
    ∷ []

-- the text of the one of that ID
abbrev pub shipped_text : ℕ → Option (List ℕ)
shipped_text id = option_map (λ model. model.1) (find (λ model. id == model.0) shipped_texts)
