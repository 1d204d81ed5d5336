use Rattle.std.proofs.Common.{List, drop, map, string_bytes}
use Rattle.model_defs.specs.declared.fault.DefFault.{DefFault}
use Rattle.model_defs.specs.declared.model.ModelDef.{ModelDef}
use Rattle.commands.specs.Defined.{AreRead, IsFirstBroken}
use Rattle.commands.proofs.definitions.push_definitions.Given as goal

-- whatever the texts that remain give, all of them give
abbrev pub invariant-loop-text : goal.invariant-loop-text
invariant-loop-text l =
    ((models : List ModelDef) → AreRead (map string_bytes (drop l.text-index l.texts)) l.models.items models → AreRead (map string_bytes l.texts) l.initial.models.items models)
    × ((fault : DefFault) → IsFirstBroken (map string_bytes (drop l.text-index l.texts)) fault → IsFirstBroken (map string_bytes l.texts) fault)
