use Rattle.std.proofs.Common.{List, drop, map}
use Rattle.model_defs.specs.declared.fault.DefFault.{DefFault}
use Rattle.model_defs.specs.declared.model.ModelDef.{ModelDef}
use Rattle.commands.specs.Defined.{AreRead, IsFirstBroken}
use Rattle.commands.proofs.definitions.push_shipped.Given as goal

-- whatever the models that remain give, all of them give
abbrev pub invariant-loop-model : goal.invariant-loop-model
invariant-loop-model l =
    ((models : List ModelDef) → AreRead (map (λ model. model.1.now) (drop l.model-index l.shipped)) l.models.items models → AreRead (map (λ model. model.1.now) l.shipped) l.initial.models.items models)
    × ((fault : DefFault) → IsFirstBroken (map (λ model. model.1.now) (drop l.model-index l.shipped)) fault → IsFirstBroken (map (λ model. model.1.now) l.shipped) fault)
