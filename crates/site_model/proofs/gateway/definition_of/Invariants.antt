use Rattle.std.proofs.Common.{◌≡◌, drop, option_map, None}
use Rattle.site_model.specs.Gateway.{latest}
use Rattle.site_model.proofs.gateway.definition_of.Given as goal

-- what the later definitions say after what was found so far
abbrev pub invariant-loop-def : goal.invariant-loop-def
invariant-loop-def l = latest l.id None l.defs ≡ latest l.id (option_map (λ d. d.now) l.found) (drop l.def-index l.defs)
