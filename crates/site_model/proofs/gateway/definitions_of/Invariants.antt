use Rattle.std.proofs.Common.{◌≡◌, drop, []}
use Rattle.toml.specs.View.{items_view}
use Rattle.site_model.specs.Gateway.{definitions_behind}
use Rattle.site_model.proofs.gateway.definitions_of.Given as goal

-- what the later IDs give after the definitions so far
abbrev pub invariant-loop-id : goal.invariant-loop-id
invariant-loop-id l = definitions_behind l.defs [] (items_view l.ids) ≡ definitions_behind l.defs l.models (items_view (drop l.id-index l.ids))
