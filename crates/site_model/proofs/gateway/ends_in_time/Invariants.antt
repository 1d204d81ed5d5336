use Rattle.std.proofs.Common.{◌≡◌, ◌≤◌, ◌+◌, drop, sum_by}
use Rattle.site_model.specs.Gateway.{end_of_map}
use Rattle.site_model.proofs.gateway.ends_in_time.Given as goal

-- the registers so far and those of the later models
abbrev pub invariant-loop-model : goal.invariant-loop-model
invariant-loop-model l = (l.end ≤ 65800) × (l.end + sum_by (λ m. m.length + 2) (drop l.model-index l.models) ≡ end_of_map l.base l.models)
