use Rattle.std.proofs.Common.{◌≡◌, ◌+◌, ◌≤◌, sum_by}
use Rattle.model_defs.specs.Definition.{all_registers}
use Rattle.model_defs.specs.Descriptions.{descriptions_view}
use Rattle.model_defs.proofs.placing.total.Given as goal

-- the registers so far and those that remain
abbrev pub invariant-loop-description : goal.invariant-loop-description
invariant-loop-description l =
    (l.total ≤ 125) × (l.total + sum_by (λ d. d.size) l.description-iterator ≡ all_registers (descriptions_view l.points.entries))
