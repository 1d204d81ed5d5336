use Rattle.std.proofs.Common.{map, string_bytes}
use Rattle.commands.proofs.Texts.{broken_behind_shipped, broken_shipped, by_both, told_of_fault}
use Rattle.commands.proofs.definitions.definitions.Goals as goal

pub returns-in_err-push_shipped-clause-refused : goal.returns-in_err-push_shipped-clause-refused
returns-in_err-push_shipped-clause-refused c =
    told_of_fault c.from_residual.result _ _ c.from_residual.ensures.1 (λ real. broken_shipped c.shipped_models.result.now (map string_bytes c.args.texts.now) _ c.shipped_models.ensures (c.in_err-push_shipped.ensures.refused real))

pub returns-in_err-push_definitions-clause-refused : goal.returns-in_err-push_definitions-clause-refused
returns-in_err-push_definitions-clause-refused c =
    told_of_fault c.from_residual-in_err-push_definitions.result _ _ c.from_residual-in_err-push_definitions.ensures.1 (λ real.
    broken_behind_shipped c.shipped_models.result.now (map string_bytes c.args.texts.now) _ _ _ c.shipped_models.ensures c.in_ok-push_shipped.ensures.read (c.in_err-push_definitions.ensures.refused real))

pub returns-clause-read : goal.returns-clause-read
returns-clause-read c = by_both c.shipped_models.result.now (map string_bytes c.args.texts.now) _ _ _ c.shipped_models.ensures c.new-models.ensures.items c.in_ok-push_shipped.ensures.read c.in_ok-push_definitions.ensures.read
