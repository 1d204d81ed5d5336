use Rattle.std.proofs.Common.{inl, refl}
use Rattle.service.proofs.service_state.Service.lose_if_bad.Goals as goal

pub returns-else-is_bad-clause-counts : goal.returns-else-is_bad-clause-counts
returns-else-is_bad-clause-counts c k = inl refl
