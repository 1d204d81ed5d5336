use Rattle.std.proofs.Common.{rules}
use Rattle.service.proofs.service_state.Service.forget_all.Goals as goal

pub loop-device-preserved : goal.loop-device-preserved
loop-device-preserved c =
    let so_far = c.loop-device.invariant in (
      search rules,
      (λ may from before. c.forget_if_at.ensures.stands may from (so_far.1 may from before)),
      search rules,
      search rules,
      search rules,
      (λ first within. c.forget_if_at.ensures.held first (so_far.5 first within)),
      (λ held first within before. c.forget_if_at.ensures.together held first (so_far.5 held within) (so_far.6 held first within before)),
    )
