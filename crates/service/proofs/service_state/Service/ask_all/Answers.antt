use Rattle.std.proofs.Common.{rules}
use Rattle.service.proofs.service_state.Service.ask_all.Goals as goal

pub loop-link-preserved : goal.loop-link-preserved
loop-link-preserved c =
    let so_far = c.loop-link.invariant in (
      search rules,
      (λ first within may has from before. c.ask.ensures.stands first (so_far.4 first within) may has from (so_far.1 first within may has from before)),
      search rules,
      search rules,
      (λ first within. c.ask.ensures.held first (so_far.4 first within)),
      (λ held first within before. c.ask.ensures.together held first (so_far.4 held within) (so_far.5 held first within before)),
    )
