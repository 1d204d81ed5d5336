use Rattle.service.proofs.service_state.Service.ask_next.Goals as goal

pub returns-then-ask_for-clause-held : goal.returns-then-ask_for-clause-held
returns-then-ask_for-clause-held c = λ first within. c.ask_for.ensures.held first (c.ask_before_reads.ensures.held first within)

pub returns-then-ask_for-clause-stands : goal.returns-then-ask_for-clause-stands
returns-then-ask_for-clause-stands c = λ first within may has from before. c.ask_for.ensures.stands first (c.ask_before_reads.ensures.held first within) may has from (c.ask_before_reads.ensures.stands first within may has from before)

pub returns-else-ask_for-clause-held : goal.returns-else-ask_for-clause-held
returns-else-ask_for-clause-held c = λ first within. c.ask_in_spare_time.ensures.held first (c.ask_for.ensures.held first (c.ask_before_reads.ensures.held first within))

pub returns-else-ask_for-clause-stands : goal.returns-else-ask_for-clause-stands
returns-else-ask_for-clause-stands c = λ first within may has from before.
    c.ask_in_spare_time.ensures.stands first (c.ask_for.ensures.held first (c.ask_before_reads.ensures.held first within)) may has from
    (c.ask_for.ensures.stands first (c.ask_before_reads.ensures.held first within) may has from (c.ask_before_reads.ensures.stands first within may has from before))

pub returns-then-ask_for-clause-together : goal.returns-then-ask_for-clause-together
returns-then-ask_for-clause-together c = λ held first within before. c.ask_for.ensures.together held first (c.ask_before_reads.ensures.held held within) (c.ask_before_reads.ensures.together held first within before)

pub returns-else-ask_for-clause-together : goal.returns-else-ask_for-clause-together
returns-else-ask_for-clause-together c = λ held first within before. c.ask_in_spare_time.ensures.together held first (c.ask_for.ensures.held held (c.ask_before_reads.ensures.held held within)) (c.ask_for.ensures.together held first (c.ask_before_reads.ensures.held held within) (c.ask_before_reads.ensures.together held first within before))
