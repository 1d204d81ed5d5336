use Rattle.std.proofs.Common.{refl}
use Rattle.inverter_sim.proofs.works.Inverter.tick.Goals as goal

pub returns-clause-shown : goal.returns-clause-shown
returns-clause-shown c =
    rw (c.set_at-2.ensures.set, c.set_at.ensures.set, c.watts_word-watts.ensures, c.state_word-state.ensures, c.deref.ensures.value, c.deref-2.ensures.value) refl
