use Rattle.std.proofs.Common.{sym, refl, ◌∙◌}
use Rattle.model_defs.proofs.Entries.{headed_at, headed_past, uint16_told}
use Rattle.model_defs.proofs.placing.is_headed.Goals as goal

pub returns-in-None : goal.returns-in-None
returns-in-None c = sym (headed_past c.args.points.now.entries c.args.number c.args.name.now c.in-None.ensures.entry)

pub returns-then-eq : goal.returns-then-eq
returns-then-eq c =
    rw (headed_at c.args.points.now.entries c.args.number _ _ c.args.name.now c.in-Some.ensures.entry, ← c.eq.ensures, c.if-eq.true) (c.eq-then-eq.ensures ∙ uint16_told c.in-Some.description.now.kind)

pub returns-else-eq : goal.returns-else-eq
returns-else-eq c = rw (headed_at c.args.points.now.entries c.args.number _ _ c.args.name.now c.in-Some.ensures.entry, ← c.eq.ensures, c.if-eq.false) refl
