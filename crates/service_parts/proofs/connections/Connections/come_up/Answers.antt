use Rattle.std.proofs.Common.{ap, slice_get, ◌∙◌}
use Rattle.service_parts.proofs.connections.Connections.come_up.Goals as goal

pub returns-clause-anew : goal.returns-clause-anew
returns-clause-anew c is line at =
    let there = c.begin_anew.ensures.anew line at in
    (there.0, ap (λ lines. slice_get lines.items c.args.link) c.renumber.ensures.lines ∙ there.1, there.2)
