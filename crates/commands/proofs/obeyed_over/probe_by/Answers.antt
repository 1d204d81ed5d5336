use Rattle.std.proofs.Common.{◌≡◌, map, string_bytes, subst, sym, rules}
use Rattle.commands.specs.Defined.{AreDefined}
use Rattle.commands.specs.Obeyed.{ProbesBy}
use Rattle.commands.proofs.ObeyLemmas.{probes_by}
use Rattle.commands.proofs.obeyed_over.probe_by.Goals as goal

pub returns-in-Ok : goal.returns-in-Ok
returns-in-Ok g c =
    let texts = map string_bytes c.args.defs.now in
    let same : c.as_slice.result.now ≡ c.in-Ok.models.items = search rules in
    let probes = probes_by c.args.unit texts c.as_slice.result.now c.args.poller.now c.probe.new.poller (g.W.Write.contents c.models_told.new.out) (g.W.Write.contents c.probe.new.out) c.probe.result
    (subst (AreDefined texts) (sym same) c.in-Ok.ensures.given) c.probe.ensures.probes c.probe.ensures.stands in
    subst (λ old. ProbesBy c.args.unit texts c.args.poller.now c.probe.new.poller old (g.W.Write.contents c.probe.new.out) c.probe.result) c.in-Ok.ensures.unprinted probes
