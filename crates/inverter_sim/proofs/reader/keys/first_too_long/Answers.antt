use Rattle.std.proofs.Common.{◌≡◌, ◌+◌, ◌<◌, ◌∙◌, ap, get_or, length, sym}
use Rattle.inverter_sim.specs.File.{device_has_too_many}
use Rattle.inverter_sim.proofs.Entries.{any_more}
use Rattle.inverter_sim.proofs.Refused.{first_here, none_more}
use Rattle.inverter_sim.proofs.reader.keys.first_too_long.Goals as goal

pub returns-then-device_has_too_many : goal.returns-then-device_has_too_many
returns-then-device_has_too_many c =
    let l = c.loop-tree in
    let vs = c.args.trees.now.items in
    let within : l.tree-index < length vs = rw (← c.deref-tree-items.ensures.value) c.loop-tree-test.true in
    let is : c.tree-item.result ≡ get_or vs l.tree-index c.tree-item.result = rw (← c.deref-tree-items.ensures.value) c.tree-item.is in
    first_here device_has_too_many vs l.tree-index l.number c.tree-item.result within is l.invariant.2 l.invariant.1 (sym c.device_has_too_many.ensures ∙ c.if-device_has_too_many.true)

pub loop-tree-preserved : goal.loop-tree-preserved
loop-tree-preserved c =
    let l = c.loop-tree in
    let vs = c.args.trees.now.items in
    let within : l.tree-index < length vs = rw (← c.deref-tree-items.ensures.value) c.loop-tree-test.true in
    let is : c.tree-item.result ≡ get_or vs l.tree-index c.tree-item.result = rw (← c.deref-tree-items.ensures.value) c.tree-item.is in
    let fails = sym c.device_has_too_many.ensures ∙ c.if-device_has_too_many.false in (
      l.invariant.0 ∙ any_more device_has_too_many vs l.tree-index c.tree-item.result within is fails,
      none_more device_has_too_many vs l.tree-index c.tree-item.result within is l.invariant.1 fails,
      ap (λ k. k + 1) l.invariant.2,
    )
