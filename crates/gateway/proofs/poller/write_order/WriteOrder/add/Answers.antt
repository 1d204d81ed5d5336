use Rattle.std.proofs.Common.{rules, ◌≡◌, ◌<◌, [], ◌∷◌, ◌++◌, length, sym, ◌∙◌, arith, length-append}
use Rattle.std.proofs.lemmas.List.{take_all}
use Rattle.gateway.specs.poller.Cycle.{most_outputs}
use Rattle.gateway.proofs.Turns.{take_beyond}
use Rattle.gateway.proofs.poller.write_order.WriteOrder.add.Goals as goal

pub returns-then-not-is_full : goal.returns-then-not-is_full
returns-then-not-is_full c =
    let items = c.args.self.now.outputs.items in
    let room : length items < most_outputs = search rules in
    c.push.ensures.items ∙ sym (take_all most_outputs (items ++ c.args.output ∷ []) (omega (arith, room, length-append items (c.args.output ∷ []))))

pub returns-else-not-is_full : goal.returns-else-not-is_full
returns-else-not-is_full c =
    let items = c.args.self.now.outputs.items in
    let full : length items ≡ most_outputs = search rules in
    take_beyond most_outputs items (c.args.output ∷ []) full
