use Rattle.std.proofs.Common.{rules, ◌≡◌, ◌<◌, None, Some, length, refl, slice_get, ap, sym, ◌∙◌}
use Rattle.std.proofs.lemmas.Option.{slice_get_read}
use Rattle.service.proofs.ByNotes.{chosen, left_out, output_goes, settled_goes, state_there}
use Rattle.service.proofs.device_side.DeviceSide.settle_output.Goals as goal

pub returns-then-settle-clause-stands : goal.returns-then-settle-clause-stands
returns-then-settle-clause-stands c =
    let within : c.args.output < length c.args.self.now.outputs.items = search rules in
    let at : slice_get c.args.self.now.outputs.items c.args.output ≡ Some c.in-Some.found.now = slice_get_read _ _ c.args.output c.in-Some.found.now refl within c.in-Some.ensures.value in
    settled_goes c.args.self.now _ c.args.output c.in-Some.found.now at _ c.args.state refl (ap (λ o. o.told) c.settle.ensures.state) (ap (λ o. o.is_awaited) c.settle.ensures.state) (ap (λ o. o.differs) c.settle.ensures.state ∙ chosen c.settle.result None c.in-Some.found.now.differs c.if-settle.true) (ap (λ o. o.is_read_back) c.settle.ensures.state) c.requires.waited refl c.add.ensures.adds c.add.ensures.room refl c.note_of.ensures

pub returns-else-settle-clause-stands : goal.returns-else-settle-clause-stands
returns-else-settle-clause-stands c may has =
    let within : c.args.output < length c.args.self.now.outputs.items = search rules in
    let at : slice_get c.args.self.now.outputs.items c.args.output ≡ Some c.in-Some.found.now = slice_get_read _ _ c.args.output c.in-Some.found.now refl within c.in-Some.ensures.value in
    output_goes c.args.self.now _ c.args.output c.in-Some.found.now at _ refl (ap (λ o. o.told) c.settle.ensures.state ∙ sym (c.settle.ensures.differs c.if-settle.false)) (ap (λ o. o.differs) c.settle.ensures.state ∙ left_out c.settle.result None c.in-Some.found.now.differs c.if-settle.false) (ap (λ o. o.is_read_back) c.settle.ensures.state) (ap (λ o. o.is_awaited) c.settle.ensures.state) refl refl refl refl may

pub returns-else-settle-clause-state : goal.returns-else-settle-clause-state
returns-else-settle-clause-state c within_ =
    let within : c.args.output < length c.args.self.now.outputs.items = search rules in
    let at : slice_get c.args.self.now.outputs.items c.args.output ≡ Some c.in-Some.found.now = slice_get_read _ _ c.args.output c.in-Some.found.now refl within c.in-Some.ensures.value in
    state_there c.args.self.now.outputs.items c.args.output c.in-Some.found.now _ c.args.state at (ap (λ o. o.told) c.settle.ensures.state)
