use Rattle.std.proofs.Common.{rules, ◌≡◌, ◌≤◌, ◌<◌, [], Some, length, refl, subst, ap, ◌∙◌}
use Rattle.std.specs.Prelude.{slice_get}
use Rattle.std.proofs.lemmas.Option.{slice_get_past, slice_get_read}
use Rattle.service_parts.proofs.Heard.{done_at, nobody_at, that_one}
use Rattle.service_parts.specs.declared.client_place.ClientPlace.{ClientPlace}
use Rattle.service_parts.specs.Clients.{IsDeaf, ready_of}
use Rattle.service.specs.Cycle.{ClientsLeadOn, stage_of}
use Rattle.service.proofs.ToldWrites.{hears_writes}
use Rattle.service.proofs.Courses.{clients_chain, clients_guarded, hears_from, right_clients}
use Rattle.service.specs.declared.cycle.Cycle.{Cycle}
use Rattle.service.specs.Rounds.{Progress}
use Rattle.service.proofs.Timing.{chain_at}
use Rattle.service.proofs.service_state.Service.from_client.Goals as goal

pub returns-in-Some-clause-hears : goal.returns-in-Some-clause-hears
returns-in-Some-clause-hears c =
    let places = c.args.self.now.places.items in
    let within : c.args.place < length places = search rules in
    let at : slice_get places c.args.place ≡ Some c.in-Some.client.now = slice_get_read places _ c.args.place c.in-Some.client.now refl within c.in-Some.ensures.value in
    done_at _ places places c.args.place c.in-Some.client.now c.take.new.self refl at
    (λ heard. hears_writes _ (λ (s : Cycle). s.writes) (λ s frame bytes goes_on t answers. answers.3) _ _ _ _ _ _ refl
    (hears_from _ _ _ _ _ _ _ _ (c.turn_to-in-Some.ensures ∙ ap (λ b. record c.args.self.now.cycle { may_write = b; writes = [] }) c.may_write.ensures) (c.take.ensures.hears heard)))

pub returns-in-None-clause-hears : goal.returns-in-None-clause-hears
returns-in-None-clause-hears c =
    let places = c.args.self.now.places.items in
    let past : length places ≤ c.args.place = search rules in
    nobody_at _ places places c.args.place refl (slice_get_past places c.args.place past)

pub returns-in-Some-clause-takes : goal.returns-in-Some-clause-takes
returns-in-Some-clause-takes c =
    let places = c.args.self.now.places.items in
    let within : c.args.place < length places = search rules in
    let at : slice_get places c.args.place ≡ Some c.in-Some.client.now = slice_get_read places _ c.args.place c.in-Some.client.now refl within c.in-Some.ensures.value in
    that_one (λ (x : ClientPlace). (IsDeaf x → ⊥) → ready_of x ≡ [] → 0 < length c.args.bytes.now → 0 < c.take.result) places c.args.place c.in-Some.client.now at c.take.ensures.takes

pub returns-in-Some-clause-goes : goal.returns-in-Some-clause-goes
returns-in-Some-clause-goes c =
    let led = clients_chain _ (λ s. stage_of s) (λ s frame bytes goes_on t answers. clients_guarded s.may_write (stage_of s) (stage_of t) frame bytes goes_on answers.1 answers.2) _ _ _ (c.take.ensures.chain).1 in
    let goes : ClientsLeadOn c.args.self.now.cycle c.take.new.responder = subst (λ s. ClientsLeadOn s c.take.new.responder) c.turn_to-in-Some.ensures led in
    goes

pub invariant_of-self : goal.invariant_of-self
invariant_of-self c =
    let led = clients_chain _ (λ s. stage_of s) (λ s frame bytes goes_on t answers. clients_guarded s.may_write (stage_of s) (stage_of t) frame bytes goes_on answers.1 answers.2) _ _ _ (c.take.ensures.chain).1 in
    let goes : ClientsLeadOn c.args.self.now.cycle c.take.new.responder = subst (λ s. ClientsLeadOn s c.take.new.responder) c.turn_to-in-Some.ensures led in
    record { rightful = right_clients _ _ c.args.self.now.lines goes c.args.self.now.rightful; right = c.args.self.now.right }

pub returns-in-Some-clause-deaf : goal.returns-in-Some-clause-deaf
returns-in-Some-clause-deaf c =
    let places = c.args.self.now.places.items in
    let within : c.args.place < length places = search rules in
    let at : slice_get places c.args.place ≡ Some c.in-Some.client.now = slice_get_read places _ c.args.place c.in-Some.client.now refl within c.in-Some.ensures.value in
    done_at (λ (old new : ClientPlace). IsDeaf old → (new ≡ old) × (c.take.new.responder.core.value ≡ c.args.self.now.cycle.core.value) × (c.take.new.responder.writes ≡ [])) places places c.args.place c.in-Some.client.now c.take.new.self refl at
    (λ deaf. let (here, still) = c.take.ensures.deaf deaf in
    (here, ap (λ x. x.core.value) still ∙ ap (λ x. x.core.value) c.turn_to-in-Some.ensures, ap (λ x. x.writes) still ∙ ap (λ x. x.writes) c.turn_to-in-Some.ensures))

pub returns-in-Some-clause-time : goal.returns-in-Some-clause-time
returns-in-Some-clause-time c = record {
  now = search rules;
  next = search rules;
  scans = search rules;
  limits = search rules;
  last = search rules;
  at = chain_at _ (λ s. s.round.at) (λ s frame bytes goes_on t answers. ap (λ (p : Progress). p.at) answers.1) _ _ _ (c.take.ensures.chain).1 ∙ ap (λ (s : Cycle). s.round.at) c.turn_to-in-Some.ensures;
}
