use Rattle.std.proofs.Common.{◌≡◌, ◌∙◌, ◌+◌, ℕ, suc, List, Ok, Err, inl, refl, slice_get, subst, sym, ap, arith}
use Rattle.facts.specs.Slots.{Slot, flow_of}
use Rattle.verifier.specs.Gathered.{AreGathered, NoneRefuses}
use Rattle.verifier.specs.Passing.{all_delivered, all_stood, flow_stood, ways_stood}
use Rattle.verifier.proofs.Passing.{none_refused, pending_next, refused_first, slot_of}
use Rattle.verifier.proofs.pass.pass_on.Goals as goal

pub returns-in_ok-deliver_all-in-Ok-clause-gathered : goal.returns-in_ok-deliver_all-in-Ok-clause-gathered
returns-in_ok-deliver_all-in-Ok-clause-gathered g c =
    let stands = g.F.FactDomain.stands in
    let context = c.args.context.now in
    let n = c.args.at in
    let next : suc n ≡ n + 1 = omega arith in
    let ways = ways_stood stands c.in-Ok.ways in
    let before = all_stood stands c.args.pending.now in
    let flows : flow_of context n (slot_of context n) (slice_get context.listing n) ≡ Ok ways =
    sym (ap (λ (s : Slot). flow_of context n s (slice_get context.listing n)) c.requires.known) ∙ sym c.in_ok-ways.ensures ∙ ap (flow_stood stands) c.in-Ok.is in
    let behind : AreGathered context n (suc n) before = subst (λ (k : ℕ). AreGathered context n k before) (sym next) c.requires.gathered in
    let brought : all_stood stands c.deliver_all.new.pending ≡ all_delivered ways before = c.in_ok-deliver_all-in-Ok.ensures in
    let later : AreGathered context (suc n) (suc n) (all_stood stands c.deliver_all.new.pending) =
    subst (λ (xs : List Slot). AreGathered context (suc n) (suc n) xs) (sym brought) (pending_next context n ways before behind flows) in
    subst (λ (k : ℕ). AreGathered context k k (all_stood stands c.deliver_all.new.pending)) next later

pub returns-in_ok-deliver_all-in-Ok-clause-unrefused : goal.returns-in_ok-deliver_all-in-Ok-clause-unrefused
returns-in_ok-deliver_all-in-Ok-clause-unrefused g c =
    let stands = g.F.FactDomain.stands in
    let context = c.args.context.now in
    let n = c.args.at in
    let next : suc n ≡ n + 1 = omega arith in
    let ways = ways_stood stands c.in-Ok.ways in
    let flows : flow_of context n (slot_of context n) (slice_get context.listing n) ≡ Ok ways =
    sym (ap (λ (s : Slot). flow_of context n s (slice_get context.listing n)) c.requires.known) ∙ sym c.in_ok-ways.ensures ∙ ap (flow_stood stands) c.in-Ok.is in
    subst (λ (k : ℕ). NoneRefuses context k) next (none_refused context n ways c.requires.unrefused flows)

pub returns-in-Err-clause-refused : goal.returns-in-Err-clause-refused
returns-in-Err-clause-refused g c =
    let stands = g.F.FactDomain.stands in
    let context = c.args.context.now in
    let n = c.args.at in
    let flows : flow_of context n (slot_of context n) (slice_get context.listing n) ≡ Err c.in-Err.kind =
    sym (ap (λ (s : Slot). flow_of context n s (slice_get context.listing n)) c.requires.known) ∙ sym c.in_ok-ways.ensures ∙ ap (flow_stood stands) c.in-Err.is in
    inl (refused_first context n c.in-Err.kind c.requires.within c.requires.unrefused flows, refl)
