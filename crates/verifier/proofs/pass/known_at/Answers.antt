use Rattle.std.proofs.Common.{◌≡◌, ◌∙◌, ◌+◌, ℕ, suc, List, ap, arith, subst, sym}
use Rattle.facts.specs.Slots.{Slot}
use Rattle.verifier.specs.Gathered.{AreGathered}
use Rattle.verifier.specs.Passing.{all_stood, closed, stood}
use Rattle.verifier.proofs.Passing.{pending_left, stood_get}
use Rattle.verifier.proofs.pass.known_at.Goals as goal

pub returns-clause-known : goal.returns-clause-known
returns-clause-known g c =
    let stands = g.F.FactDomain.stands in
    let context = c.args.context.now in
    let n = c.args.at in
    let there = stood_get stands c.args.pending.now n c.taken-arrived.result c.taken-arrived.ensures.taken in
    let come = c.requires.gathered n (stood stands c.taken-arrived.result) (omega arith) there in
    c.in_ok-slot.ensures ∙ ap (closed context n) come

pub returns-clause-left : goal.returns-clause-left
returns-clause-left g c =
    let stands = g.F.FactDomain.stands in
    let context = c.args.context.now in
    let n = c.args.at in
    let next : suc n ≡ n + 1 = omega arith in
    let left = pending_left context n (all_stood stands c.args.pending.now) c.requires.gathered in
    subst (λ (k : ℕ). AreGathered context n k (all_stood stands c.taken-arrived.new.pending)) next
    (subst (λ (xs : List Slot). AreGathered context n (suc n) xs) (sym c.taken-arrived.ensures.left) left)
