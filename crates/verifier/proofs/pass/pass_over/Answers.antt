use Rattle.std.proofs.Common.{◌≡◌, ◌∙◌, ◌+◌, ◌++◌, ◌∷◌, [], ℕ, suc, Bool, List, map, sym, ap, arith}
use Rattle.facts.specs.Slots.{is_reached, slots}
use Rattle.verifier.proofs.Passing.{mapped_next, passed_refused, slot_of}
use Rattle.verifier.proofs.pass.pass_over.Goals as goal

pub returns-in-Err : goal.returns-in-Err
returns-in-Err g c = passed_refused c.args.context.now c.loop-at.at c.in-Err.refusal c.in-Err.ensures.refused

pub loop-at-preserved : goal.loop-at-preserved
loop-at-preserved g c =
    let context = c.args.context.now in
    let n = c.loop-at.at in
    let next : suc n ≡ n + 1 = omega arith in
    let flag : c.has_fact.result ≡ is_reached (slot_of context n) = c.has_fact.ensures ∙ ap is_reached c.in_ok-slot.ensures.known in
    let flags : c.push.new.self ≡ c.loop-at.reached ++ c.has_fact.result ∷ [] = c.in_ok-push.ensures.ok in
    record {
      within = omega (arith, c.loop-at-test.true, c.size.ensures);
      long = omega (arith, c.pass_on.auto.pending, c.known_at.auto.pending, c.loop-at.invariant.long);
      pending = c.in-Ok.ensures.gathered;
      reached = flags ∙ ap (λ (bs : List Bool). bs ++ c.has_fact.result ∷ []) c.loop-at.invariant.reached
          ∙ ap (λ (b : Bool). map is_reached (slots context n) ++ b ∷ []) flag ∙ sym (mapped_next context is_reached n) ∙ ap (λ (k : ℕ). map is_reached (slots context k)) next;
      unrefused = c.in-Ok.ensures.unrefused;
    }
