use Rattle.std.proofs.Common.{rules, ◌≡◌, ◌≢◌, ◌∙◌, ◌++◌, ◌∷◌, [], List, map, ap, arith}
use Rattle.facts.specs.declared.fact.Fact.{Fact}
use Rattle.facts.specs.declared.refusal.RefusalKind.TheVariants.{OutOfMemory}
use Rattle.facts.specs.Slots.{slots}
use Rattle.verifier.specs.Gathered.{slot_before}
use Rattle.verifier.specs.Passing.{stood}
use Rattle.verifier.specs.Told.{standing_beside, standing_of}
use Rattle.verifier.specs.declared.told.Standing.{Standing}
use Rattle.verifier.proofs.Knowing.{told_first, told_next}
use Rattle.verifier.proofs.known.all_told_over.Goals as goal

pub returns-in-Err : goal.returns-in-Err
returns-in-Err c =
    let context = c.args.context.now in
    let n = c.loop-at.at in
    let one : c.in_ok-standing_beside.field-0 ≡ standing_of context (slot_before context n) =
    c.in_ok-standing_beside.ensures ∙ ap (λ (f : Fact). standing_beside f (stood (λ fact. fact) c.in_ok-slot.slot)) c.requires.entry ∙ ap (standing_of context) c.in_ok-slot.ensures.known in
    let had : c.in-Err.refusal.kind ≢ OutOfMemory = search rules in
    c.in_ok-push.ensures.ok ∙ ap (λ (ss : List Standing). ss ++ c.in_ok-standing_beside.field-0 ∷ []) c.loop-at.invariant.told
    ∙ ap (λ (s : Standing). map (standing_of context) (slots context n) ++ s ∷ []) one ∙ told_next context n ∙ told_first context n c.in-Err.refusal had c.in-Err.ensures.refused

pub loop-at-preserved : goal.loop-at-preserved
loop-at-preserved c =
    let context = c.args.context.now in
    let n = c.loop-at.at in
    let one : c.in_ok-standing_beside.field-0 ≡ standing_of context (slot_before context n) =
    c.in_ok-standing_beside.ensures ∙ ap (λ (f : Fact). standing_beside f (stood (λ fact. fact) c.in_ok-slot.slot)) c.requires.entry ∙ ap (standing_of context) c.in_ok-slot.ensures.known in
    record {
      within = omega (arith, c.loop-at-test.true, c.size.ensures);
      long = omega (arith, c.pass_on.auto.pending, c.known_at.auto.pending, c.loop-at.invariant.long);
      pending = c.in-Ok.ensures.gathered;
      told = c.in_ok-push.ensures.ok ∙ ap (λ (ss : List Standing). ss ++ c.in_ok-standing_beside.field-0 ∷ []) c.loop-at.invariant.told
          ∙ ap (λ (s : Standing). map (standing_of context) (slots context n) ++ s ∷ []) one ∙ told_next context n;
      unrefused = c.in-Ok.ensures.unrefused;
    }
