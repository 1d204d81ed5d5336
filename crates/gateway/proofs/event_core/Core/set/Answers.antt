use Rattle.std.proofs.Common.{◌≡◌, ◌∙◌, List, length, sym, ap, subst, arith}
use Rattle.std.specs.Prelude.{ℤ, Option}
use Rattle.std.specs.Vec.{with_items}
use Rattle.std.proofs.lemmas.List.{with_items_is}
use Rattle.site_model.specs.Readings.{AreSettings}
use Rattle.gateway.proofs.Parts.{served_again}
use Rattle.gateway.proofs.Settled.{refused_keeps}
use Rattle.gateway.specs.served.ServedImage.{IsServedImage}
use Rattle.gateway.proofs.event_core.Core.set.Goals as goal

pub write-answer-requires-clause-ranged : goal.write-answer-requires-clause-ranged
write-answer-requires-clause-ranged g c = rw c.deref_mut.ensures.value c.self.invariant.known.ranged

pub invariant_of-self : goal.invariant_of-self
invariant_of-self g c =
    let core = c.self.inside in
    let known = c.self.inside.known in
    let so_far = c.self.invariant in
    let es : (with_items known.sets c.write-answer.new.sets).items ≡ c.write-answer.new.sets = with_items_is known.sets c.write-answer.new.sets (omega (arith, c.write-answer.auto.sets, c.deref_mut.ensures.len)) in
    let ea : (with_items known.ages c.write-answer.new.ages).items ≡ c.write-answer.new.ages = with_items_is known.ages c.write-answer.new.ages (omega (arith, c.write-answer.ensures.ages_len, c.deref_mut-2.ensures.len)) in
    let er : (with_items core.room c.write-answer.new.room).items ≡ c.write-answer.new.room = with_items_is core.room c.write-answer.new.room (omega (arith, c.write-answer.auto.room, c.deref_mut-3.ensures.len)) in
    let ei : (with_items core.image c.serve.new.image).items ≡ c.serve.new.image = with_items_is core.image c.serve.new.image (omega (arith, c.serve.ensures.len, c.deref_mut-in-Ok.ensures.len)) in
    record {
      matched = so_far.matched;
      linked = so_far.linked;
      mapped = so_far.mapped;
      own = so_far.own;
      known = record {
        blocks = so_far.known.blocks;
        scanned = so_far.known.scanned;
        sets = ap length es ∙ c.write-answer.ensures.len;
        ages = ap length ea ∙ c.write-answer.ensures.ages_len ∙ ap length c.deref_mut-2.ensures.value ∙ so_far.known.ages;
        outputs = so_far.known.outputs;
        readings = so_far.known.readings;
        ranged = subst (λ (ss : List (Option ℤ)). AreSettings core.site.tags ss) (sym es) c.write-answer.ensures.ranged;
        stored = so_far.known.stored;
      };
      served = served_again core.site known.outputs.items known.readings.items _ core.points c.as_slice-in-Ok.result.now c.serve.new.image _ c.as_slice-in-Ok.ensures so_far.own ei c.serve.ensures.served;
      sized = ap length ei ∙ c.serve.ensures.len ∙ ap length c.deref_mut-in-Ok.ensures.value ∙ so_far.sized;
      roomy = ap length er ∙ c.write-answer.ensures.room_len;
      fed = so_far.fed;
    }

pub invariant_of-self-in-Err : goal.invariant_of-self-in-Err
invariant_of-self-in-Err g c =
    let core = c.self.inside in
    let known = c.self.inside.known in
    let so_far = c.self.invariant in
    let es : (with_items known.sets c.write-answer.new.sets).items ≡ c.write-answer.new.sets = with_items_is known.sets c.write-answer.new.sets (omega (arith, c.write-answer.auto.sets, c.deref_mut.ensures.len)) in
    let ea : (with_items known.ages c.write-answer.new.ages).items ≡ c.write-answer.new.ages = with_items_is known.ages c.write-answer.new.ages (omega (arith, c.write-answer.ensures.ages_len, c.deref_mut-2.ensures.len)) in
    let er : (with_items core.room c.write-answer.new.room).items ≡ c.write-answer.new.room = with_items_is core.room c.write-answer.new.room (omega (arith, c.write-answer.auto.room, c.deref_mut-3.ensures.len)) in
    let same : c.write-answer.new.sets ≡ known.sets.items = refused_keeps core.site.tags _ c.args.words.now _ c.in-Err.exception c.write-answer.new.sets _ c.in-Err.is c.write-answer.ensures.written ∙ c.deref_mut.ensures.value in
    record {
      matched = so_far.matched;
      linked = so_far.linked;
      mapped = so_far.mapped;
      own = so_far.own;
      known = record {
        blocks = so_far.known.blocks;
        scanned = so_far.known.scanned;
        sets = ap length es ∙ c.write-answer.ensures.len;
        ages = ap length ea ∙ c.write-answer.ensures.ages_len ∙ ap length c.deref_mut-2.ensures.value ∙ so_far.known.ages;
        outputs = so_far.known.outputs;
        readings = so_far.known.readings;
        ranged = subst (λ (ss : List (Option ℤ)). AreSettings core.site.tags ss) (sym es) c.write-answer.ensures.ranged;
        stored = so_far.known.stored;
      };
      served = subst (λ (ss : List (Option ℤ)). IsServedImage core.site known.outputs.items known.readings.items ss core.image.items) (sym (es ∙ same)) so_far.served;
      sized = so_far.sized;
      roomy = ap length er ∙ c.write-answer.ensures.room_len;
      fed = so_far.fed;
    }
