use Rattle.std.proofs.Common.{◌≡◌, ◌∙◌, List, length, sym, ap, subst, arith}
use Rattle.std.specs.Prelude.{ℤ, Option}
use Rattle.std.specs.Vec.{with_items}
use Rattle.std.proofs.lemmas.List.{with_items_is}
use Rattle.site_model.specs.Readings.{AreSettings}
use Rattle.gateway.proofs.Parts.{served_again}
use Rattle.gateway.proofs.event_core.Core.wait.Goals as goal

pub lapse-requires-clause-ages : goal.lapse-requires-clause-ages
lapse-requires-clause-ages g c =
    let known = c.self.inside.known in
    let ea : (with_items known.ages c.grow_older.new.ages).items ≡ c.grow_older.new.ages = with_items_is known.ages c.grow_older.new.ages (omega (arith, c.grow_older.ensures.len, c.deref_mut.ensures.len)) in
    ap length (c.deref-then-some_lapses.ensures.value ∙ ea) ∙ c.grow_older.ensures.len ∙ ap length c.deref_mut.ensures.value ∙ c.self.invariant.known.ages ∙ sym (ap length c.tags-then-some_lapses.ensures)

pub lapse-requires-clause-ranged : goal.lapse-requires-clause-ranged
lapse-requires-clause-ranged g c = rw c.tags-then-some_lapses.ensures (rw c.deref_mut-then-some_lapses.ensures.value c.self.invariant.known.ranged)

pub invariant_of-self : goal.invariant_of-self
invariant_of-self g c =
    let core = c.self.inside in
    let known = core.known in
    let so_far = c.self.invariant in
    let ea : (with_items known.ages c.grow_older.new.ages).items ≡ c.grow_older.new.ages = with_items_is known.ages c.grow_older.new.ages (omega (arith, c.grow_older.ensures.len, c.deref_mut.ensures.len)) in
    let es : (with_items known.sets c.lapse.new.sets).items ≡ c.lapse.new.sets = with_items_is known.sets c.lapse.new.sets (omega (arith, c.lapse.ensures.len, c.deref_mut-then-some_lapses.ensures.len)) in
    let ei : (with_items core.image c.serve.new.image).items ≡ c.serve.new.image = with_items_is core.image c.serve.new.image (omega (arith, c.serve.ensures.len, c.deref_mut-then-some_lapses-2.ensures.len)) in
    record {
      matched = so_far.matched;
      linked = so_far.linked;
      mapped = so_far.mapped;
      own = so_far.own;
      known = record {
        blocks = so_far.known.blocks;
        scanned = so_far.known.scanned;
        sets = ap length es ∙ c.lapse.ensures.len ∙ ap length c.deref_mut-then-some_lapses.ensures.value ∙ so_far.known.sets;
        ages = ap length ea ∙ c.grow_older.ensures.len ∙ ap length c.deref_mut.ensures.value ∙ so_far.known.ages;
        outputs = so_far.known.outputs;
        readings = so_far.known.readings;
        ranged = subst (λ (ss : List (Option ℤ)). AreSettings core.site.tags ss) (sym es) (rw (sym c.tags-then-some_lapses.ensures) c.lapse.ensures.ranged);
        stored = so_far.known.stored;
      };
      served = served_again core.site known.outputs.items known.readings.items _ core.points c.as_slice.result.now c.serve.new.image _ c.as_slice.ensures so_far.own ei c.serve.ensures.served;
      sized = ap length ei ∙ c.serve.ensures.len ∙ ap length c.deref_mut-then-some_lapses-2.ensures.value ∙ so_far.sized;
      roomy = so_far.roomy;
      fed = so_far.fed;
    }

pub invariant_of-self-else-some_lapses : goal.invariant_of-self-else-some_lapses
invariant_of-self-else-some_lapses g c =
    let known = c.self.inside.known in
    let so_far = c.self.invariant in
    let ea : (with_items known.ages c.grow_older.new.ages).items ≡ c.grow_older.new.ages = with_items_is known.ages c.grow_older.new.ages (omega (arith, c.grow_older.ensures.len, c.deref_mut.ensures.len)) in
    record {
      matched = so_far.matched;
      linked = so_far.linked;
      mapped = so_far.mapped;
      own = so_far.own;
      known = record {
        blocks = so_far.known.blocks;
        scanned = so_far.known.scanned;
        sets = so_far.known.sets;
        ages = ap length ea ∙ c.grow_older.ensures.len ∙ ap length c.deref_mut.ensures.value ∙ so_far.known.ages;
        outputs = so_far.known.outputs;
        readings = so_far.known.readings;
        ranged = so_far.known.ranged;
        stored = so_far.known.stored;
      };
      served = so_far.served;
      sized = so_far.sized;
      roomy = so_far.roomy;
      fed = so_far.fed;
    }
