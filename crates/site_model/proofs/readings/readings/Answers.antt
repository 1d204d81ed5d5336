use Rattle.std.proofs.Common.{inl, inr, arith}
use Rattle.std.proofs.lemmas.Option.{slice_get_within}
use Rattle.site_model.proofs.Entries.{set-cases, entry-read, setting-in}
use Rattle.site_model.proofs.Owns.{IsIn, tag-usable}
use Rattle.site_model.proofs.readings.readings.Goals as goal

pub loop-i-preserved : goal.loop-i-preserved
loop-i-preserved c = λ k t r h p q. elim (set-cases c.loop-i.into c.loop-i.i c.tag_reading.result k r q) [
  | inl e ↦ entry-read c.args.tags.now c.args.wants.now c.args.blocks.now c.args.sets.now c.args.elapsed c.loop-i.i c.index-tags-i.result _ c.tag_reading.result c.index-tags-i.is c.known_block.ensures c.tag_reading.ensures k t r e.0 e.1 p
  | inr e ↦ let n = e.0 in c.loop-i.invariant k t r (omega (arith, h, n)) p e.1
]

pub returns-clause-readings : goal.returns-clause-readings
returns-clause-readings c = λ k t r p q. let w = slice_get_within c.args.tags.now k t p in c.loop-i.invariant k t r (omega arith) p q

pub returns-clause-usable : goal.returns-clause-usable
returns-clause-usable c = λ k t r p q.
    let w = slice_get_within c.args.tags.now k t p in
    tag-usable t _ _ c.args.elapsed r (setting-in (IsIn t.low t.high) c.args.sets.now k (λ n e. c.requires.settings k t n p e)) (c.loop-i.invariant k t r (omega arith) p q)
