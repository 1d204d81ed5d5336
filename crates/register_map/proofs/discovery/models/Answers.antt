-- A model that was read is one more after the others.
use Rattle.std.proofs.Common.{◌≡◌, ◌+◌, ◌≤◌, length, false, arith}
use Rattle.register_map.specs.declared.layout.TheConstants.{MOST_MODELS}
use Rattle.register_map.proofs.ReadsLemmas.{Counts-then}
use Rattle.register_map.proofs.ChainLemmas.{AreModels-append, AreModels-inside}
use Rattle.register_map.proofs.discovery.models.Goals as goal

pub loop-block-preserved : goal.loop-block-preserved
loop-block-preserved g c =
    let header = rw c.in-Some.is at c.in_ok-block.ensures.header in
    let next : c.loop-block.next + (2 + c.from.result) ≡ c.loop-block.next + 2 + c.in-Some.block.length = omega (arith, c.from.ensures) in
    let more : length c.push.new.self.items ≤ MOST_MODELS = omega (arith, c.push.ensures.len, c.len.ensures.value, header.3) in (
      rw (c.push.ensures.items, next)
          (AreModels-append g.R.Registers.reads c.args.limit _ 0 _ c.loop-block.blocks.items _ _ c.in-Some.block _ c.len.result (omega (arith, c.len.ensures.value)) c.loop-block.invariant.0 header),
      Counts-then _ _ _ false c.loop-block.invariant.1 c.in_ok-block.ensures.counted,
      more,
    )

pub new-requires : goal.new-requires
new-requires g c =
    let inside = AreModels-inside g.R.Registers.reads c.args.limit _ 0 _ c.loop-block.blocks.items _ _ c.loop-block.invariant.0 in
    inside.1
