use Rattle.std.proofs.Common.{refl, [], ◌++◌, slice_index_or}
use Rattle.gateway.proofs.Talking.{talks_behind, talks_none}
use Rattle.commands.proofs.UnitLemmas.{alone_more, ends_behind, map_read, models_more}
use Rattle.commands.proofs.unit_points.lines_of.Goals as goal

pub loop-block-init : goal.loop-block-init
loop-block-init g c = ([], tt, talks_none c.args.poller.now c.requires, λ others more read. rw c.new-lines.ensures.items read)

pub returns-in-Err-clause-stopped : goal.returns-in-Err-clause-stopped
returns-in-Err-clause-stopped g c =
    let (es, reads, talks, done) = c.loop-block.invariant in
    ends_behind c.args.unit c.args.poller.now c.loop-block.poller c.push_block.new.poller c.in-Err.cause (record { es = es; reads = reads; talks = talks }) c.in-Err.ensures.stopped

pub loop-block-preserved : goal.loop-block-preserved
loop-block-preserved g c =
    let (es, reads, talks, done) = c.loop-block.invariant in
    let (points, w, (own, read, more)) = c.in_default.ensures.read in (
      es ++ own,
      alone_more c.args.unit (slice_index_or c.blocks-block-items.result.now c.loop-block.block-index (record { id = 0; addr = 0; length = 0 })) _ es own points reads read,
      talks_behind c.args.poller.now c.loop-block.poller c.push_block.new.poller es own talks more,
      models_more c.args.unit c.args.models.now c.blocks-block-items.result.now c.loop-block.block-index (record { id = 0; addr = 0; length = 0 }) es own c.loop-block.lines.items _ c.push_block.new.lines.items points c.loop-block-test.true read refl w done,
    )

pub returns-in-Ok-clause-read : goal.returns-in-Ok-clause-read
returns-in-Ok-clause-read g c =
    let (es, reads, talks, done) = c.loop-block.invariant in
    map_read c.args.unit c.args.models.now c.args.map.now c.blocks-block-items.result.now c.loop-block.block-index c.end.result es c.loop-block.lines.items c.push_end.new.lines.items c.args.poller.now c.loop-block.poller c.blocks-block-items.ensures.blocks c.end.ensures c.loop-block-test.false done talks c.in-Ok.ensures.ok
