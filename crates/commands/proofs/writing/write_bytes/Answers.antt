use Rattle.commands.proofs.WritingLemmas.{written_more}
use Rattle.commands.proofs.writing.write_bytes.Goals as goal

pub loop-rest-preserved-in-Ok : goal.loop-rest-preserved-in-Ok
loop-rest-preserved-in-Ok g c =
    written_more c.args.bytes.now c.loop-rest.rest.now _ c.in-Ok.n _ _ _ c.loop-rest.invariant c.split_at.ensures.back c.in-Ok.ensures.bytes
