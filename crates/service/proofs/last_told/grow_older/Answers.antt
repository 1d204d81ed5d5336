use Rattle.std.proofs.Common.{rules, ◌<◌, ◌∙◌, length}
use Rattle.std.proofs.lemmas.List.{length-set}
use Rattle.service.specs.Rounds.{older}
use Rattle.service_requests.proofs.Mapping.{mapped_at}
use Rattle.service.proofs.last_told.grow_older.Goals as goal

pub loop-i-preserved : goal.loop-i-preserved
loop-i-preserved c =
    let so_far = c.loop-i.invariant in
    let within : c.loop-i.i < length c.args.told.now = search rules in (
      mapped_at older c.args.told.now c.loop-i.told c.loop-i.i _ c.older.result within so_far.0 c.older.ensures,
      length-set c.loop-i.told _ _ ∙ so_far.1,
    )
