use Rattle.std.proofs.Common.{rules, ◌<◌, ◌∙◌, length}
use Rattle.std.proofs.lemmas.List.{length-set}
use Rattle.service_requests.specs.Tasks.{given_up}
use Rattle.service_requests.proofs.Mapping.{mapped_at}
use Rattle.service_requests.proofs.task.give_up_all.Goals as goal

pub loop-i-preserved : goal.loop-i-preserved
loop-i-preserved c =
    let so_far = c.loop-i.invariant in
    let within : c.loop-i.i < length c.args.tasks.now = search rules in (
      mapped_at (given_up c.args.device) c.args.tasks.now c.loop-i.tasks c.loop-i.i _ c.given_up.result within so_far.0 c.given_up.ensures,
      length-set c.loop-i.tasks _ _ ∙ so_far.1,
    )
