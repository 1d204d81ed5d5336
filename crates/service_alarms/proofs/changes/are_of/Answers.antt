use Rattle.std.proofs.Common.{◌∙◌}
use Rattle.service_alarms.proofs.Found.{of_found}
use Rattle.service_alarms.proofs.changes.are_of.Goals as goal

pub returns : goal.returns
returns c = λ alarms tells. rw c.is_some.ensures (of_found alarms c.args.subject c.first.result (c.first.ensures ∙ tells c.args.subject))
