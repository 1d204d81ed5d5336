use Rattle.service_alarms.proofs.Found.{change_seen}
use Rattle.service_alarms.proofs.changes.Changes.see.Goals as goal

pub returns : goal.returns
returns c = change_seen c.fill_over.result c.args.stood.now c.args.alarms.now c.fill_begun.new.begun c.fill_over.new.over c.in_ok-fill_begun.ensures (c.fill_over.ensures c.args.alarms.now c.in_ok-note_alarms.ensures)
