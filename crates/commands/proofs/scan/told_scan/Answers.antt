use Rattle.commands.proofs.OutcomeLemmas.{outcome_told}
use Rattle.commands.proofs.scan.told_scan.Goals as goal

pub returns : goal.returns
returns c = λ image start.
    outcome_told c.args.readings.now image c.args.trial.now c.scan-ending.new.self c.scan-ending.result c.new-lines.result.items c.push_scan.new.lines.items c.in_ok-status.status start
    c.scan-ending.ensures.ended c.scan-ending.ensures.trapped c.new-lines.ensures.items c.in_ok-status.ensures.ok c.in_ok-status.ensures.status
