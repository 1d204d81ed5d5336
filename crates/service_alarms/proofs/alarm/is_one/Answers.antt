use Rattle.std.proofs.Common.{◌≡◌, sym, ◌∙◌}
use Rattle.service_alarms.specs.contracts.alarm.AlarmPartialEq.TheImpl as alarm_eq
use Rattle.service_alarms.proofs.Same.{decided}
use Rattle.service_alarms.proofs.alarm.is_one.Goals as goal

pub returns : goal.returns
returns c =
    let same : c.eq.result ≡ (alarm_eq.ghosts).eq c.args.one c.args.other = c.eq.ensures in
    let one = decided c.args.one c.args.other in
    (λ yes_. one.0 (sym same ∙ yes_), λ yes_. same ∙ one.1 yes_)
