use Rattle.site_model.proofs.Owns.{tag-own}
use Rattle.site_model.proofs.readings.tag_reading.Goals as goal

pub returns-in_default : goal.returns-in_default
returns-in_default c = tag-own c.args.tag.now _ c.args.set c.args.elapsed c.own_reading.result (λ why e. c.in_default.not-Absent why e) c.own_reading.ensures
