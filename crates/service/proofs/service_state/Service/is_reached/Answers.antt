use Rattle.std.proofs.Common.{◌∙◌, Option, false, sym, ap}
use Rattle.std.specs.Option.{option_map_or}
use Rattle.service_parts.specs.declared.limits.Station.{Station}
use Rattle.service_parts.specs.Waking.{is_up_at}
use Rattle.service.proofs.service_state.Service.is_reached.Goals as goal

pub returns-in-Some : goal.returns-in-Some
returns-in-Some c =
    c.is_up.ensures ∙ sym (ap (λ (o : Option Station). option_map_or (λ (at : Station). is_up_at c.args.self.now.lines.lines.items at.link) o false) (sym c.station.ensures ∙ c.in-Some.is))

pub returns-in-None : goal.returns-in-None
returns-in-None c =
    sym (ap (λ (o : Option Station). option_map_or (λ (at : Station). is_up_at c.args.self.now.lines.lines.items at.link) o false) (sym c.station.ensures ∙ c.in-None.is))
