-- What stays while a service goes on by itself. No standard says it; it is this project's.
use Rattle.std.specs.Prelude.{◌≡◌}
use Rattle.service.specs.declared.service_state.Service.{Service}
use Rattle.service.specs.Timing.{StaysAt}

-- Each link has the connection that it had, clients stay as they were, and no time goes by.
pub record Stays (old new : Service) : Type 0 where
  pub links : new.lines.links ≡ old.lines.links
  pub places : new.places.items ≡ old.places.items
  pub time : StaysAt old new
