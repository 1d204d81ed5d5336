-- What clients ask between two scans of a run (Modbus Application Protocol V1.1b3, sections 6.3, 6.6 and 6.12).
use Rattle.std.specs.Prelude.{◌≡◌, Bool, true, List, [], ◌∷◌, ⊤}
use Rattle.gateway.specs.declared.event_core.event.Event.{Event}
use Rattle.gateway.specs.declared.event_core.event.Event.TheVariants as event
use Rattle.gateway.specs.event_core.Core.{Gateway}
use Rattle.gateway.specs.event_core.Driving.{TakesEvent}
use Rattle.gateway.specs.poller.Cycle.{RunsTo}
use Rattle.commands.specs.Accepted.{most_deferred}

-- a request of a client, where clients are asked at all
abbrev pub IsOfClients : (asked : Bool) → Event → Type 0
IsOfClients asked (event.Client pdu) = asked ≡ true
IsOfClients asked (event.Block want words) = ⊥
IsOfClients asked (event.Lost want) = ⊥
IsOfClients asked (event.Time ms) = ⊥
IsOfClients asked event.Scan = ⊥

abbrev pub AreOfClients : (asked : Bool) → List Event → Type 0
AreOfClients asked [] = ⊤
AreOfClients asked (e ∷ es) = IsOfClients asked e × AreOfClients asked es

-- From the one core to the other clients asked, one request after another, or none did; nothing else happened. Where clients
-- aren't asked, nothing happened at all.
pub record ClientsAsk (asked : Bool) (old new : Gateway) : Type 0 where
  pub events : List Event
  pub own : AreOfClients asked events
  pub runs : RunsTo (TakesEvent most_deferred) old events new
