use Rattle.std.proofs.Common.{◌≡◌, ◌≤◌, ◌<◌, ℕ, Some, false, slice_get}
use Rattle.service_parts.specs.declared.device_connection.DeviceConnection.{DeviceConnection}
use Rattle.service_parts.specs.Overdue.{asked_at, is_left}
use Rattle.service.specs.Going.{LinksGo}
use Rattle.service.specs.Cycle.{LeadsOn}
use Rattle.service.specs.Having.{HasNoMore}
use Rattle.service.specs.Losing.{LostByWait}
use Rattle.service.specs.Told.{LosesBy}
use Rattle.service.specs.Staying.{Stays}
use Rattle.service.specs.Together.{GoTogether}
use Rattle.service.proofs.service_state.Service.end_waits.Given as goal

abbrev pub invariant-loop-link : goal.invariant-loop-link
invariant-loop-link l = Stays l.fn.self l.self × (LosesBy (LostByWait l.fn.self.lines.links.stations.items l.fn.self.lines.lines.items l.fn.self.side.now) l.fn.self.side l.self.side) × ((link : ℕ) → l.link ≤ link → slice_get l.self.lines.lines.items link ≡ slice_get l.fn.self.lines.lines.items link) × LinksGo l.fn.self l.self × LeadsOn l.fn.self.cycle l.self.cycle × HasNoMore l.fn.self.held l.self.held × ((link : ℕ) (line : DeviceConnection) → link < l.link → slice_get l.fn.self.lines.lines.items link ≡ Some line → is_left l.fn.self.side.now (asked_at l.self.lines.lines.items link) ≡ false) × GoTogether l.fn.self l.self
