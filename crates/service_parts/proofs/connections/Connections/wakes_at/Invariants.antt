use Rattle.std.proofs.Common.{◌≡◌, ◌≤◌, ◌<◌, ℕ, Some, slice_get}
use Rattle.service_parts.specs.declared.device_connection.DeviceConnection.{DeviceConnection}
use Rattle.service_parts.specs.Waking.{due_at}
use Rattle.service_parts.proofs.Waking.{IsOneOf}
use Rattle.service_parts.proofs.connections.Connections.wakes_at.Given as goal

abbrev pub invariant-loop-link : goal.invariant-loop-link
invariant-loop-link l =
    (l.at ≤ l.initial.at) × ((k : ℕ) (line : DeviceConnection) → k < l.link → slice_get l.self.lines.items k ≡ Some line → l.at ≤ due_at line) × IsOneOf l.initial.at l.self.lines.items l.at
