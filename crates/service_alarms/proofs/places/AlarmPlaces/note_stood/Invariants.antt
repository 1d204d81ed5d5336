use Rattle.std.proofs.Common.{◌≤◌, length, drop}
use Rattle.std.specs.HashMap.{get}
use Rattle.service_alarms.specs.Finding.{Tells, same, stood_for}
use Rattle.service_alarms.proofs.places.AlarmPlaces.note_stood.Given as goal

-- the places of those from i on are noted
abbrev pub invariant-loop-i : goal.invariant-loop-i
invariant-loop-i l = record {
  within : l.i ≤ length l.stood;
  noted : Tells (get same l.self.numbers) stood_for (drop l.i l.stood) l.i;
}

abbrev pub decreases-loop-i : goal.decreases-loop-i
decreases-loop-i l = l.i
