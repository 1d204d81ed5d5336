use Rattle.std.proofs.Common.{◌≤◌, length, drop}
use Rattle.std.specs.HashMap.{get}
use Rattle.service_alarms.specs.Changing.{subject_of}
use Rattle.service_alarms.specs.Finding.{Tells, same}
use Rattle.service_alarms.proofs.places.AlarmPlaces.note_alarms.Given as goal

-- the places of those from i on are noted
abbrev pub invariant-loop-i : goal.invariant-loop-i
invariant-loop-i l = record {
  within : l.i ≤ length l.alarms;
  noted : Tells (get same l.self.numbers) subject_of (drop l.i l.alarms) l.i;
}

abbrev pub decreases-loop-i : goal.decreases-loop-i
decreases-loop-i l = l.i
