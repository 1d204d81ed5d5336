use Rattle.std.proofs.Common.{length}
use Rattle.machine_tests.proofs.runs.machines.+are_readings.Given as goal

abbrev pub decreases-are_readings : goal.decreases-are_readings
decreases-are_readings l = length l.links.now
