-- The parts of what a service does.
use Rattle.std.proofs.Common.{ℕ, Bool, List}
use Rattle.modbus_frame.specs.declared.frame.Frame.{Frame}
use Rattle.service.specs.Whole.{RestsAreOfTheRun, SiteIsServed}
use Rattle.service_parts.proofs.Heard.{clients_are_answered}
use Rattle.service.proofs.Runs.{courses_are_site_runs}

rests_are_of_the_run : RestsAreOfTheRun
rests_are_of_the_run now stations found_on link number bytes rest = courses_are_site_runs rest.made.core now rest.made.since

pub site_is_served : {S : Type 0} (Answers : S → Frame → List ℕ → Bool → S → Type 0) → SiteIsServed Answers
site_is_served Answers = record {
  course = courses_are_site_runs;
  devices = rests_are_of_the_run;
  clients = clients_are_answered Answers;
}
