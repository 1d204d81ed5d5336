-- Which outcomes are answers of a device (Modbus Application Protocol V1.1b3, section 7).
use Rattle.std.specs.Prelude.{ℕ, nat_eq, Bool, true, false, not, ◌||◌, Option, None, Some}
use Rattle.gateway.specs.declared.poller.outcome.Outcome.{Outcome}
use Rattle.gateway.specs.declared.poller.outcome.Outcome.TheVariants as outcome
use Rattle.service_requests.specs.declared.request_end.RequestEnd.{RequestEnd}
use Rattle.service_requests.specs.declared.request_end.RequestEnd.TheVariants as fate

-- whether a gateway says by this code that its unit can't be reached, or doesn't answer
abbrev pub is_gateways : ℕ → Bool
is_gateways code = nat_eq code 10 || nat_eq code 11

-- After too many frames that answer something else there is no answer; nor is what a gateway says in place of its unit.
abbrev pub is_answer : Outcome → Bool
is_answer (outcome.Words words) = true
is_answer outcome.Wrote = true
is_answer (outcome.Exception e) = not (is_gateways e.0)
is_answer outcome.Mismatch = true
is_answer outcome.Stale = false

-- whether a device answered by what became of a request, or by nothing yet
abbrev pub answers : Option RequestEnd → Bool
answers None = false
answers (Some (fate.Told o)) = is_answer o
answers (Some fate.Lost) = false
