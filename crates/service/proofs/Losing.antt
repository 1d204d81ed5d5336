-- Why losses are told, over several links.
use Rattle.std.proofs.Common.{◌≡◌, ◌≢◌, ◌<◌, ℕ, List, Option, Some, slice_get, ap, subst, sym, ◌∙◌}
use Rattle.std.specs.Prelude.{option_and_then}
use Rattle.std.proofs.Math.Nat.{lt_irrefl}
use Rattle.service_parts.specs.declared.limits.Station.{Station}
use Rattle.service_parts.specs.declared.device_connection.DeviceConnection.{DeviceConnection}
use Rattle.service_parts.specs.Overdue.{if_over, overdue_at}
use Rattle.service.specs.Losing.{IsOneOf, IsWaitedOut}

pub below_other : (k n : ℕ) → n < k → k ≢ n
below_other k n below same = lt_irrefl n (subst (λ (x : ℕ). n < x) same below)

-- a link on which nothing happened yet
pub waited_before : (stations now_stations : List Station) (lines now_lines : List DeviceConnection) (now now_now link device : ℕ) → now_stations ≡ stations → slice_get now_lines link ≡ slice_get lines link → now_now ≡ now
    → IsWaitedOut now_stations now_lines now_now link device → IsWaitedOut stations lines now link device
waited_before stations now_stations lines now_lines now now_now link device same at time is = record {
  asked = is.asked;
  overdue = ap (λ (o : Option DeviceConnection). option_and_then (if_over now) (option_and_then (λ (l : DeviceConnection). l.asked) o)) (sym at) ∙ subst (λ (t : ℕ). overdue_at now_lines t link ≡ Some is.asked) time is.overdue;
  own = subst (λ (s : List Station). IsOneOf s link is.asked.device device) same is.own;
}
