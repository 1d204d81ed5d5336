-- Why a device is told as lost, by what its connection met. No standard says what is told; it is this project's.
use Rattle.std.specs.Prelude.{◌≡◌, ◌⊎◌, ℕ, false, List, Option, None, Some}
use Rattle.gateway.specs.declared.poller.outcome.Outcome.{Outcome}
use Rattle.gateway.specs.declared.poller.outcome.Outcome.TheVariants as outcome
use Rattle.service_requests.specs.declared.request_end.RequestEnd.{RequestEnd}
use Rattle.service_requests.specs.declared.request_end.RequestEnd.TheVariants as fate
use Rattle.service_parts.specs.declared.limits.Station.{Station}
use Rattle.service_parts.specs.declared.device_connection.DeviceConnection.{DeviceConnection}
use Rattle.service_parts.specs.declared.asked.Asked.{Asked}
use Rattle.service_parts.specs.Overdue.{IsAt, overdue_at}
use Rattle.service.specs.declared.notice.Loss.{Loss}
use Rattle.service.specs.declared.notice.Loss.TheVariants as loss
use Rattle.service_parts.specs.Answering.{is_answer}

-- ---- which devices, and why

-- this device alone, for this
abbrev pub IsLost : ℕ → Loss → ℕ → Loss → Type 0
IsLost which cause device why = (device ≡ which) × (why ≡ cause)

-- all devices of a link, for this
abbrev pub AreLost : List Station → ℕ → Loss → ℕ → Loss → Type 0
AreLost stations link cause device why = IsAt stations link device × (why ≡ cause)

-- a device, and all of a link
abbrev pub IsOneOf : List Station → ℕ → ℕ → ℕ → Type 0
IsOneOf stations link which device = IsAt stations link device ⊎ (device ≡ which)

abbrev pub AreLostWith : List Station → ℕ → ℕ → Loss → ℕ → Loss → Type 0
AreLostWith stations link which cause device why = IsOneOf stations link which device × (why ≡ cause)

-- ---- by what came over a connection

-- why a device is lost that answered so
abbrev pub loss_by : Outcome → Loss
loss_by (outcome.Exception e) = loss.Gateway
loss_by (outcome.Words words) = loss.Stale
loss_by outcome.Wrote = loss.Stale
loss_by outcome.Mismatch = loss.Stale
loss_by outcome.Stale = loss.Stale

-- What came is no frame: all of the link. A gateway says that the device doesn't answer, or too many frames came that answer
-- something else: the device that was asked, and, where the connection is at fault, all of the link. An answer loses none.
abbrev pub LostByFate : List Station → ℕ → Asked → RequestEnd → ℕ → Loss → Type 0
LostByFate stations link asked fate.Lost device why = AreLost stations link loss.Frame device why
LostByFate stations link asked (fate.Told o) device why = (is_answer o ≡ false) × AreLostWith stations link asked.device (loss_by o) device why

-- by what became of the request that was under way, if one was
abbrev pub LostByHearing : List Station → ℕ → Option Asked → Option RequestEnd → ℕ → Loss → Type 0
LostByHearing stations link None f device why = ⊥
LostByHearing stations link (Some asked) None device why = ⊥
LostByHearing stations link (Some asked) (Some f) device why = LostByFate stations link asked f device why

-- ---- by the time

-- The time of the request is over that was under way on this link: it is the device that was asked, or, where the connection is
-- at fault, one of the link.
pub record IsWaitedOut (stations : List Station) (lines : List DeviceConnection) (now link device : ℕ) : Type 0 where
  pub asked : Asked
  pub overdue : overdue_at lines now link ≡ Some asked
  pub own : IsOneOf stations link asked.device device

abbrev pub LostByWaitAt : List Station → List DeviceConnection → ℕ → ℕ → ℕ → Loss → Type 0
LostByWaitAt stations lines now link device why = IsWaitedOut stations lines now link device × (why ≡ loss.Silent)

-- so on some link
abbrev pub LostByWait : List Station → List DeviceConnection → ℕ → ℕ → Loss → Type 0
LostByWait stations lines now device why = (link : ℕ) × LostByWaitAt stations lines now link device why
