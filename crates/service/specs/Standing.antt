-- How a device stands. No standard says what of it is told; it is this project's.
use Rattle.std.specs.Prelude.{◌≡◌, ℕ, Bool, false, List, [], slice_get}
use Rattle.std.specs.Option.{option_map_or}
use Rattle.gateway.specs.event_core.Core.{Gateway}
use Rattle.service_parts.specs.declared.connections.Connections.{Connections}
use Rattle.service_parts.specs.declared.limits.Station.{Station}
use Rattle.service_parts.specs.Waking.{is_up_at}
use Rattle.service.specs.declared.polled_device.PolledDevice.{PolledDevice}
use Rattle.service.specs.declared.device_side.DeviceSide.{DeviceSide}
use Rattle.service.specs.declared.refusals.ReadRefusal.{ReadRefusal}
use Rattle.service.specs.declared.last_told.LastTold.{LastTold}
use Rattle.service.specs.Maps.{has_map}
use Rattle.service.specs.Rounds.{age_of}
use Rattle.service.specs.declared.status.DeviceStatus.{DeviceStatus}

-- whether the connection over which a device is reached is up
abbrev pub is_reached : Connections → ℕ → Bool
is_reached lines device = option_map_or (λ (at : Station). is_up_at lines.lines.items at.link) (slice_get lines.links.stations.items device) false

-- what a device refused to be read
abbrev pub refusals_at : DeviceSide → ℕ → List ReadRefusal
refusals_at side device = option_map_or (λ (own : PolledDevice). own.refusals) (slice_get side.devices.items device) []

-- It tells what is kept of the device, whether its connection is up, whether there is a map of it, and how old what it told is.
pub record IsStatus (core : Gateway) (told : List LastTold) (lines : Connections) (device : ℕ) (own : PolledDevice) (status : DeviceStatus) : Type 0 where
  pub up : status.is_up ≡ is_reached lines device
  pub mapped : status.is_mapped ≡ has_map core device
  pub another : status.is_another ≡ own.is_another
  pub lost : status.is_lost ≡ own.is_lost
  pub last : status.last_loss ≡ own.last_loss
  pub replies : status.replies ≡ own.replies
  pub each : status.each ≡ own.each
  pub age : status.age ≡ age_of device told
  pub counts : status.counts ≡ own.counts
