-- Whose turn it is among the devices of a link. No standard says it; it is this project's.
use Rattle.std.specs.Prelude.{◌≡◌, ℕ, ◌/◌, Bool, nat_lt, slice_get, if◌then◌else◌}
use Rattle.std.specs.Option.{option_map_or}
use Rattle.service.specs.declared.link_pace.LinkPace.{LinkPace}
use Rattle.service.specs.declared.link_pace.Purpose.{Purpose}
use Rattle.service.specs.declared.link_pace.Purpose.TheVariants as purpose
use Rattle.service.specs.declared.polled_device.PolledDevice.{PolledDevice}
use Rattle.service.specs.declared.device_side.DeviceSide.{DeviceSide}
use Rattle.service.specs.Counting.{one_more}

-- ---- of a link

-- The place from which on its devices are asked for this: reads, writes, searches and devices that didn't answer have a turn each.
abbrev pub turn_of : Purpose → LinkPace → ℕ
turn_of purpose.Write pace = pace.writes
turn_of purpose.Read pace = pace.reads
turn_of purpose.GoOn pace = pace.searches
turn_of purpose.Search pace = pace.searches
turn_of purpose.Sign pace = pace.searches
turn_of purpose.Doubt pace = pace.probes
turn_of purpose.Probe pace = pace.probes

-- This place has the turn from now on; where a device didn't answer, the one after it.
abbrev pub turned_to : Purpose → ℕ → LinkPace → LinkPace
turned_to purpose.Write place pace = record pace { writes = place }
turned_to purpose.Read place pace = record pace { reads = place }
turned_to purpose.GoOn place pace = record pace { searches = place }
turned_to purpose.Search place pace = record pace { searches = place }
turned_to purpose.Sign place pace = record pace { searches = place }
turned_to purpose.Doubt place pace = record pace { probes = one_more place }
turned_to purpose.Probe place pace = record pace { probes = one_more place }

-- ---- of its devices

-- how long the replies of a device took lately, in milliseconds
abbrev pub reply_at : DeviceSide → ℕ → ℕ
reply_at side device = option_map_or (λ (own : PolledDevice). own.replies.lately) (slice_get side.devices.items device) 0

-- They take more than half a period.
abbrev pub is_slow : DeviceSide → ℕ → Bool
is_slow side device = nat_lt (side.limits.period / 2) (reply_at side device)

-- Whose turn it is after the device at this place: its own; that of the next one where it is read or written, and is slow.
abbrev pub place_after : Bool → Purpose → ℕ → ℕ
place_after slow purpose.Write place = if slow then one_more place else place
place_after slow purpose.Read place = if slow then one_more place else place
place_after slow purpose.GoOn place = place
place_after slow purpose.Search place = place
place_after slow purpose.Sign place = place
place_after slow purpose.Doubt place = place
place_after slow purpose.Probe place = place
