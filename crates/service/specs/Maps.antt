-- Whether there is a map of a device.
use Rattle.std.specs.Prelude.{ℕ, Bool, true, false, Option, None, Some, slice_get}
use Rattle.register_map.specs.Layout.{Layout}
use Rattle.gateway.specs.event_core.Core.{Gateway}

abbrev pub is_there : Option (Option Layout) → Bool
is_there (Some (Some map)) = true
is_there (Some None) = false
is_there None = false

-- whether the core has a map of the device
abbrev pub has_map : Gateway → ℕ → Bool
has_map core device = is_there (slice_get core.maps device)
