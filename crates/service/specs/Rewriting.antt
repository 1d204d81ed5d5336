-- What a device has of an output, and when the same isn't written again. No standard says when; it is this project's.
use Rattle.std.specs.Prelude.{ℕ, ◌-◌, ◌*◌, nat_eq, nat_lt, Bool, false, ◌&&◌, List, [], ◌∷◌, Option, None, Some, slice_get, slice_set, if◌then◌else◌}
use Rattle.std.specs.Option.{option_map_or}
use Rattle.std.specs.Str.{bytes_eq}
use Rattle.modbus_frame.specs.declared.message.Request.{Request}
use Rattle.modbus_frame.specs.declared.message.Request.TheVariants as request
use Rattle.service_parts.specs.declared.asked.Aim.{Aim}
use Rattle.service_parts.specs.declared.asked.Aim.TheVariants as aim
use Rattle.service_parts.specs.declared.asked.Asked.{Asked}
use Rattle.site_model.specs.declared.device.SiteDevice.{SiteDevice}
use Rattle.site_model.specs.Readings.{known_at}
use Rattle.service.specs.declared.output.OutputState.{OutputState}
use Rattle.service.specs.declared.output.OutputState.TheVariants as state
use Rattle.service.specs.declared.held_writes.HeldWrite.{HeldWrite}

-- ---- what a device has

-- by its acknowledgement of a request
abbrev pub write_of : Asked → (now : ℕ) → HeldWrite
write_of asked now = record { device = asked.device; address = asked.address; words = asked.words; number = asked.number; at = now }

-- as a request begins: nothing any more of an output that it writes
abbrev pub had_beside : Aim → List (Option HeldWrite) → List (Option HeldWrite)
had_beside (aim.Output output) writes = slice_set writes output None
had_beside (aim.Block want) writes = writes
had_beside aim.Map writes = writes

-- this device has it
abbrev pub is_of : (device : ℕ) → Option HeldWrite → Bool
is_of device None = false
is_of device (Some held) = nat_eq held.device device

-- where it isn't known any more what this device has
abbrev pub had_without : (device : ℕ) → Option HeldWrite → Option HeldWrite
had_without device entry = if is_of device entry then None else entry

-- ---- what it has already

abbrev pub is_written : HeldWrite → (device address : ℕ) → List ℕ → Bool
is_written held device address words = nat_eq held.device device && (nat_eq held.address address && bytes_eq held.words words)

-- a request writes the same words into the same registers
abbrev pub is_same : HeldWrite → (device : ℕ) → Request → Bool
is_same held device (request.Read addr qty) = false
is_same held device (request.WriteOne addr value) = is_written held device addr (value ∷ [])
is_same held device (request.WriteMany addr words) = is_written held device addr words

-- the device took it over the connection with this number, less than so many milliseconds ago
abbrev pub is_recent : HeldWrite → (number within now : ℕ) → Bool
is_recent held number within now = nat_eq held.number number && nat_lt (now - held.at) within

-- The device has what a request writes for an output: it took just that over the connection with this number, less than so many
-- milliseconds ago.
abbrev pub is_held : List (Option HeldWrite) → (output device : ℕ) → Request → (number within now : ℕ) → Bool
is_held writes output device asked number within now =
    option_map_or (λ held. is_same held device asked && is_recent held number within now) (known_at writes output) false

-- the milliseconds for which a device keeps what it took; 0 where it is written at each scan
abbrev pub kept_for : List SiteDevice → (device : ℕ) → ℕ
kept_for devices device = option_map_or (λ (d : SiteDevice). d.rewrite * 1000) (slice_get devices device) 0

-- ---- what is known after an answer

-- a device took what the request writes, or it refused it
abbrev pub after_answer : OutputState → (output : ℕ) → HeldWrite → List (Option HeldWrite) → List (Option HeldWrite)
after_answer state.Written output held writes = slice_set writes output (Some held)
after_answer (state.Unwritten cause) output held writes = writes
