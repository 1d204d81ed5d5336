-- What a plant answers to a request, and what the request changes (Modbus Application Protocol V1.1b3, sections 6.3, 6.6,
-- 6.12 and 7; MODBUS Messaging on TCP/IP Implementation Guide, section 4.4.2).
use Rattle.std.specs.Prelude.{ℕ, ◌+◌, ◌-◌, ◌==◌, nat_le, Bool, true, ◌&&◌, List, [], ◌∷◌, ◌++◌, length, take, drop, Result, Ok, Err, if◌then◌else◌}
use Rattle.modbus_frame.specs.declared.message.Request.{Request}
use Rattle.modbus_frame.specs.declared.message.Request.TheVariants.{Read, WriteOne, WriteMany}
use Rattle.modbus_frame.specs.declared.message.Response.{Response}
use Rattle.modbus_frame.specs.declared.message.Response.TheVariants.{Words, Wrote}
use Rattle.modbus_frame.specs.declared.message.Exception.{Exception}
use Rattle.modbus_frame.specs.Message.{illegal_address, request_of, answer_bytes, refusal_bytes}
use Rattle.modbus_frame.specs.Served.{target_failed}
use Rattle.inverter_sim.specs.declared.place.RegisterPlace.{RegisterPlace}
use Rattle.inverter_sim.specs.State.{DeviceState, PlantState}

-- all n registers from the address on are the device's
abbrev pub is_within : DeviceState → ℕ → ℕ → Bool
is_within d addr n = nat_le d.base addr && nat_le (addr + n) (d.base + length d.registers)

-- Each register belongs to a point that clients may write, and that begins and ends among these registers. The first of
-- them has `before` others in front of it.
abbrev pub are_whole : ℕ → List RegisterPlace → Bool
are_whole before [] = true
are_whole before (p ∷ ps) = (p.writable && (nat_le p.before before && nat_le p.behind (length ps))) && are_whole (before + 1) ps

-- a write covers whole points that clients may write, side by side
abbrev pub is_writable : DeviceState → ℕ → ℕ → Bool
is_writable d addr n = is_within d addr n && are_whole 0 (take n (drop (addr - d.base) d.places))

-- the words stand from this register on
abbrev pub put : ℕ → List ℕ → List ℕ → List ℕ
put at words registers = take at registers ++ words ++ drop (at + length words) registers

abbrev pub written : DeviceState → ℕ → List ℕ → DeviceState
written d addr words = if is_writable d addr (length words) then record d { registers = put (addr - d.base) words d.registers } else d

abbrev pub acknowledged : DeviceState → ℕ → ℕ → Result Response Exception
acknowledged d addr n = if is_writable d addr n then Ok Wrote else Err illegal_address

-- A device after a request.
abbrev pub after_request : DeviceState → Request → DeviceState
after_request d (Read addr qty) = d
after_request d (WriteOne addr value) = written d addr (value ∷ [])
after_request d (WriteMany addr words) = written d addr words

-- What a device answers to a request.
abbrev pub answer_to : DeviceState → Request → Result Response Exception
answer_to d (Read addr qty) = if is_within d addr qty then Ok (Words (take qty (drop (addr - d.base) d.registers))) else Err illegal_address
answer_to d (WriteOne addr value) = acknowledged d addr 1
answer_to d (WriteMany addr words) = acknowledged d addr (length words)

-- The same for a PDU, which may be no request.
abbrev pub after_parsed : DeviceState → Result Request Exception → DeviceState
after_parsed d (Ok request) = after_request d request
after_parsed d (Err e) = d

abbrev pub reply_parsed : DeviceState → List ℕ → Result Request Exception → List ℕ
reply_parsed d pdu (Ok request) = answer_bytes request (answer_to d request)
reply_parsed d pdu (Err e) = refusal_bytes pdu e

abbrev pub after_pdu : DeviceState → List ℕ → DeviceState
after_pdu d pdu = after_parsed d (request_of pdu)

abbrev pub reply_pdu : DeviceState → List ℕ → List ℕ
reply_pdu d pdu = reply_parsed d pdu (request_of pdu)

-- The device of the unit is asked; where there is none, nothing changes.
abbrev pub after_among : List DeviceState → ℕ → List ℕ → List DeviceState
after_among [] unit pdu = []
after_among (d ∷ ds) unit pdu = if d.unit == unit then after_pdu d pdu ∷ ds else d ∷ after_among ds unit pdu

abbrev pub reply_among : List DeviceState → ℕ → List ℕ → List ℕ
reply_among [] unit pdu = refusal_bytes pdu target_failed
reply_among (d ∷ ds) unit pdu = if d.unit == unit then reply_pdu d pdu else reply_among ds unit pdu

-- A plant after a request to a unit, and its reply.
abbrev pub after_serving : PlantState → ℕ → List ℕ → PlantState
after_serving p unit pdu = record p { devices = after_among p.devices unit pdu }

abbrev pub reply_of : PlantState → ℕ → List ℕ → List ℕ
reply_of p unit pdu = reply_among p.devices unit pdu

-- How many milliseconds late the device of a unit answers; 0 where there is none.
abbrev pub delay_among : List DeviceState → ℕ → ℕ
delay_among [] unit = 0
delay_among (d ∷ ds) unit = if d.unit == unit then d.slow else delay_among ds unit

abbrev pub delay_of : PlantState → ℕ → ℕ
delay_of p unit = delay_among p.devices unit
