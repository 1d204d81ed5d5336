-- Worked requests: what decides them, and what goes out for them.
-- MODBUS Messaging on TCP/IP Implementation Guide, section 4.4.1 (MODBUS client).
use Rattle.std.specs.Prelude.{◌≡◌, ℕ, [], ◌∷◌, replicate, None, Some, refl}
use Rattle.modbus_frame.specs.declared.frame.Frame.{Frame}
use Rattle.modbus_frame.specs.declared.message.Request.TheVariants.{Read, WriteOne, WriteMany}
use Rattle.modbus_frame.specs.Message.{request_bytes}
use Rattle.gateway.specs.declared.poller.outcome.Outcome.TheVariants as outcome
use Rattle.gateway.specs.poller.LinkRun.{Asked, decided_by, next_id}

-- the seventh request reads one register of unit 1
abbrev seventh : Asked
seventh = record { id = 7; unit = 1; request = Read 40084 1 }

-- 2500 in one register, as unit 1 sends it for a request
abbrev watts_for : ℕ → Frame
watts_for id = record { transaction = id; unit = 1; pdu = 3 ∷ 2 ∷ 9 ∷ 0xC4 ∷ [] }

pub a_reply : decided_by seventh (watts_for 7 ∷ []) ≡ Some (record { outcome = outcome.Words (2500 ∷ []); behind = [] })
a_reply = refl

pub an_older_reply_is_dropped : decided_by seventh (watts_for 6 ∷ watts_for 7 ∷ []) ≡ Some (record { outcome = outcome.Words (2500 ∷ []); behind = [] })
an_older_reply_is_dropped = refl

pub another_unit_is_dropped : decided_by seventh (record (watts_for 7) { unit = 2 } ∷ watts_for 7 ∷ watts_for 8 ∷ []) ≡ Some (record { outcome = outcome.Words (2500 ∷ []); behind = watts_for 8 ∷ [] })
another_unit_is_dropped = refl

pub sixteen_decide_nothing : decided_by seventh (replicate 16 (watts_for 6)) ≡ None
sixteen_decide_nothing = refl

pub seventeen_are_stale : decided_by seventh (replicate 17 (watts_for 6)) ≡ Some (record { outcome = outcome.Stale; behind = [] })
seventeen_are_stale = refl

pub seven_is_followed : next_id 7 ≡ 8
seven_is_followed = refl

pub the_last_is_followed : next_id 65535 ≡ 0
the_last_is_followed = refl

-- 55.0 percent into register 40233
pub a_limit_by_function_16 : request_bytes (WriteMany 40233 (550 ∷ [])) ≡ 0x10 ∷ 0x9D ∷ 0x29 ∷ 0x00 ∷ 0x01 ∷ 0x02 ∷ 0x02 ∷ 0x26 ∷ []
a_limit_by_function_16 = refl

pub a_limit_by_function_6 : request_bytes (WriteOne 40233 550) ≡ 0x06 ∷ 0x9D ∷ 0x29 ∷ 0x02 ∷ 0x26 ∷ []
a_limit_by_function_6 = refl
