-- The answered stream: what goes back for a list of frames, in order (MODBUS Messaging on TCP/IP Implementation Guide,
-- section 4.4.2).
use Rattle.std.specs.Prelude.{◌≡◌, ℕ, List, [], ◌∷◌, ◌++◌}
use Rattle.modbus_frame.specs.declared.frame.Frame.{Frame}
use Rattle.modbus_frame.specs.declared.message.Exception.{Exception}
use Rattle.modbus_frame.specs.Message.{refusal_bytes}

-- A reply has the transaction and the unit of its frame.
abbrev pub reply_to : Frame → List ℕ → Frame
reply_to frame pdu = record { transaction = frame.transaction; unit = frame.unit; pdu = pdu }

-- the gateway target device failed to respond
abbrev pub target_failed : Exception
target_failed = record { 0 = 11 }

-- what goes back where no such unit is served
abbrev pub unknown_unit_pdu : Frame → List ℕ
unknown_unit_pdu frame = refusal_bytes frame.pdu target_failed

module _ {S : Type 0} (Answers : S → Frame → List ℕ → S → Type 0) where
  -- Each frame is answered from the state that the frames before it left: these bytes go back for all of them.
  abbrev pub Answered : S → List Frame → List ℕ → S → Type 0
  Answered state [] sent end = (sent ≡ []) × (end ≡ state)
  Answered state (frame ∷ frames) sent end = (bytes : List ℕ) × (more : List ℕ) × (next : S) × Answers state frame bytes next × (sent ≡ bytes ++ more) × Answered next frames more end
