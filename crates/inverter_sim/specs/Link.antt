-- What a plant sends over a link for the frames that come, where it misbehaves and where it doesn't.
-- MODBUS Messaging on TCP/IP Implementation Guide, sections 3.1.3 and 4.4.2.
use Rattle.std.specs.Prelude.{◌≡◌, ℕ, zero, suc, ◌+◌, ◌==◌, nat_lt, Bool, true, false, ◌&&◌, List, [], ◌∷◌, ◌++◌, map, find, take, Option, Some, option_map, Result, Ok, Err, if◌then◌else◌}
use Rattle.std.specs.Option.{option_map_or}
use Rattle.modbus_frame.specs.declared.frame.Frame.{Frame}
use Rattle.modbus_frame.specs.declared.message.Exception.{Exception}
use Rattle.modbus_frame.specs.declared.message.Request.{Request}
use Rattle.modbus_frame.specs.declared.message.Request.TheVariants.{Read}
use Rattle.modbus_frame.specs.Bytes.{number_bytes, words_of}
use Rattle.modbus_frame.specs.Frame.{frame_bytes}
use Rattle.modbus_frame.specs.Message.{request_of, refusal_bytes, words_reply}
use Rattle.modbus_frame.specs.Served.{reply_to}
use Rattle.modbus_frame.specs.Serving.{copies}
use Rattle.inverter_sim.specs.declared.misbehaviour.Misbehaviour.{Misbehaviour}
use Rattle.inverter_sim.specs.declared.misbehaviour.Misbehaviour.TheVariants as wrong
use Rattle.inverter_sim.specs.declared.works.Works.{Works}
use Rattle.inverter_sim.specs.declared.works.Works.TheVariants as works
use Rattle.inverter_sim.specs.State.{DeviceState, PlantState}
use Rattle.inverter_sim.specs.Tick.{all_ticked}
use Rattle.inverter_sim.specs.Serve.{after_serving, reply_of}

-- ---- the plant at a frame

-- the number of the next frame; counting stops at 1,000,001
abbrev pub counted : ℕ → ℕ
counted n = if nat_lt n 1000001 then n + 1 else n

abbrev pub one_frame_more : PlantState → PlantState
one_frame_more p = record p { frames = counted p.frames }

-- what is wrong at the next frame
abbrev pub next_fault : PlantState → Option Misbehaviour
next_fault p = option_map (λ f. f.kind) (find (λ f. f.request == counted p.frames) p.faults)

-- where the ID of the model stands that shows a device's watts: an inverter's inverter model, a meter's meter model
abbrev pub watts_model : Works → Option ℕ
watts_model (works.Inverter i) = i.points.inverter
watts_model (works.Meter m) = m.points.meter

-- The request reads more than two registers, from that model on.
abbrev pub begins_scan : DeviceState → Request → Bool
begins_scan d (Read addr qty) = nat_lt 2 qty && option_map_or (λ at. addr == d.base + at) (watts_model d.works) false
begins_scan d other = false

abbrev pub parsed_begins_scan : DeviceState → Result Request Exception → Bool
parsed_begins_scan d (Ok request) = begins_scan d request
parsed_begins_scan d (Err e) = false

-- such a request to the device of the frame's unit
abbrev pub begins_among : List DeviceState → Frame → Bool
begins_among [] frame = false
begins_among (d ∷ ds) frame = if d.unit == frame.unit then parsed_begins_scan d (request_of frame.pdu) else begins_among ds frame

-- the plant ticks before it is done, where it is of the unit that ticks the plant; while that is open, each unit does
abbrev pub ticks_before : PlantState → Frame → Bool
ticks_before p frame = begins_among p.devices frame && option_map_or (λ unit. unit == frame.unit) p.pace true

-- the unit that ticked the plant once goes on to do so
abbrev pub ticked_before : PlantState → Frame → PlantState
ticked_before p frame = if ticks_before p frame then record (all_ticked p) { pace = Some frame.unit } else p

-- the plant when the request is done, and the right reply
abbrev pub done : PlantState → Frame → PlantState
done p frame = after_serving (ticked_before p frame) frame.unit frame.pdu

abbrev pub right_reply : PlantState → Frame → List ℕ
right_reply p frame = reply_of (ticked_before p frame) frame.unit frame.pdu

-- ---- what is wrong with a reply

-- a request that is answered by an exception of the file isn't done
abbrev pub done_by : Option Misbehaviour → PlantState → Frame → PlantState
done_by (Some (wrong.Exception code)) p frame = p
done_by other p frame = done p frame

-- the reply to a reading request, with this word in each register; another reply stays
abbrev pub garbled : ℕ → List ℕ → List ℕ
garbled word (function ∷ count ∷ values) = if function == 3 then words_reply (map (λ _. word) (words_of values)) else function ∷ count ∷ values
garbled word other = other

abbrev pub reply_by : Option Misbehaviour → PlantState → Frame → List ℕ
reply_by (Some (wrong.Exception code)) p frame = refusal_bytes frame.pdu (record { 0 = code })
reply_by (Some (wrong.Garbage word)) p frame = garbled word (right_reply p frame)
reply_by other p frame = right_reply p frame

-- the transaction before this one
abbrev pub earlier : ℕ → ℕ
earlier zero = 65535
earlier (suc n) = n

abbrev pub stale : Frame → Frame
stale reply = record reply { transaction = earlier reply.transaction }

-- how many stale replies go out before the right one
abbrev pub copies_by : Option Misbehaviour → ℕ
copies_by (Some (wrong.Stale n)) = n
copies_by other = 0

-- a frame whose length field is 255
abbrev pub with_wrong_length : Frame → List ℕ
with_wrong_length f = number_bytes f.transaction ++ 0 ∷ 0 ∷ 0 ∷ 255 ∷ f.unit ∷ f.pdu

abbrev pub spelled_by : Option Misbehaviour → Frame → List ℕ
spelled_by (Some wrong.Length) reply = with_wrong_length reply
spelled_by (Some (wrong.Cut n)) reply = take n (frame_bytes reply)
spelled_by other reply = frame_bytes reply

-- What goes out for a reply.
abbrev pub sent_by : Option Misbehaviour → Frame → List ℕ
sent_by fault reply = copies (copies_by fault) (frame_bytes (stale reply)) ++ spelled_by fault reply

-- nothing goes out after a reply that is cut
abbrev pub goes_on_by : Option Misbehaviour → Bool
goes_on_by (Some (wrong.Cut n)) = false
goes_on_by other = true

-- ---- the answered stream

-- What goes out for a frame, and the plant after it.
abbrev pub sent_for : PlantState → Frame → List ℕ
sent_for p frame = sent_by (next_fault p) (reply_to frame (reply_by (next_fault p) (one_frame_more p) frame))

abbrev pub after_frame : PlantState → Frame → PlantState
after_frame p frame = done_by (next_fault p) (one_frame_more p) frame

-- These bytes answer a frame, and more frames may be answered unless the reply was cut.
pub record AnswersFrame (p : PlantState) (frame : Frame) (bytes : List ℕ) (goes_on : Bool) (next : PlantState) : Type 0 where
  pub sent : bytes ≡ sent_for p frame
  pub more : goes_on ≡ goes_on_by (next_fault p)
  pub after : next ≡ after_frame p frame
