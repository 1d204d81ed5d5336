-- What is less than a frame begins one.
use Rattle.std.proofs.Common.{◌≡◌, ℕ, ◌+◌, ◌-◌, ◌<◌, List, [], ◌∷◌, ◌++◌, length, replicate, sym, ◌∙◌, ap, arith, length-append}
use Rattle.std.proofs.lemmas.List.{length-replicate}
use Rattle.modbus_frame.specs.Bytes.{number, number_bytes}
use Rattle.modbus_frame.specs.Frame.{frame_bytes, protocol_of, length_of, RestsBeginFrames, BeginningsAreRests}
use Rattle.modbus_frame.proofs.Numbers.{number_bytes-number}
use Rattle.modbus_frame.proofs.Headers.{protocol_of-append, length_of-append}
use Rattle.modbus_frame.proofs.Streams.{length_of-frame, length-frame_bytes}

-- the frame of a header with protocol 0 and the right length
spelled_by : (a b high low unit : ℕ) (pdu : List ℕ) → b < 256 → low < 256 → number high low ≡ 1 + length pdu → frame_bytes (record { transaction = number a b; unit = unit; pdu = pdu }) ≡ a ∷ b ∷ 0 ∷ 0 ∷ high ∷ low ∷ unit ∷ pdu
spelled_by a b high low unit pdu second last len =
    ap (λ l. l ++ 0 ∷ 0 ∷ number_bytes (1 + length pdu) ++ unit ∷ pdu) (number_bytes-number a b second) ∙ ap (λ l. a ∷ b ∷ 0 ∷ 0 ∷ l ++ unit ∷ pdu) (ap number_bytes (sym len) ∙ number_bytes-number high low last)

pub rests_begin_frames : RestsBeginFrames
rests_begin_frames [] fit long rest = absurd (omega arith)
rests_begin_frames (a ∷ []) fit long rest = absurd (omega arith)
rests_begin_frames (a ∷ b ∷ []) fit long rest = absurd (omega arith)
rests_begin_frames (a ∷ b ∷ c ∷ []) fit long rest = absurd (omega arith)
rests_begin_frames (a ∷ b ∷ c ∷ d ∷ []) fit long rest = absurd (omega arith)
rests_begin_frames (a ∷ b ∷ c ∷ d ∷ e ∷ []) fit long rest = absurd (omega arith)
rests_begin_frames (a ∷ b ∷ c ∷ d ∷ e ∷ g ∷ []) fit long rest =
    let n = number e g - 1 in
    let pdu : List ℕ = replicate n 0 in
    let many : length pdu ≡ n = length-replicate n 0 in
    let size = rest.announced (omega arith) in
    let protocol = rest.protocol (omega arith) in
    let third : c ≡ 0 = omega arith in
    let fourth : d ≡ 0 = omega arith in
    (record { transaction = number a b; unit = 0; pdu = pdu }, 0 ∷ pdu, (omega arith, omega arith), omega arith, spelled_by a b e g 0 pdu (fit 1) (fit 5) (omega arith) ∙ ap (λ m. a ∷ b ∷ m ∷ 0 ∷ e ∷ g ∷ 0 ∷ pdu) (sym third) ∙ ap (λ m. a ∷ b ∷ c ∷ m ∷ e ∷ g ∷ 0 ∷ pdu) (sym fourth))
rests_begin_frames (a ∷ b ∷ c ∷ d ∷ e ∷ g ∷ unit ∷ front) fit long rest =
    let n = number e g - 1 - length front in
    let more : List ℕ = replicate n 0 in
    let many : length more ≡ n = length-replicate n 0 in
    let size = rest.announced (omega arith) in
    let protocol = rest.protocol (omega arith) in
    let short = rest.unfinished (omega arith) in
    let third : c ≡ 0 = omega arith in
    let fourth : d ≡ 0 = omega arith in
    let whole : length (front ++ more) ≡ number e g - 1 = omega (arith, length-append front more) in
    (record { transaction = number a b; unit = unit; pdu = front ++ more }, more, (omega arith, omega arith), omega arith, spelled_by a b e g unit (front ++ more) (fit 1) (fit 5) (omega arith) ∙ ap (λ m. a ∷ b ∷ m ∷ 0 ∷ e ∷ g ∷ unit ∷ (front ++ more)) (sym third) ∙ ap (λ m. a ∷ b ∷ c ∷ m ∷ e ∷ g ∷ unit ∷ (front ++ more)) (sym fourth))

pub beginnings_are_rests : BeginningsAreRests
beginnings_are_rests bytes begins =
    let frame = begins.0 in
    let more = begins.1 in
    let spelled = begins.4 in
    let len : length bytes + length more ≡ 7 + length frame.pdu = sym (length-append bytes more) ∙ ap length (sym spelled) ∙ length-frame_bytes frame in
    record {
      protocol = λ h. sym (protocol_of-append bytes more h) ∙ ap protocol_of (sym spelled);
      announced = λ h. let size : length_of bytes ≡ 1 + length frame.pdu = sym (length_of-append bytes more h) ∙ ap length_of (sym spelled) ∙ length_of-frame frame [] begins.2 in (omega (arith, begins.2), omega (arith, begins.2));
      unfinished = λ h. let size : length_of bytes ≡ 1 + length frame.pdu = sym (length_of-append bytes more h) ∙ ap length_of (sym spelled) ∙ length_of-frame frame [] begins.2 in omega (arith, begins.3);
    }
