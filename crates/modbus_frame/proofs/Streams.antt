-- How a stream goes on: by a frame, by less than one, by a fault.
use Rattle.std.proofs.Common.{◌≡◌, ℕ, ◌+◌, List, [], ◌∷◌, ◌++◌, length, Option, None, Some, Result, Ok, Err, append_assoc, sym, ◌∙◌, ap, subst, arith, refl, length-append, take, take_all, drop, get_or, ◌/◌, ◌%◌}
use Rattle.std.specs.Option.{option_to_list}
use Rattle.std.specs.List.{flat_map, AllByRecursion}
use Rattle.std.proofs.lemmas.List.{append-nil, take_at, drop_at}
use Rattle.std.proofs.lemmas.List.Concat.{flat_map-append}
use Rattle.modbus_frame.specs.declared.fault.FrameFault.{FrameFault}
use Rattle.modbus_frame.specs.declared.fault.FrameFault.TheVariants.{BadProtocol, BadLength}
use Rattle.modbus_frame.specs.declared.frame.Frame.{Frame}
use Rattle.modbus_frame.specs.declared.framer.Fed.{Fed}
use Rattle.modbus_frame.specs.Frame.{frame_bytes, stream_of, protocol_of, length_of, IsFrame, IsRest, IsFaulty, IsLength, Splits, Breaks}
use Rattle.modbus_frame.specs.Held.{Held}
use Rattle.modbus_frame.specs.Framing.{Feeds, FeedsUnless, FeedsFrom, GivesOrKeeps, start, call, used_of, frames_of, IsRead, IsReadUnless, RunsReadTheStream, OneReading, CutsGiveTheSame}
use Rattle.modbus_frame.proofs.Headers.{protocol_of-append, length_of-append}

-- Nothing is a rest.
pub IsRest-nil : IsRest []
IsRest-nil = record {
  protocol = λ h. absurd (omega (arith, h));
  announced = λ h. absurd (omega (arith, h));
  unfinished = λ h. absurd (omega (arith, h));
}

-- A fault stays when more comes.
pub IsFaulty-append : (fault : FrameFault) (bytes more : List ℕ) → IsFaulty fault bytes → IsFaulty fault (bytes ++ more)
IsFaulty-append BadProtocol bytes more h =
    let longer = length-append bytes more in
    let same = protocol_of-append bytes more h.0 in
    (omega (arith, h.0), λ zero. h.1 (sym same ∙ zero))
IsFaulty-append BadLength bytes more h =
    let longer = length-append bytes more in
    let same = protocol_of-append bytes more (omega (arith, h.0)) in
    let announced = length_of-append bytes more h.0 in
    let P : ℕ → Type 0 = IsLength in
    (omega (arith, h.0), same ∙ h.1, λ good. h.2 (subst P announced good))

-- frames that all are, and one more
pub AllByRecursion-more : (frames : List Frame) (frame : Frame) → AllByRecursion IsFrame frames → IsFrame frame → AllByRecursion IsFrame (frames ++ frame ∷ [])
AllByRecursion-more [] frame each one = (one, tt)
AllByRecursion-more (first ∷ frames) frame each one = (each.0, AllByRecursion-more frames frame each.1 one)

-- The bytes that came after a whole frame's first ones make it one of the stream's.
pub Splits-frame : {stream : List ℕ} {frames : List Frame} {kept : List ℕ} (used : List ℕ) (frame : Frame) → Splits stream frames kept → kept ++ used ≡ frame_bytes frame → IsFrame frame → Splits (stream ++ used) (frames ++ frame ∷ []) []
Splits-frame {stream} {frames} {kept} used frame split spelled one = record {
  whole = ap (λ s. s ++ used) split.whole ∙ append_assoc (flat_map frame_bytes frames) kept used ∙ ap (λ s. flat_map frame_bytes frames ++ s) (spelled ∙ sym (append-nil (frame_bytes frame))) ∙ sym (flat_map-append frame_bytes frames (frame ∷ [])) ∙ sym (append-nil (flat_map frame_bytes (frames ++ frame ∷ [])));
  each = AllByRecursion-more frames frame split.each one;
  partial = IsRest-nil;
}

-- More that is still less than a frame stays after the stream's frames.
pub Splits-rest : {stream : List ℕ} {frames : List Frame} {kept : List ℕ} (more : List ℕ) → Splits stream frames kept → IsRest (kept ++ more) → Splits (stream ++ more) frames (kept ++ more)
Splits-rest {stream} {frames} {kept} more split rest = record {
  whole = ap (λ s. s ++ more) split.whole ∙ append_assoc (flat_map frame_bytes frames) kept more;
  each = split.each;
  partial = rest;
}

-- More that makes no frame breaks the stream.
pub Splits-fault : {stream : List ℕ} {frames : List Frame} {kept : List ℕ} (more : List ℕ) (fault : FrameFault) → Splits stream frames kept → IsFaulty fault (kept ++ more) → Breaks (stream ++ more) frames fault
Splits-fault {stream} {frames} {kept} more fault split faulty = record {
  rest = kept ++ more;
  whole = ap (λ s. s ++ more) split.whole ∙ append_assoc (flat_map frame_bytes frames) kept more;
  each = split.each;
  faulty = faulty;
}

-- A broken stream stays so.
pub Breaks-more : {stream : List ℕ} {frames : List Frame} {fault : FrameFault} (more : List ℕ) → Breaks stream frames fault → Breaks (stream ++ more) frames fault
Breaks-more {stream} {frames} {fault} more broken = record {
  rest = broken.rest ++ more;
  whole = ap (λ s. s ++ more) broken.whole ∙ append_assoc (flat_map frame_bytes frames) broken.rest more;
  each = broken.each;
  faulty = IsFaulty-append fault broken.rest more broken.faulty;
}

-- One call reads on in the stream.
IsRead-gives : (stream : List ℕ) (frames : List Frame) (kept piece : List ℕ) (used : ℕ) (frame : Option Frame) (new : Held) → Splits stream frames kept → GivesOrKeeps kept piece used frame new → IsRead (stream ++ take used piece) (frames ++ option_to_list frame) new
IsRead-gives stream frames kept piece used (Some frame) new split given =
    let P : Held → Type 0 = IsRead (stream ++ take used piece) (frames ++ frame ∷ []) in
    subst P (sym given.after) (Splits-frame (take used piece) frame split given.spelled given.is_frame)
IsRead-gives stream frames kept piece used None new split keeps =
    let all : take used piece ≡ piece = take_all used piece (omega (arith, keeps.all)) in
    let P : Held → Type 0 = IsRead (stream ++ piece) frames in
    rw (append-nil frames, all) (subst P (sym keeps.after) (Splits-rest piece split keeps.partial))

IsRead-from : (stream : List ℕ) (frames : List Frame) (kept piece : List ℕ) (result : Result Fed FrameFault) (new : Held) → Splits stream frames kept → FeedsFrom kept piece result new → IsRead (stream ++ used_of piece result) (frames ++ frames_of result) new
IsRead-from stream frames kept piece (Ok fed) new split feeds = IsRead-gives stream frames kept piece fed.used fed.frame new split feeds
IsRead-from stream frames kept piece (Err fault) new split met =
    let P : Held → Type 0 = IsRead (stream ++ piece) frames in
    rw (append-nil frames) (subst P (sym met.after) (refl, Splits-fault piece fault split met.faulty))

IsRead-unless : (stream : List ℕ) (frames : List Frame) (kept : List ℕ) (fault : Option FrameFault) (piece : List ℕ) (result : Result Fed FrameFault) (new : Held) → IsReadUnless fault stream frames kept → FeedsUnless fault (record { kept = kept; fault = fault }) piece result new → IsRead (stream ++ used_of piece result) (frames ++ frames_of result) new
IsRead-unless stream frames kept None piece result new split feeds = IsRead-from stream frames kept piece result new split feeds
IsRead-unless stream frames kept (Some fault) piece result new broken stands =
    let P : Held → Type 0 = IsRead (stream ++ piece) frames in
    rw (stands.0, append-nil frames) (subst P (sym stands.1) (broken.0, Breaks-more piece broken.1))

-- What a framer gave and holds is the stream so far, also after one more call.
pub IsRead-feeds : (stream : List ℕ) (frames : List Frame) (old : Held) (piece : List ℕ) (result : Result Fed FrameFault) (new : Held) → IsRead stream frames old → Feeds old piece result new → IsRead (stream ++ used_of piece result) (frames ++ frames_of result) new
IsRead-feeds stream frames old piece result new = IsRead-unless stream frames old.kept old.fault piece result new

pub runs_read_the_stream : RunsReadTheStream
runs_read_the_stream stream frames held start = record { whole = refl; each = tt; partial = IsRest-nil }
runs_read_the_stream stream frames held (call {bytes} {frames = given} {old} run piece result new feeds) = IsRead-feeds bytes given old piece result new (runs_read_the_stream bytes given old run) feeds

-- a frame stands at the front
abbrev pub HasFront : List ℕ → Type 0
HasFront rest = (frame : Frame) × (more : List ℕ) × IsFrame frame × (rest ≡ frame_bytes frame ++ more)

pub length_of-frame : (frame : Frame) (more : List ℕ) → IsFrame frame → length_of (frame_bytes frame ++ more) ≡ 1 + length frame.pdu
length_of-frame frame more is_frame = omega (arith, is_frame.0, is_frame.1)

pub length-frame_bytes : (frame : Frame) → length (frame_bytes frame) ≡ 7 + length frame.pdu
length-frame_bytes frame = omega arith

pub IsRest-front : (rest : List ℕ) → IsRest rest → ¬ (HasFront rest)
IsRest-front rest partial front =
    let frame = front.0 in
    let more = front.1 in
    let len : length rest ≡ 7 + length frame.pdu + length more = ap length front.3 ∙ length-append (frame_bytes frame) more ∙ ap (λ n. n + length more) (length-frame_bytes frame) in
    let announced : length_of rest ≡ 1 + length frame.pdu = ap length_of front.3 ∙ length_of-frame frame more front.2 in
    let short = partial.unfinished (omega arith) in
    omega arith

pub IsFaulty-front : (fault : FrameFault) (rest : List ℕ) → IsFaulty fault rest → ¬ (HasFront rest)
IsFaulty-front BadProtocol rest faulty front = faulty.1 (ap protocol_of front.3)
IsFaulty-front BadLength rest faulty front =
    let announced : length_of rest ≡ 1 + length (front.0).pdu = ap length_of front.3 ∙ length_of-frame front.0 front.1 front.2 in
    let least = front.2.0 in
    let most = front.2.1 in
    faulty.2 (omega arith, omega arith)

same_number : (m n : ℕ) → m / 256 ≡ n / 256 → m % 256 ≡ n % 256 → m ≡ n
same_number m n high low = omega arith

frame_of_parts : ℕ → ℕ → List ℕ → Frame
frame_of_parts transaction unit pdu = record { transaction = transaction; unit = unit; pdu = pdu }

-- Two frames that begin one list are one.
pub same_front : (frame other : Frame) (more rest : List ℕ) → IsFrame frame → IsFrame other → frame_bytes frame ++ more ≡ frame_bytes other ++ rest → (frame ≡ other) × (more ≡ rest)
unfolding frame_of_parts
same_front frame other more rest one two same =
    let at : ℕ → List ℕ → ℕ = λ k l. get_or l k 0 in
    let transaction = same_number frame.transaction other.transaction (ap (at 0) same) (ap (at 1) same) in
    let unit = ap (at 6) same in
    let len = same_number (1 + length frame.pdu) (1 + length other.pdu) (ap (at 4) same) (ap (at 5) same) in
    let n = length frame.pdu in
    let behind : frame.pdu ++ more ≡ other.pdu ++ rest = ap (drop 7) same in
    let pdu : frame.pdu ≡ other.pdu = sym (take_at frame.pdu more n refl) ∙ ap (take n) behind ∙ take_at other.pdu rest n (omega arith) in
    let after : more ≡ rest = sym (drop_at frame.pdu more n refl) ∙ ap (drop n) behind ∙ drop_at other.pdu rest n (omega arith) in
    (ap (λ t. frame_of_parts t frame.unit frame.pdu) transaction ∙ ap (λ u. frame_of_parts other.transaction u frame.pdu) unit ∙ ap (λ p. frame_of_parts other.transaction other.unit p) pdu, after)

-- A list is frames and something else in one way.
pub same_stream : (frames others : List Frame) (more rest : List ℕ) → AllByRecursion IsFrame frames → AllByRecursion IsFrame others → ¬ (HasFront more) → ¬ (HasFront rest) → stream_of frames more ≡ stream_of others rest → (frames ≡ others) × (more ≡ rest)
same_stream [] [] more rest each all no_front none same = (refl, same)
same_stream [] (other ∷ others) more rest each all no_front none same = absurd (no_front (other, flat_map frame_bytes others ++ rest, all.0, same ∙ append_assoc (frame_bytes other) (flat_map frame_bytes others) rest))
same_stream (frame ∷ frames) [] more rest each all no_front none same = absurd (none (frame, flat_map frame_bytes frames ++ more, each.0, sym same ∙ append_assoc (frame_bytes frame) (flat_map frame_bytes frames) more))
same_stream (frame ∷ frames) (other ∷ others) more rest each all no_front none same =
    let first = same_front frame other (stream_of frames more) (stream_of others rest) each.0 all.0 (sym (append_assoc (frame_bytes frame) (flat_map frame_bytes frames) more) ∙ same ∙ append_assoc (frame_bytes other) (flat_map frame_bytes others) rest) in
    let next = same_stream frames others more rest each.1 all.1 no_front none first.1 in
    (cc, next.1)

-- A rest is no fault, and a fault has one cause.
pub IsRest-IsFaulty : (fault : FrameFault) (rest : List ℕ) → IsRest rest → IsFaulty fault rest → ⊥
IsRest-IsFaulty BadProtocol rest partial faulty = faulty.1 (partial.protocol faulty.0)
IsRest-IsFaulty BadLength rest partial faulty = faulty.2 (partial.announced faulty.0)

pub same_fault : (fault other : FrameFault) (rest : List ℕ) → IsFaulty fault rest → IsFaulty other rest → fault ≡ other
same_fault BadProtocol BadProtocol rest one two = refl
same_fault BadProtocol BadLength rest one two = absurd (one.1 two.1)
same_fault BadLength BadProtocol rest one two = absurd (two.1 one.1)
same_fault BadLength BadLength rest one two = refl

held_of : List ℕ → Option FrameFault → Held
held_of kept fault = record { kept = kept; fault = fault }

one_reading_unless : (fault other : Option FrameFault) (kept left : List ℕ) (stream : List ℕ) (frames others : List Frame) → IsReadUnless fault stream frames kept → IsReadUnless other stream others left → (frames ≡ others) × (held_of kept fault ≡ held_of left other)
one_reading_unless None None kept left stream frames others one two =
    let same = same_stream frames others kept left one.each two.each (IsRest-front kept one.partial) (IsRest-front left two.partial) (sym one.whole ∙ two.whole) in
    (same.0, ap (λ k. held_of k None) same.1)
one_reading_unless None (Some other) kept left stream frames others one two =
    let same = same_stream frames others kept (two.1).rest one.each (two.1).each (IsRest-front kept one.partial) (IsFaulty-front other (two.1).rest (two.1).faulty) (sym one.whole ∙ (two.1).whole) in
    let P : List ℕ → Type 0 = IsRest in
    absurd (IsRest-IsFaulty other (two.1).rest (subst P same.1 one.partial) (two.1).faulty)
one_reading_unless (Some fault) None kept left stream frames others one two =
    let same = same_stream frames others (one.1).rest left (one.1).each two.each (IsFaulty-front fault (one.1).rest (one.1).faulty) (IsRest-front left two.partial) (sym (one.1).whole ∙ two.whole) in
    let P : List ℕ → Type 0 = IsRest in
    absurd (IsRest-IsFaulty fault (one.1).rest (subst P (sym same.1) two.partial) (one.1).faulty)
one_reading_unless (Some fault) (Some other) kept left stream frames others one two =
    let same = same_stream frames others (one.1).rest (two.1).rest (one.1).each (two.1).each (IsFaulty-front fault (one.1).rest (one.1).faulty) (IsFaulty-front other (two.1).rest (two.1).faulty) (sym (one.1).whole ∙ (two.1).whole) in
    let P : List ℕ → Type 0 = IsFaulty fault in
    let cause = same_fault fault other (two.1).rest (subst P same.1 (one.1).faulty) (two.1).faulty in
    (same.0, ap (λ k. held_of k (Some fault)) (one.0 ∙ sym two.0) ∙ ap (λ f. held_of left (Some f)) cause)

pub one_reading : OneReading
unfolding held_of
one_reading stream frames others held ended one two = one_reading_unless held.fault ended.fault held.kept ended.kept stream frames others one two

pub cuts_give_the_same : CutsGiveTheSame
cuts_give_the_same stream frames others held ended one two = one_reading stream frames others held ended (runs_read_the_stream stream frames held one) (runs_read_the_stream stream others ended two)
