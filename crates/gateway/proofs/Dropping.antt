-- Frames that came for a request, and don't decide it.
use Rattle.std.proofs.Common.{◌≡◌, ℕ, zero, suc, ◌-◌, ◌<◌, false, true, List, [], ◌∷◌, ◌++◌, Option, None, Ok, Err, refl, sym, ap, ◌∙◌, subst, arith, append_assoc, inl, inr}
use Rattle.std.proofs.lemmas.List.{append-nil}
use Rattle.std.specs.Io.KnownBytes.{Consumes}
use Rattle.std.specs.List.{flat_map, AllByRecursion}
use Rattle.modbus_frame.specs.declared.fault.FrameFault.{FrameFault}
use Rattle.modbus_frame.specs.declared.frame.Frame.{Frame}
use Rattle.modbus_frame.specs.declared.link.LinkFault.{LinkFault}
use Rattle.modbus_frame.specs.declared.link.LinkFault.TheVariants as link
use Rattle.modbus_frame.specs.Exchange.{ReadsNext, CountsReceived, left}
use Rattle.modbus_frame.specs.Frame.{frame_bytes, IsFrame}
use Rattle.modbus_frame.specs.Link.{Failures, FailsBy}
use Rattle.modbus_frame.specs.Message.{response_of}
use Rattle.modbus_frame.specs.Reading.{Reading}
use Rattle.modbus_frame.proofs.Answering.{came_more, is_in_part}
use Rattle.modbus_frame.proofs.Sending.{FailsBy-then}
use Rattle.gateway.specs.declared.poller.outcome.Outcome.TheVariants as outcome
use Rattle.gateway.specs.poller.LinkRun.{Asked, is_reply, outcome_by, decided_by, decided_within}
use Rattle.gateway.specs.poller.Polling.{EndsWaiting}
use Rattle.gateway.specs.poller.Waiting.{Gets, Misses, CountsWaited}
use Rattle.modbus_frame.proofs.Streams.{AllByRecursion-more as each_more}

-- These frames were dropped, and so many more may be.
pub record DroppedSoFar (coming rest : Option (List ℕ)) (asked : Asked) (may_drop : ℕ) (fault : Option FrameFault) : Type 0 where
  pub frames : List Frame
  pub each : AllByRecursion IsFrame frames
  pub dropped : (more : List Frame) → decided_by asked (frames ++ more) ≡ decided_within asked may_drop more
  pub came : Consumes coming rest (flat_map frame_bytes frames)
  pub fresh : fault ≡ None

dropped_next : (coming rest after : Option (List ℕ)) (asked : Asked) (may_drop : ℕ) (fault held : Option FrameFault) (frame : Frame)
    → DroppedSoFar coming rest asked (suc may_drop) fault → IsFrame frame → Consumes rest after (frame_bytes frame) → is_reply asked frame ≡ false → held ≡ None
    → DroppedSoFar coming after asked may_drop held
dropped_next coming rest after asked may_drop fault held frame so_far is_frame came other fresh = record {
  frames = so_far.frames ++ frame ∷ [];
  each = each_more so_far.frames frame so_far.each is_frame;
  dropped = λ more. ap (decided_by asked) (append_assoc so_far.frames (frame ∷ []) more) ∙ so_far.dropped (frame ∷ more) ∙ rw other refl;
  came = came_more coming rest after so_far.frames frame so_far.came came;
  fresh = fresh;
}

-- a frame more is dropped
pub dropped_more : (coming rest after : Option (List ℕ)) (asked : Asked) (may_drop : ℕ) (fault held : Option FrameFault) (frame : Frame)
    → 0 < may_drop → DroppedSoFar coming rest asked may_drop fault → IsFrame frame → Consumes rest after (frame_bytes frame) → is_reply asked frame ≡ false → held ≡ None
    → DroppedSoFar coming after asked (may_drop - 1) held
dropped_more coming rest after asked zero fault held frame some so_far is_frame came other fresh = absurd (omega (arith, some))
dropped_more coming rest after asked (suc n) fault held frame some so_far is_frame came other fresh =
    let e : suc n - 1 ≡ n = omega arith in
    subst (λ k. DroppedSoFar coming after asked k held) (sym e) (dropped_next coming rest after asked n fault held frame so_far is_frame came other fresh)

-- the reply came
pub gets_reply : (coming rest after : Option (List ℕ)) (asked : Asked) (may_drop : ℕ) (fault : Option FrameFault) (frame : Frame)
    → 0 < may_drop → DroppedSoFar coming rest asked may_drop fault → IsFrame frame → Consumes rest after (frame_bytes frame) → is_reply asked frame ≡ true
    → Gets coming after asked (outcome_by (response_of asked.request frame.pdu))
gets_reply coming rest after asked zero fault frame some so_far is_frame came reply = absurd (omega (arith, some))
gets_reply coming rest after asked (suc n) fault frame some so_far is_frame came reply = record {
  frames = so_far.frames ++ frame ∷ [];
  decided = (each_more so_far.frames frame so_far.each is_frame, so_far.dropped (frame ∷ []) ∙ rw reply refl);
  came = came_more coming rest after so_far.frames frame so_far.came came;
}

-- no more may be dropped
pub gets_stale : (coming rest : Option (List ℕ)) (asked : Asked) (fault : Option FrameFault)
    → DroppedSoFar coming rest asked 0 fault → Gets coming rest asked outcome.Stale
gets_stale coming rest asked fault so_far = record {
  frames = so_far.frames;
  decided = (so_far.each, ap (decided_by asked) (sym (append-nil so_far.frames)) ∙ so_far.dropped []);
  came = so_far.came;
}

ends_waiting : (e : LinkFault) (stream : Option (List ℕ)) (q : Reading) (coming : Option (List ℕ)) → ReadsNext stream (left q coming) (Err e) q → EndsWaiting e stream ((q.held).kept ++ q.unfed) coming
ends_waiting link.Read stream q coming reads = is_in_part stream q coming reads.0 reads.1
ends_waiting link.Write stream q coming reads = absurd reads
ends_waiting (link.Frame f) stream q coming reads = reads.0
ends_waiting link.End stream q coming reads = inl reads.0
ends_waiting link.Turns stream q coming reads = is_in_part stream q coming reads.0 reads.1
ends_waiting link.OutOfMemory stream q coming reads = absurd reads

misses_by : (stream rest : Option (List ℕ)) (ahead : List ℕ) (coming : Option (List ℕ)) (asked : Asked) (may_drop : ℕ) (fault : Option FrameFault) (e : LinkFault)
    → 0 < may_drop → DroppedSoFar stream rest asked may_drop fault → EndsWaiting e rest ahead coming → Misses stream ahead coming asked e
misses_by stream rest ahead coming asked zero fault e some so_far ends = absurd (omega (arith, some))
misses_by stream rest ahead coming asked (suc n) fault e some so_far ends = record {
  frames = so_far.frames;
  left = rest;
  undecided = (so_far.each, ap (decided_by asked) (sym (append-nil so_far.frames)) ∙ so_far.dropped []);
  came = so_far.came;
  ends = ends;
}

-- no frame more came
pub misses : (stream rest : Option (List ℕ)) (q : Reading) (coming : Option (List ℕ)) (asked : Asked) (may_drop : ℕ) (fault : Option FrameFault) (e : LinkFault)
    → 0 < may_drop → DroppedSoFar stream rest asked may_drop fault → ReadsNext rest (left q coming) (Err e) q → Misses stream ((q.held).kept ++ q.unfed) coming asked e
misses stream rest q coming asked may_drop fault e some so_far reads =
    misses_by stream rest ((q.held).kept ++ q.unfed) coming asked may_drop fault e some so_far (ends_waiting e rest q coming reads)

-- the stream ended before the reply
pub misses_end : (stream rest : Option (List ℕ)) (q : Reading) (coming : Option (List ℕ)) (asked : Asked) (may_drop : ℕ) (fault : Option FrameFault)
    → 0 < may_drop → DroppedSoFar stream rest asked may_drop fault → ReadsNext rest (left q coming) (Ok None) q → Misses stream ((q.held).kept ++ q.unfed) coming asked link.End
misses_end stream rest q coming asked may_drop fault some so_far reads =
    misses_by stream rest ((q.held).kept ++ q.unfed) coming asked may_drop fault link.End some so_far (inr reads.0)

-- the counts of the last read
pub failed_waiting : (a b c : Failures) (e : LinkFault) (turns : ℕ) → FailsBy 0 0 0 a b → CountsReceived b c (Err e) turns → CountsWaited a c (Err e) turns
failed_waiting a b c link.Read turns first second = FailsBy-then 1 0 0 a b c first second
failed_waiting a b c link.Write turns first second = absurd second
failed_waiting a b c (link.Frame f) turns first second = FailsBy-then 0 0 0 a b c first second
failed_waiting a b c link.End turns first second = FailsBy-then 0 0 1 a b c first second
failed_waiting a b c link.Turns turns first second = (FailsBy-then 0 0 0 a b c first second.0, second.1)
failed_waiting a b c link.OutOfMemory turns first second = absurd second
