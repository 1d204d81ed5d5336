-- Frames that came for a request and were dropped.
use Rattle.std.proofs.Common.{◌≡◌, ℕ, zero, suc, ◌+◌, ◌-◌, ◌<◌, false, true, List, [], ◌∷◌, ◌++◌, length, drop, take, Option, None, Some, Ok, Err, refl, sym, ap, ◌∙◌, subst, arith, append_assoc, length-append}
use Rattle.std.proofs.lemmas.List.{append-nil, drop_all, take-append-drop}
use Rattle.std.specs.List.{flat_map, AllByRecursion}
use Rattle.modbus_frame.specs.declared.fault.FrameFault.{FrameFault}
use Rattle.modbus_frame.specs.declared.frame.Frame.{Frame}
use Rattle.modbus_frame.specs.Frame.{frame_bytes, IsFrame, stream_of}
use Rattle.modbus_frame.specs.Framing.{GivesOrKeeps, empty}
use Rattle.modbus_frame.specs.Held.{Held}
use Rattle.modbus_frame.specs.Message.{response_of}
use Rattle.modbus_frame.specs.Reading.{Reading}
use Rattle.modbus_frame.proofs.Streams.{AllByRecursion-more as each_more}
use Rattle.gateway.specs.declared.poller.outcome.Outcome.TheVariants as outcome
use Rattle.gateway.specs.poller.LinkRun.{is_reply, outcome_by, decided_within}
use Rattle.service_requests.specs.Hearing.{FeedsNext, Wait, unused, Settles, MeetsFault}

-- One feed, told of the bytes after what it used.
pub feeds_next : (held : Held) (piece : List ℕ) (used : ℕ) (frame : Option Frame) (new : Held) (unfed : List ℕ) → GivesOrKeeps held.kept piece used frame new → unfed ≡ drop used piece
    → FeedsNext (record { held = held; unfed = piece }) (Ok frame) (record { held = new; unfed = unfed })
feeds_next held piece used (Some frame) new unfed gives rest =
    let parts : held.kept ++ piece ≡ (held.kept ++ take used piece) ++ drop used piece = ap (λ l. held.kept ++ l) (sym (take-append-drop used piece)) ∙ sym (append_assoc held.kept (take used piece) (drop used piece)) in
    (gives.is_frame, parts ∙ (ap (λ l. l ++ drop used piece) gives.spelled ∙ ap (λ l. frame_bytes frame ++ l) (sym rest)), gives.after)
feeds_next held piece used None new unfed keeps rest = (keeps.partial, keeps.after, rest ∙ drop_all used piece (omega (arith, keeps.all)))

-- These frames were dropped, and so many more may be.
pub record HeardSoFar (old : Reading) (wait : Wait) (may_drop : ℕ) (now : Reading) : Type 0 where
  pub frames : List Frame
  pub each : AllByRecursion IsFrame frames
  pub dropped : wait.may_drop ≡ length frames + may_drop
  pub undecided : (behind : List Frame) → decided_within wait.asked wait.may_drop (frames ++ behind) ≡ decided_within wait.asked may_drop behind
  pub came : unused old ≡ stream_of frames (unused now)
  pub good : now.held.fault ≡ None
  pub between : 0 < length frames → now.held ≡ empty

-- the bytes of one frame more
stream_more : (frames : List Frame) (frame : Frame) (rest : List ℕ) → stream_of frames (frame_bytes frame ++ rest) ≡ stream_of (frames ++ frame ∷ []) rest
stream_more [] frame rest = ap (λ l. l ++ rest) (sym (append-nil (frame_bytes frame)))
stream_more (f ∷ fs) frame rest =
    append_assoc (frame_bytes f) (flat_map frame_bytes fs) (frame_bytes frame ++ rest)
    ∙ ap (λ l. frame_bytes f ++ l) (stream_more fs frame rest)
    ∙ sym (append_assoc (frame_bytes f) (flat_map frame_bytes (fs ++ frame ∷ [])) rest)

came_next : (old now then : Reading) (frames : List Frame) (frame : Frame) → unused old ≡ stream_of frames (unused now)
    → unused now ≡ frame_bytes frame ++ then.unfed → then.held ≡ empty → unused old ≡ stream_of (frames ++ frame ∷ []) (unused then)
came_next old now then frames frame came next held =
    let after : then.held.kept ++ then.unfed ≡ then.unfed = ap (λ (h : Held). h.kept ++ then.unfed) held in
    came ∙ ap (stream_of frames) next ∙ stream_more frames frame then.unfed ∙ ap (stream_of (frames ++ frame ∷ [])) (sym after)

-- one frame more is dropped
heard_next : (old now then : Reading) (wait : Wait) (n : ℕ) (frame : Frame) → HeardSoFar old wait (suc n) now
    → FeedsNext now (Ok (Some frame)) then → is_reply wait.asked frame ≡ false → HeardSoFar old wait n then
heard_next old now then wait n frame so_far feeds other = record {
  frames = so_far.frames ++ frame ∷ [];
  each = each_more so_far.frames frame so_far.each feeds.0;
  dropped = omega (arith, so_far.dropped, length-append so_far.frames (frame ∷ []));
  undecided = λ behind. ap (decided_within wait.asked wait.may_drop) (append_assoc so_far.frames (frame ∷ []) behind) ∙ so_far.undecided (frame ∷ behind) ∙ rw other refl;
  came = came_next old now then so_far.frames frame so_far.came feeds.1 feeds.2;
  good = ap (λ (h : Held). h.fault) feeds.2;
  between = λ some. feeds.2;
}

pub heard_more : (old now then : Reading) (wait : Wait) (may_drop : ℕ) (frame : Frame) → 0 < may_drop → HeardSoFar old wait may_drop now
    → FeedsNext now (Ok (Some frame)) then → is_reply wait.asked frame ≡ false → HeardSoFar old wait (may_drop - 1) then
heard_more old now then wait zero frame some so_far feeds other = absurd (omega (arith, some))
heard_more old now then wait (suc n) frame some so_far feeds other =
    let e : suc n - 1 ≡ n = omega arith in
    subst (λ k. HeardSoFar old wait k then) (sym e) (heard_next old now then wait n frame so_far feeds other)

-- the reply came
pub settles_by_reply : (old now then : Reading) (wait : Wait) (may_drop : ℕ) (frame : Frame) → 0 < may_drop → HeardSoFar old wait may_drop now
    → FeedsNext now (Ok (Some frame)) then → is_reply wait.asked frame ≡ true → Settles old wait (outcome_by (response_of wait.asked.request frame.pdu)) then
settles_by_reply old now then wait zero frame some so_far feeds reply = absurd (omega (arith, some))
settles_by_reply old now then wait (suc n) frame some so_far feeds reply = record {
  frames = so_far.frames ++ frame ∷ [];
  each = each_more so_far.frames frame so_far.each feeds.0;
  decided = so_far.undecided (frame ∷ []) ∙ rw reply refl;
  came = came_next old now then so_far.frames frame so_far.came feeds.1 feeds.2;
  held = feeds.2;
}

-- no more may be dropped
pub settles_stale : (old now : Reading) (wait : Wait) → 0 < wait.may_drop → HeardSoFar old wait 0 now → Settles old wait outcome.Stale now
settles_stale old now wait some so_far = record {
  frames = so_far.frames;
  each = so_far.each;
  decided = ap (decided_within wait.asked wait.may_drop) (sym (append-nil so_far.frames)) ∙ so_far.undecided [];
  came = so_far.came;
  held = so_far.between (omega (arith, some, so_far.dropped));
}

reading_of : Held → List ℕ → Reading
reading_of held unfed = record { held = held; unfed = unfed }

reading_parts : (r : Reading) (held : Held) (unfed : List ℕ) → r.held ≡ held → r.unfed ≡ unfed → r ≡ record { held = held; unfed = unfed }
unfolding reading_of
reading_parts r held unfed one two = ap (λ h. reading_of h r.unfed) one ∙ ap (λ u. reading_of held u) two

-- what came is no frame
pub meets_fault : (old now then : Reading) (wait : Wait) (may_drop : ℕ) (fault : FrameFault) → 0 < may_drop → HeardSoFar old wait may_drop now
    → FeedsNext now (Err fault) then → MeetsFault old wait then
meets_fault old now then wait zero fault some so_far feeds = absurd (omega (arith, some))
meets_fault old now then wait (suc n) fault some so_far feeds = record {
  frames = so_far.frames;
  each = so_far.each;
  undecided = ap (decided_within wait.asked wait.may_drop) (sym (append-nil so_far.frames)) ∙ so_far.undecided [];
  rest = unused now;
  came = so_far.came;
  fault = fault;
  faulty = feeds.0;
  after = reading_parts then (record { kept = []; fault = Some fault }) [] feeds.1 feeds.2;
}
