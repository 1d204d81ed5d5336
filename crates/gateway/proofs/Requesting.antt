-- A request that was sent, and the wait after it.
use Rattle.std.proofs.Common.{ℕ, List, [], Option, None, Some, Result, Ok, Err, refl, inl, inr}
use Rattle.std.proofs.KnownBytes.{Consumes-trans, Consumes-kept, Consumes-nil, Appends-kept}
use Rattle.std.specs.Io.KnownBytes.{Keeps, Appends, Consumes, prepend_known}
use Rattle.std.specs.List.{flat_map}
use Rattle.modbus_frame.specs.declared.link.LinkFault.{LinkFault}
use Rattle.modbus_frame.specs.declared.link.LinkFault.TheVariants as link
use Rattle.modbus_frame.specs.declared.message.Request.{Request}
use Rattle.modbus_frame.specs.Exchange.{SendsFront, CountsSent}
use Rattle.modbus_frame.specs.Frame.{frame_bytes}
use Rattle.modbus_frame.specs.Link.{Failures, FailsBy, FailsWith}
use Rattle.modbus_frame.proofs.Answering.{keeps_left, failed_sending}
use Rattle.modbus_frame.proofs.Sending.{FailsBy-none, FailsBy-then}
use Rattle.gateway.specs.declared.poller.outcome.Outcome.{Outcome}
use Rattle.gateway.specs.poller.LinkRun.{frame_of, next_id}
use Rattle.gateway.specs.poller.Polling.{Polling, Asks, Fails, FailsAt, BreaksOff, StaysOpen, fault_of}
use Rattle.gateway.specs.poller.Waiting.{Waits, CountsWaited}

consumes_later : (a b c : Option (List ℕ)) (bytes : List ℕ) → Keeps a b → Consumes b c bytes → Consumes a c bytes
consumes_later a b c bytes kept later = Consumes-trans a b c [] bytes (Consumes-kept a a b [] (Consumes-nil a) kept) later

failed_behind : (a b c : Failures) (e : LinkFault) (turns : ℕ) → FailsBy 0 0 0 a b → CountsWaited b c (Err e) turns → FailsWith e a c
failed_behind a b c link.Read turns first second = FailsBy-then 1 0 0 a b c first second
failed_behind a b c link.Write turns first second = absurd second
failed_behind a b c (link.Frame f) turns first second = FailsBy-then 0 0 0 a b c first second
failed_behind a b c link.End turns first second = FailsBy-then 0 0 1 a b c first second
failed_behind a b c link.Turns turns first second = FailsBy-then 0 0 0 a b c first second.0
failed_behind a b c link.OutOfMemory turns first second = absurd second

fails_open : (e : LinkFault) (p : Polling) (unit : ℕ) (request : Request) (q : Polling) (a b : Failures) (turns : ℕ) → StaysOpen p unit request e q → CountsWaited a b (Err e) turns → FailsAt e p unit request q
fails_open link.Read p unit request q a b turns stays counts = stays
fails_open link.Write p unit request q a b turns stays counts = absurd counts
fails_open (link.Frame f) p unit request q a b turns stays counts = stays
fails_open link.End p unit request q a b turns stays counts = stays
fails_open link.Turns p unit request q a b turns stays counts = inr stays
fails_open link.OutOfMemory p unit request q a b turns stays counts = absurd counts

fails_unsent : (e : LinkFault) (p : Polling) (unit : ℕ) (request : Request) (q : Polling) (a b : Failures) (turns : ℕ) → BreaksOff p unit request q → CountsSent a b (Err e) turns → FailsAt e p unit request q
fails_unsent link.Read p unit request q a b turns breaks counts = absurd counts
fails_unsent link.Write p unit request q a b turns breaks counts = breaks
fails_unsent (link.Frame f) p unit request q a b turns breaks counts = absurd counts
fails_unsent link.End p unit request q a b turns breaks counts = absurd counts
fails_unsent link.Turns p unit request q a b turns breaks counts = inl breaks
fails_unsent link.OutOfMemory p unit request q a b turns breaks counts = absurd counts

-- the request went out, and the wait ended so
pub asks_by_waiting : (ahead ahead2 : List ℕ) (coming coming1 coming2 sent sent1 sent2 : Option (List ℕ)) (failures failures1 failures2 : Failures) (calls calls2 : Option ℕ) (id unit : ℕ) (request : Request) (result : Result Outcome LinkFault) (turns : ℕ)
    → Keeps coming coming1 → Appends sent sent1 (frame_bytes (frame_of (record { id = id; unit = unit; request = request }))) → Keeps sent1 sent2 → FailsBy 0 0 0 failures failures1
    → Waits (prepend_known ahead coming1) ahead2 coming2 (record { id = id; unit = unit; request = request }) result → CountsWaited failures1 failures2 result turns
    → Asks (record { ahead = ahead; coming = coming; sent = sent; failures = failures; calls = calls; id = id; fault = None }) unit request result
    (record { ahead = ahead2; coming = coming2; sent = sent2; failures = failures2; calls = calls2; id = next_id id; fault = fault_of result })
asks_by_waiting ahead ahead2 coming coming1 coming2 sent sent1 sent2 failures failures1 failures2 calls calls2 id unit request (Ok outcome) turns kept went stayed counted waited failed = record {
  frames = waited.frames;
  decided = waited.decided;
  came = consumes_later (prepend_known ahead coming) (prepend_known ahead coming1) (prepend_known ahead2 coming2) (flat_map frame_bytes waited.frames) (keeps_left ahead coming coming1 kept) waited.came;
  went = Appends-kept sent sent1 sent2 _ went stayed;
  failures = FailsBy-then 0 0 0 failures failures1 failures2 counted failed;
  id = refl;
  fault = refl;
}
asks_by_waiting ahead ahead2 coming coming1 coming2 sent sent1 sent2 failures failures1 failures2 calls calls2 id unit request (Err e) turns kept went stayed counted waited failed =
    let p : Polling = record { ahead = ahead; coming = coming; sent = sent; failures = failures; calls = calls; id = id; fault = None } in
    let q : Polling = record { ahead = ahead2; coming = coming2; sent = sent2; failures = failures2; calls = calls2; id = next_id id; fault = Some e } in
    let stays : StaysOpen p unit request e q = record {
      frames = waited.frames;
      left = waited.left;
      undecided = waited.undecided;
      came = consumes_later (prepend_known ahead coming) (prepend_known ahead coming1) waited.left (flat_map frame_bytes waited.frames) (keeps_left ahead coming coming1 kept) waited.came;
      went = Appends-kept sent sent1 sent2 _ went stayed;
      ends = waited.ends;
    } in
    record {
      cause = fails_open e p unit request q failures1 failures2 turns stays failed;
      failures = failed_behind failures failures1 failures2 e turns counted failed;
      kept = refl;
    }

-- the request couldn't be sent as a whole
pub fails_sending : (ahead : List ℕ) (coming coming1 sent sent1 : Option (List ℕ)) (failures failures1 : Failures) (calls calls1 : Option ℕ) (id unit : ℕ) (request : Request) (e : LinkFault) (turns : ℕ)
    → Keeps coming coming1 → SendsFront sent sent1 (Err e) (frame_bytes (frame_of (record { id = id; unit = unit; request = request }))) → CountsSent failures failures1 (Err e) turns
    → Fails (record { ahead = ahead; coming = coming; sent = sent; failures = failures; calls = calls; id = id; fault = None }) unit request e
    (record { ahead = ahead; coming = coming1; sent = sent1; failures = failures1; calls = calls1; id = next_id id; fault = Some e })
fails_sending ahead coming coming1 sent sent1 failures failures1 calls calls1 id unit request e turns kept sends counts =
    let p : Polling = record { ahead = ahead; coming = coming; sent = sent; failures = failures; calls = calls; id = id; fault = None } in
    let q : Polling = record { ahead = ahead; coming = coming1; sent = sent1; failures = failures1; calls = calls1; id = next_id id; fault = Some e } in
    let breaks : BreaksOff p unit request q = record {
      len = sends.0;
      front = sends.1;
      went = sends.2;
      ahead = refl;
      coming = kept;
    } in
    record {
      cause = fails_unsent e p unit request q failures failures1 turns breaks counts;
      failures = failed_sending failures failures failures1 e turns (FailsBy-none failures) counts;
      kept = refl;
    }
