-- Requests one after another.
use Rattle.std.proofs.Common.{◌≡◌, ℕ, List, [], ◌∷◌, ◌++◌, None, refl, sym, ap, ◌∙◌, subst, append_assoc}
use Rattle.std.proofs.lemmas.List.Concat.{flat_map-append}
use Rattle.std.proofs.KnownBytes.{Appends-trans, Appends-nil, Consumes-trans, Consumes-nil}
use Rattle.std.specs.Io.KnownBytes.{Appends, Consumes}
use Rattle.std.specs.List.{flat_map}
use Rattle.modbus_frame.specs.declared.message.Request.{Request}
use Rattle.modbus_frame.specs.Frame.{frame_bytes}
use Rattle.modbus_frame.proofs.Sending.{FailsBy-none, FailsBy-then}
use Rattle.gateway.specs.declared.poller.outcome.Outcome.{Outcome}
use Rattle.gateway.specs.poller.LinkRun.{Exchange, AreDecided, bytes_out, bytes_in, id_after, next_id, frame_of, asked_in}
use Rattle.gateway.specs.poller.Polling.{Polling, Decides, Talks, asked_next, stream}

-- before the first request
pub talks_none : (p : Polling) → p.fault ≡ None → Talks p [] p
talks_none p none = record {
  decided = tt;
  came = Consumes-nil (stream p);
  went = Appends-nil p.sent;
  failures = FailsBy-none p.failures;
  id = refl;
  fault = none;
}

abbrev pub exchange_of : (p : Polling) (unit : ℕ) (request : Request) (o : Outcome) (q : Polling) → Decides p unit request o q → Exchange
exchange_of p unit request o q one = record { unit = unit; request = request; frames = one.frames; outcome = o }

-- a request before others
pub talks_first : (p m q : Polling) (unit : ℕ) (request : Request) (o : Outcome) (es : List Exchange) (one : Decides p unit request o m)
    → Talks m es q → Talks p (exchange_of p unit request o m one ∷ es) q
talks_first p m q unit request o es one rest =
    let D : ℕ → Type 0 = λ id. AreDecided id es in
    let W : ℕ → Type 0 = λ id. Appends m.sent q.sent (bytes_out id es) in
    record {
      decided = (one.decided, subst D one.id rest.decided);
      came = Consumes-trans (stream p) (stream m) (stream q) (flat_map frame_bytes one.frames) (bytes_in es) one.came rest.came;
      went = Appends-trans p.sent m.sent q.sent (frame_bytes (frame_of (asked_next p unit request))) (bytes_out (next_id p.id) es) one.went (subst W one.id rest.went);
      failures = FailsBy-then 0 0 0 p.failures m.failures q.failures one.failures rest.failures;
      id = rest.id ∙ ap (λ id. id_after id es) one.id;
      fault = rest.fault;
    }

AreDecided-append : (id : ℕ) (es fs : List Exchange) → AreDecided id es → AreDecided (id_after id es) fs → AreDecided id (es ++ fs)
AreDecided-append id [] fs first second = second
AreDecided-append id (e ∷ es) fs first second = (first.0, AreDecided-append (next_id id) es fs first.1 second)

bytes_out-append : (id : ℕ) (es fs : List Exchange) → bytes_out id (es ++ fs) ≡ bytes_out id es ++ bytes_out (id_after id es) fs
bytes_out-append id [] fs = refl
bytes_out-append id (e ∷ es) fs =
    let front : List ℕ = frame_bytes (frame_of (asked_in id e)) in
    ap (λ l. front ++ l) (bytes_out-append (next_id id) es fs) ∙ sym (append_assoc front (bytes_out (next_id id) es) (bytes_out (id_after (next_id id) es) fs))

id_after-append : (id : ℕ) (es fs : List Exchange) → id_after id (es ++ fs) ≡ id_after (id_after id es) fs
id_after-append id [] fs = refl
id_after-append id (e ∷ es) fs = id_after-append (next_id id) es fs

-- requests after others
pub talks_behind : (p m q : Polling) (es fs : List Exchange) → Talks p es m → Talks m fs q → Talks p (es ++ fs) q
talks_behind p m q es fs first second =
    let D : ℕ → Type 0 = λ id. AreDecided id fs in
    let W : ℕ → Type 0 = λ id. Appends m.sent q.sent (bytes_out id fs) in
    record {
      decided = AreDecided-append p.id es fs first.decided (subst D first.id second.decided);
      came = subst (Consumes (stream p) (stream q)) (sym (flat_map-append (λ (e : Exchange). flat_map frame_bytes e.frames) es fs)) (Consumes-trans (stream p) (stream m) (stream q) (bytes_in es) (bytes_in fs) first.came second.came);
      went = subst (Appends p.sent q.sent) (sym (bytes_out-append p.id es fs)) (Appends-trans p.sent m.sent q.sent (bytes_out p.id es) (bytes_out (id_after p.id es) fs) first.went (subst W first.id second.went));
      failures = FailsBy-then 0 0 0 p.failures m.failures q.failures first.failures second.failures;
      id = second.id ∙ ap (λ id. id_after id fs) first.id ∙ sym (id_after-append p.id es fs);
      fault = second.fault;
    }
