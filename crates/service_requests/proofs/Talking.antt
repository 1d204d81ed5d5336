-- Sessions answer the frames of their stream.
use Rattle.std.proofs.Common.{◌≡◌, ℕ, Bool, true, false, List, [], ◌∷◌, ◌++◌, Option, None, Some, Result, Ok, Err, take, refl, sym, ap, subst, ◌∙◌, append_assoc}
use Rattle.std.specs.Option.{option_to_list}
use Rattle.std.proofs.lemmas.List.{append-nil}
use Rattle.modbus_frame.specs.declared.fault.FrameFault.{FrameFault}
use Rattle.modbus_frame.specs.declared.frame.Frame.{Frame}
use Rattle.modbus_frame.specs.declared.framer.Fed.{Fed}
use Rattle.modbus_frame.specs.Framing.{Run, start, call, frames_of}
use Rattle.modbus_frame.proofs.Streams.{runs_read_the_stream}
use Rattle.service_requests.specs.Sessions.{AnsweredEach, AnsweredTo, AnswersNext, AnyCutIsAnswered, IsFree, Serving, Turn, opened, others, takes, puts, frame_of, frames_in, turns_of}
use Rattle.service_requests.specs.Talk.{Talk}

frames_append : {S : Type 0} (turns more : List (Turn S)) → frames_in (turns ++ more) ≡ frames_in turns ++ frames_in more
frames_append [] more = refl
frames_append (turn ∷ turns) more = ap (λ l. turn.frame ∷ l) (frames_append turns more)

frames_option : {S : Type 0} (s t : S) (given : Option Frame) → frames_in (turns_of s given t) ≡ option_to_list given
frames_option s t None = refl
frames_option s t (Some frame) = refl

frames_fed : {S : Type 0} (s t : S) (fed : Result Fed FrameFault) → frames_in (turns_of s (frame_of fed) t) ≡ frames_of fed
frames_fed s t (Ok fed) = frames_option s t fed.frame
frames_fed s t (Err fault) = refl

module _ {S : Type 0} (Answers : S → Frame → List ℕ → Bool → S → Type 0) where
  answered_more : (turns : List (Turn S)) (turn : Turn S) (sent bytes : List ℕ) → AnsweredEach Answers turns sent → Answers turn.before turn.frame bytes true turn.after → AnsweredEach Answers (turns ++ turn ∷ []) (sent ++ bytes)
  answered_more [] turn sent bytes so_far one = (bytes, [], one, ap (λ l. l ++ bytes) so_far ∙ sym (append-nil bytes), refl)
  answered_more (first ∷ turns) turn sent bytes (own, more, answer, is, rest) one =
      (own, more ++ bytes, answer, ap (λ l. l ++ bytes) is ∙ append_assoc own more bytes, answered_more turns turn more bytes rest one)

  answered_one : (goes_on : Bool) (turns : List (Turn S)) (turn : Turn S) (sent bytes : List ℕ) → AnsweredEach Answers turns sent → Answers turn.before turn.frame bytes goes_on turn.after → AnsweredTo Answers goes_on (turns ++ turn ∷ []) (sent ++ bytes)
  answered_one true turns turn sent bytes so_far one = answered_more turns turn sent bytes so_far one
  answered_one false turns turn sent bytes so_far one = record {
    before = turns;
    last = turn;
    split = refl;
    first = sent;
    more = bytes;
    whole = refl;
    answered = so_far;
    ends = one;
  }

  answered_next : (given : Option Frame) (goes_on : Bool) (t u : S) (turns : List (Turn S)) (sent bytes : List ℕ) → AnsweredEach Answers turns sent → AnswersNext Answers t given bytes goes_on u → AnsweredTo Answers goes_on (turns ++ turns_of t given u) (sent ++ bytes)
  answered_next (Some frame) goes_on t u turns sent bytes so_far next = answered_one goes_on turns (record { before = t; frame = frame; after = u }) sent bytes so_far next
  answered_next None goes_on t u turns sent bytes so_far next =
      let none : sent ≡ sent ++ bytes = sym (append-nil sent) ∙ ap (λ l. sent ++ l) (sym next.0) in
      let all : AnsweredEach Answers (turns ++ []) (sent ++ bytes) = subst (λ ts. AnsweredEach Answers ts (sent ++ bytes)) (sym (append-nil turns)) (subst (AnsweredEach Answers turns) none so_far) in
      subst (λ b. AnsweredTo Answers b (turns ++ []) (sent ++ bytes)) (sym next.1) all

  -- where the next frame may be answered, all were
  answered_free : (turns : List (Turn S)) (sent : List ℕ) (old : Talk) → IsFree old → AnsweredTo Answers old.goes_on turns (sent ++ old.waiting) → AnsweredEach Answers turns sent
  answered_free turns sent old free so_far =
      let on : AnsweredTo Answers true turns (sent ++ old.waiting) = subst (λ b. AnsweredTo Answers b turns (sent ++ old.waiting)) free.1 so_far in
      subst (AnsweredEach Answers turns) (ap (λ l. sent ++ l) free.0 ∙ append-nil sent) on

  -- what a session took is a run of its framer, and what went out answers the frames
  runs : {turns : List (Turn S)} {stream sent : List ℕ} {t : S} {talk : Talk} → Serving Answers turns stream sent t talk → Run stream (frames_in turns) talk.held × AnsweredTo Answers talk.goes_on turns (sent ++ talk.waiting)
  runs (opened s) = (start, refl)
  runs (others before u) = runs before
  runs (takes {turns} {stream} {sent} {t} {old} before piece taken u new free one) =
      let (run, so_far) = runs before in
      let same : frames_in (turns ++ turns_of t (frame_of one.fed) u) ≡ frames_in turns ++ frames_of one.fed = frames_append turns (turns_of t (frame_of one.fed) u) ∙ ap (λ l. frames_in turns ++ l) (frames_fed t u one.fed) in (
        subst (λ fs. Run (stream ++ take taken.used piece) fs new.held) (sym same)
            (subst (λ l. Run (stream ++ l) (frames_in turns ++ frames_of one.fed) new.held) (sym one.uses) (call run piece one.fed new.held one.feeds)),
        answered_next (frame_of one.fed) new.goes_on t u turns sent new.waiting (answered_free turns sent old free so_far) one.answers,
      )
  runs (puts {turns} {stream} {sent} {t} {old} before bytes new one) =
      let (run, so_far) = runs before in
      let same : sent ++ old.waiting ≡ (sent ++ bytes) ++ new.waiting = ap (λ l. sent ++ l) one.front ∙ sym (append_assoc sent bytes new.waiting) in (
        subst (Run stream (frames_in turns)) (sym one.held) run,
        subst (λ b. AnsweredTo Answers b turns ((sent ++ bytes) ++ new.waiting)) (sym one.goes_on) (subst (AnsweredTo Answers old.goes_on turns) same so_far),
      )

  pub any_cut_is_answered : AnyCutIsAnswered Answers
  any_cut_is_answered turns stream sent t talk serving =
      let (run, answered) = runs serving in
      (runs_read_the_stream stream (frames_in turns) talk.held run, answered)
