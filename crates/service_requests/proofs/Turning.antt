-- One turn after another.
use Rattle.std.proofs.Common.{◌≡◌, ℕ, ◌+◌, Bool, List, [], ◌∷◌, ◌++◌, length, take, drop, Option, None, Some, refl, sym, ap, subst, ◌∙◌, arith, append_assoc, length-append, take-add}
use Rattle.std.proofs.lemmas.List.{append-nil}
use Rattle.std.proofs.Math.Seq.{take-append-add}
use Rattle.modbus_frame.specs.declared.frame.Frame.{Frame}
use Rattle.service_requests.specs.declared.session.PieceTaken.{PieceTaken}
use Rattle.service_requests.specs.Sessions.{AnswersNext, IsChain, IsFree, Puts, Serving, ServesOn, TakesPiece, Turn, frame_of, takes, puts, turns_of}
use Rattle.service_requests.specs.Talk.{Talk}

module _ {S : Type 0} (Answers : S → Frame → List ℕ → Bool → S → Type 0) where
  chain_append : (s t u : S) (turns more : List (Turn S)) → IsChain Answers s turns t → IsChain Answers t more u → IsChain Answers s (turns ++ more) u
  chain_append s t u [] more same rest = subst (λ x. IsChain Answers x more u) same rest
  chain_append s t u (turn ∷ turns) more (before, answered, chain) rest = (before, answered, chain_append turn.after t u turns more chain rest)

  chain_one : (s t : S) (given : Option Frame) (bytes : List ℕ) (goes_on : Bool) → AnswersNext Answers s given bytes goes_on t → IsChain Answers s (turns_of s given t) t
  chain_one s t None bytes goes_on next = next.2
  chain_one s t (Some frame) bytes goes_on next = (refl, (bytes, goes_on, next), refl)

  pub serves_put : (s : S) (old new : Talk) (out : List ℕ) → Puts old out new → ServesOn Answers 0 s old [] out s new
  serves_put s old new out one = record {
    turns = [];
    count = refl;
    chain = refl;
    serves = λ before stream sent served.
        subst (λ ts. Serving Answers ts (stream ++ []) (sent ++ out) s new) (sym (append-nil before))
        (subst (λ l. Serving Answers before l (sent ++ out) s new) (sym (append-nil stream)) (puts served out new one));
  }

  pub serves_one : (s t : S) (old middle new : Talk) (piece : List ℕ) (taken : PieceTaken) (out : List ℕ) → IsFree old → TakesPiece Answers s old piece taken t middle → Puts middle out new → ServesOn Answers taken.frames s old (take taken.used piece) out t new
  serves_one s t old middle new piece taken out free one put = record {
    turns = turns_of s (frame_of one.fed) t;
    count = sym one.count;
    chain = chain_one s t (frame_of one.fed) middle.waiting middle.goes_on one.answers;
    serves = λ before stream sent served. puts (takes served piece taken t middle free one) out new put;
  }

  pub serves_then : (n m : ℕ) (s t u : S) (a b c : Talk) (bytes more out rest : List ℕ) → ServesOn Answers n s a bytes out t b → ServesOn Answers m t b more rest u c → ServesOn Answers (n + m) s a (bytes ++ more) (out ++ rest) u c
  serves_then n m s t u a b c bytes more out rest first second = record {
    turns = first.turns ++ second.turns;
    count = omega (arith, first.count, second.count, length-append first.turns second.turns);
    chain = chain_append s t u first.turns second.turns first.chain second.chain;
    serves = λ before stream sent served.
        subst (λ ts. Serving Answers ts (stream ++ (bytes ++ more)) (sent ++ (out ++ rest)) u c) (append_assoc before first.turns second.turns)
        (subst (λ l. Serving Answers ((before ++ first.turns) ++ second.turns) l (sent ++ (out ++ rest)) u c) (append_assoc stream bytes more)
        (subst (λ l. Serving Answers ((before ++ first.turns) ++ second.turns) ((stream ++ bytes) ++ more) l u c) (append_assoc sent out rest)
        (second.serves (before ++ first.turns) (stream ++ bytes) (sent ++ out) (first.serves before stream sent served))));
  }

  pub serves_more : (n m : ℕ) (s t u : S) (a b c : Talk) (piece back out front new : List ℕ) (used put k l : ℕ)
      → ServesOn Answers n s a (take used piece) (take put out) t b → ServesOn Answers m t b (take k back) (take l new) u c
      → back ≡ drop used piece → front ≡ take put out → length front ≡ put
      → ServesOn Answers (n + m) s a (take (used + k) piece) (take (put + l) (front ++ new)) u c
  serves_more n m s t u a b c piece back out front new used put k l first second behind before len =
      let both = serves_then n m s t u a b c (take used piece) (take k back) (take put out) (take l new) first second in
      let bytes : take used piece ++ take k back ≡ take (used + k) piece = ap (λ rest. take used piece ++ take k rest) behind ∙ sym (take-add used k piece) in
      let sent : take put out ++ take l new ≡ take (put + l) (front ++ new) = ap (λ rest. rest ++ take l new) (sym before) ∙ sym (take-append-add front new l) ∙ ap (λ n. take (n + l) (front ++ new)) len in
      subst (λ rest. ServesOn Answers (n + m) s a rest (take (put + l) (front ++ new)) u c) bytes
      (subst (λ rest. ServesOn Answers (n + m) s a (take used piece ++ take k back) rest u c) sent both)
