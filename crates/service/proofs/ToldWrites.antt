-- The writes of a turn are those that its frames asked for.
use Rattle.std.proofs.Common.{arith, rules, ◌≡◌, ◌≢◌, ◌⊎◌, inl, inr, eqb, ℕ, ◌+◌, ◌≤◌, ◌<◌, suc, Bool, true, false, List, [], ◌∷◌, ◌++◌, length, refl, sym, ap, subst, ◌∙◌}
use Rattle.std.specs.Prelude.{bit_or, nat_le, if◌then◌else◌}
use Rattle.std.proofs.lemmas.Bool.Decides.{eqb_tells}
use Rattle.std.proofs.lemmas.List.{append_assoc, append-nil, length-append}
use Rattle.modbus_frame.specs.declared.frame.Frame.{Frame}
use Rattle.modbus_frame.specs.Frame.{frame_bytes}
use Rattle.modbus_frame.specs.Served.{reply_to}
use Rattle.gateway.specs.event_core.Control.{AnswersFrame, AnswersOn}
use Rattle.gateway.specs.event_core.Core.{Gateway}
use Rattle.modbus_frame.specs.Message.{illegal_function, refusal_bytes}
use Rattle.service_requests.specs.Guarding.{is_write, refusal_of}
use Rattle.service_requests.specs.Sessions.{IsChain, Turn}
use Rattle.service_parts.specs.declared.client_place.ClientPlace.{ClientPlace}
use Rattle.service_parts.specs.Clients.{Hears}
use Rattle.service.specs.declared.client_writes.ClientWrite.{ClientWrite}
use Rattle.service.specs.declared.client_writes.WriteOutcome.TheVariants.{Done, Refused}
use Rattle.service.specs.ClientWrites.{AreWrites, HearsWrites, message_in, outcome_by, told_of, with_write, write_by, writes_after}

-- a reply answers as a frame
pub framed : (g : Gateway) (frame : Frame) (pdu : List ℕ) (h : Gateway) → AnswersOn g frame pdu h → AnswersFrame g frame (frame_bytes (reply_to frame pdu)) true h
framed g frame pdu h answers = record { pdu = pdu; answers = answers; spelled = refl; more = refl }

-- the exception reply to a function, by its first bytes
refused_by : (function : ℕ) → nat_le 128 (bit_or function 128) ≡ true → outcome_by (bit_or function 128 ∷ 1 ∷ []) ≡ Refused illegal_function
refused_by function is = ap (λ b. if b then Refused illegal_function else Done) is

-- a write that is refused as an illegal function was refused by that exception
pub refused_so : (frame : Frame) → is_write frame.pdu ≡ true → outcome_by (message_in (refusal_of frame)) ≡ Refused illegal_function
refused_so frame is = go frame.pdu is
  where
    by : (function : ℕ) → ((eqb function 6 ≡ true) × (function ≡ 6)) ⊎ ((eqb function 6 ≡ false) × (function ≢ 6)) → ((eqb function 16 ≡ true) × (function ≡ 16)) ⊎ ((eqb function 16 ≡ false) × (function ≢ 16)) → is_write (function ∷ []) ≡ true → nat_le 128 (bit_or function 128) ≡ true
    by function (inl six) either is = subst (λ f. nat_le 128 (bit_or f 128) ≡ true) (sym six.1) refl
    by function (inr other6) (inl sixteen) is = subst (λ f. nat_le 128 (bit_or f 128) ≡ true) (sym sixteen.1) refl
    by function (inr other6) (inr other16) is = absurd (cc)

    go : (pdu : List ℕ) → is_write pdu ≡ true → outcome_by (refusal_bytes pdu illegal_function) ≡ Refused illegal_function
    go [] is = absurd (cc)
    go (function ∷ rest) is = refused_by function (by function (eqb_tells function 6) (eqb_tells function 16) is)

-- one write more, where there is room
roomy : (write : ClientWrite) (writes : List ClientWrite) → length writes < 8 → with_write write writes ≡ writes ++ write ∷ []
roomy write writes few = search rules

-- where there is room what is told of a frame comes after the writes before it
told_after : (frame : Frame) (bytes : List ℕ) (writes : List ClientWrite) → length writes < 8 → writes_after frame bytes writes ≡ writes ++ told_of frame bytes
told_after frame bytes writes few = go (is_write frame.pdu)
  where
    write : ClientWrite
    write = write_by frame.pdu (message_in bytes)

    go : (writing : Bool) → (if writing then with_write write writes else writes) ≡ writes ++ (if writing then write ∷ [] else [])
    go true = roomy write writes few
    go false = sym (append-nil writes)

-- a frame has one write at most
told_few : (frame : Frame) (bytes : List ℕ) → length (told_of frame bytes) ≤ 1
told_few frame bytes = go (is_write frame.pdu)
  where
    write : ClientWrite
    write = write_by frame.pdu (message_in bytes)

    go : (writing : Bool) → length (if writing then write ∷ [] else []) ≤ 1
    go true = search rules
    go false = search rules

few_after : (after before own : List ClientWrite) (count : ℕ) → after ≡ before ++ own → length own ≤ 1 → length before + suc count ≤ 8 → length after + count ≤ 8
few_after after before own count is few room =
    let len : length after ≡ length before + length own = ap length is ∙ length-append before own in
    omega arith

module _ {S : Type 0} (Answers : S → Frame → List ℕ → Bool → S → Type 0) (writes_of : S → List ClientWrite)
    (each : (s : S) (frame : Frame) (bytes : List ℕ) (goes_on : Bool) (t : S) → Answers s frame bytes goes_on t → writes_of t ≡ writes_after frame bytes (writes_of s)) where
  -- they come after the writes before them
  abbrev Told : S → List (Turn S) → S → Type 0
  Told s turns t = (more : List ClientWrite) × (writes_of t ≡ writes_of s ++ more) × AreWrites Answers turns more

  told_chain : (s : S) (turns : List (Turn S)) (t : S) → length (writes_of s) + length turns ≤ 8 → IsChain Answers s turns t → Told s turns t
  told_chain s [] t few same = ([], ap writes_of same ∙ sym (append-nil (writes_of s)), refl)
  told_chain s (turn ∷ turns) t few (first, (bytes, goes_on, answered), rest) =
      let own = told_of turn.frame bytes in
      let before : writes_of turn.before ≡ writes_of s = ap writes_of first in
      let room : length (writes_of s) < 8 = omega arith in
      let here : writes_of turn.after ≡ writes_of s ++ own =
      each turn.before turn.frame bytes goes_on turn.after answered ∙ ap (writes_after turn.frame bytes) before ∙ told_after turn.frame bytes (writes_of s) room in
      let few_more : length (writes_of turn.after) + length turns ≤ 8 = few_after (writes_of turn.after) (writes_of s) own (length turns) here (told_few turn.frame bytes) few in
      let (more, is, are) = told_chain turn.after turns t few_more rest in
      (own ++ more, is ∙ ap (λ w. w ++ more) here ∙ append_assoc (writes_of s) own more, (bytes, goes_on, more, answered, refl, are))

  -- the writes of a turn that began without one
  pub hears_writes : (now : ℕ) (s : S) (old : ClientPlace) (bytes : List ℕ) (t : S) (new : ClientPlace) → writes_of s ≡ [] → Hears Answers now s old bytes t new → HearsWrites Answers now s old bytes t new (writes_of t)
  hears_writes now s old bytes t new none hears =
      let begins : length (writes_of s) ≡ 0 = ap length none in
      let most : length hears.turns ≤ 8 = hears.few in
      let few : length (writes_of s) + length hears.turns ≤ 8 = omega arith in
      let (more, is, are) = told_chain s hears.turns t few hears.chain in
      record { hears = hears; told = subst (AreWrites Answers hears.turns) (sym (is ∙ ap (λ w. w ++ more) none)) are }
