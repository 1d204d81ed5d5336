-- What a client gets, over all calls: the answers to its frames, in order, each at its place in the run.
-- MODBUS Messaging on TCP/IP Implementation Guide, section 4.4.2.
use Rattle.std.specs.Prelude.{◌≡◌, ◌⊎◌, ◌≤◌, ◌+◌, ◌-◌, ◌^◌, ℕ, zero, suc, min, Bool, true, false, List, [], ◌++◌, length, take, drop, Some, slice_get}
use Rattle.modbus_frame.specs.declared.frame.Frame.{Frame}
use Rattle.modbus_frame.specs.Framing.{IsRead}
use Rattle.service_requests.specs.Sessions.{AnsweredTo, IsChain, IsOver, Puts, Serving, Turn, frames_in, fresh}
use Rattle.service_parts.specs.declared.client_place.ClientPlace.{ClientPlace}

-- how many frames were answered, where there are so many more of them; a count that is full stays
abbrev pub more_by : ℕ → ℕ → ℕ
more_by zero n = n
more_by (suc k) n = min (n + suc k) (2 ^ 64 - 1)

-- the bytes of answers that are to go out now
abbrev pub ready_of : ClientPlace → List ℕ
ready_of c = take (c.end - c.start) (drop c.start c.out)

-- Nothing more is heard of it: nobody is there, it is to be closed, or its stream is over.
abbrev pub IsDeaf : ClientPlace → Type 0
IsDeaf c = (c.is_taken ≡ false) ⊎ (c.is_closing ≡ true) ⊎ IsOver c.session

-- Its connection is to be closed: its client was silent, or its stream is over and nothing is to go out any more.
abbrev pub IsDone : ClientPlace → Type 0
IsDone c = (c.is_taken ≡ true) × ((c.is_closing ≡ true) ⊎ ((c.start ≡ c.end) × IsOver c.session))

-- A client came now that may write, or may not: its stream begins, and nothing is to go out.
pub record IsOpen (may_write : Bool) (now : ℕ) (c : ClientPlace) : Type 0 where
  pub taken : c.is_taken ≡ true
  pub stays : c.is_closing ≡ false
  pub begins : c.session ≡ fresh
  pub ready : ready_of c ≡ []
  pub right : c.may_write ≡ may_write
  pub since : c.last ≡ now
  pub count : c.requests ≡ 0

-- The same client is there, with the same right to write, and it is to be closed only if it was.
pub record IsSame (old new : ClientPlace) : Type 0 where
  pub taken : new.is_taken ≡ old.is_taken
  pub closing : new.is_closing ≡ old.is_closing
  pub right : new.may_write ≡ old.may_write

-- So many of the ready bytes went out, and the session may have put more after them.
pub record Sends (old : ClientPlace) (n : ℕ) (new : ClientPlace) : Type 0 where
  pub same : IsSame old new
  pub since : new.last ≡ old.last
  pub put : List ℕ
  pub puts : Puts old.session put new.session
  pub ready : ready_of old ++ put ≡ take n (ready_of old) ++ ready_of new
  pub count : new.requests ≡ old.requests

-- when it was heard of last, where so many whole frames of it came now
abbrev pub heard_at : ℕ → ℕ → ℕ → ℕ
heard_at now zero last = last
heard_at now (suc frames) last = now

-- `Answers` says which bytes answer a frame, whether more may be answered after them, and what that leaves.
module _ {S : Type 0} (Answers : S → Frame → List ℕ → Bool → S → Type 0) where
  -- So far: the turns of its frames, the bytes that were taken of it, those that went out to it, and what answers now.
  abbrev pub IsServed : List (Turn S) → (stream gone : List ℕ) → S → ClientPlace → Type 0
  IsServed turns stream gone s c = Serving Answers turns stream (gone ++ ready_of c) s c.session

  -- What answers went on by the turns of some frames in a row, and by nothing else.
  abbrev pub HasAnswered : S → S → Type 0
  HasAnswered s t = (turns : List (Turn S)) × IsChain Answers s turns t

  -- These bytes are taken, and at most 8 frames answered in a row, each in the state that the one before it left.
  pub record Hears (now : ℕ) (s : S) (old : ClientPlace) (bytes : List ℕ) (t : S) (new : ClientPlace) : Type 0 where
    pub same : IsSame old new
    pub turns : List (Turn S)
    pub since : new.last ≡ heard_at now (length turns) old.last
    pub few : length turns ≤ 8
    pub chain : IsChain Answers s turns t
    pub count : new.requests ≡ more_by (length turns) old.requests
    pub served : (before : List (Turn S)) (stream gone : List ℕ) → IsServed before stream gone s old → IsServed (before ++ turns) (stream ++ bytes) gone t new

  -- Whatever calls there were: what went out, what is to go out and what waits are the answers to the client's frames, in
  -- order, each at its turn. A client that came begins so, bytes that go out leave it so, and so does whatever happens
  -- between two of its calls to what answers.
  pub record ClientsAreAnswered : Type 0 where
    pub answered : (turns : List (Turn S)) (stream gone : List ℕ) (s : S) (c : ClientPlace) → IsServed turns stream gone s c →
        IsRead stream (frames_in turns) c.session.held × AnsweredTo Answers c.session.goes_on turns (gone ++ (ready_of c ++ c.session.waiting))
    pub begins : (may_write : Bool) (now : ℕ) (s : S) (c : ClientPlace) → IsOpen may_write now c → IsServed [] [] [] s c
    pub goes_out : (turns : List (Turn S)) (stream gone : List ℕ) (s : S) (old new : ClientPlace) (n : ℕ) → Sends old n new → IsServed turns stream gone s old →
        IsServed turns stream (gone ++ take n (ready_of old)) s new
    pub between : (turns : List (Turn S)) (stream gone : List ℕ) (s t : S) (c : ClientPlace) → IsServed turns stream gone s c → IsServed turns stream gone t c

-- No other place changes.
abbrev pub OthersStay : List ClientPlace → ℕ → List ClientPlace → Type 0
OthersStay old place new = (other : ℕ) → (other ≡ place → ⊥) → slice_get new other ≡ slice_get old other

-- `Does` says what becomes of the client at a place, where one of this number is; no other place changes.
abbrev pub DoesAt : (Does : ClientPlace → ClientPlace → Type 0) → List ClientPlace → ℕ → List ClientPlace → Type 0
DoesAt Does old place new = ((c : ClientPlace) → slice_get old place ≡ Some c → (d : ClientPlace) × (slice_get new place ≡ Some d) × Does c d) × OthersStay old place new
