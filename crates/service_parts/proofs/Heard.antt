-- What is said of a client's place, call by call.
use Rattle.std.proofs.Common.{◌≡◌, ℕ, zero, suc, ◌+◌, ◌-◌, ◌≤◌, Bool, List, [], ◌∷◌, ◌++◌, Option, None, Some, take, drop, refl, sym, ap, subst, ◌∙◌, arith, append_assoc, ◌<◌}
use Rattle.std.specs.Prelude.{min, slice_get, slice_set, ◌^◌}
use Rattle.std.proofs.lemmas.List.{append-nil, drop-drop, take-take}
use Rattle.std.proofs.Math.Seq.{take-add}
use Rattle.modbus_frame.specs.declared.frame.Frame.{Frame}
use Rattle.modbus_frame.specs.Framing.{IsRead}
use Rattle.service_requests.specs.Sessions.{AnsweredTo, Puts, Serving, Turn, frames_in, fresh, opened, others, puts}
use Rattle.service_requests.proofs.Talking.{any_cut_is_answered}
use Rattle.service_requests.specs.Talk.{Talk}
use Rattle.service_parts.specs.declared.client_place.ClientPlace.{ClientPlace}
use Rattle.service_parts.specs.Clients.{ClientsAreAnswered, DoesAt, Hears, IsOpen, IsSame, IsServed, OthersStay, Sends, more_by, ready_of}

pub counted : (k n r : ℕ) → n < 2 ^ 64 → r ≡ min (n + k) (2 ^ 64 - 1) → r ≡ more_by k n
counted zero n r fits is = omega (arith, fits, is)
counted (suc k) n r fits is = is

module _ {S : Type 0} (Answers : S → Frame → List ℕ → Bool → S → Type 0) where
  -- nothing is taken while answers are to go out
  pub hears_nothing : (now : ℕ) (s t : S) (c : ClientPlace) → t ≡ s → Hears Answers now s c [] t c
  hears_nothing now s t c same = record {
    same = record { taken = refl; closing = refl; right = refl };
    turns = [];
    since = refl;
    few = omega arith;
    chain = same;
    count = refl;
    served = λ before stream gone is.
        subst (λ ts. Serving Answers ts (stream ++ []) (gone ++ ready_of c) t c.session) (sym (append-nil before))
        (subst (λ l. Serving Answers before l (gone ++ ready_of c) t c.session) (sym (append-nil stream))
        (subst (λ u. Serving Answers before stream (gone ++ ready_of c) u c.session) (sym same) is));
  }

  -- what went out is what was served, in order
  pub served_on : (turns : List (Turn S)) (stream gone : List ℕ) (s : S) (old new : ClientPlace) (n : ℕ) → Sends old n new → IsServed Answers turns stream gone s old → IsServed Answers turns stream (gone ++ take n (ready_of old)) s new
  served_on turns stream gone s old new n sends before =
      let e : (gone ++ ready_of old) ++ sends.put ≡ (gone ++ take n (ready_of old)) ++ ready_of new =
      append_assoc gone (ready_of old) sends.put ∙ ap (λ l. gone ++ l) sends.ready ∙ sym (append_assoc gone (take n (ready_of old)) (ready_of new)) in
      subst (λ l. Serving Answers turns stream l s new.session) e (puts before sends.put new.session sends.puts)

  begins : (may_write : Bool) (now : ℕ) (s : S) (c : ClientPlace) → IsOpen may_write now c → IsServed Answers [] [] [] s c
  begins may_write now s c is_open = subst (λ (talk : Talk). Serving Answers [] [] (ready_of c) s talk) (sym is_open.begins) (subst (λ l. Serving Answers [] [] l s fresh) (sym is_open.ready) (opened s))

  answered : (turns : List (Turn S)) (stream gone : List ℕ) (s : S) (c : ClientPlace) → IsServed Answers turns stream gone s c →
      IsRead stream (frames_in turns) c.session.held × AnsweredTo Answers c.session.goes_on turns (gone ++ (ready_of c ++ c.session.waiting))
  answered turns stream gone s c served =
      let all = any_cut_is_answered Answers turns stream (gone ++ ready_of c) s c.session served in
      (all.0, subst (AnsweredTo Answers c.session.goes_on turns) (append_assoc gone (ready_of c) c.session.waiting) all.1)

  pub clients_are_answered : ClientsAreAnswered Answers
  clients_are_answered = record {
    answered = answered;
    begins = begins;
    goes_out = served_on;
    between = λ turns stream gone s t c served. others served t;
  }

-- some more of the ready bytes are gone, and not all
pub sends_some : (old new : ClientPlace) (n : ℕ) → old.start + n ≤ old.end → new.session ≡ old.session → new.out ≡ old.out → new.start ≡ old.start + n → new.end ≡ old.end → new.requests ≡ old.requests → IsSame old new → new.last ≡ old.last → Sends old n new
sends_some old new n some session out start end_ count same since =
    let all : ℕ = old.end - old.start in
    let here : List ℕ = drop old.start old.out in
    let ready : ready_of new ≡ take (all - n) (drop n here) =
    ap (λ (l : List ℕ). take (new.end - new.start) (drop new.start l)) out ∙ ap (λ s. take (new.end - s) (drop s old.out)) start
    ∙ ap (λ k. take (k - (old.start + n)) (drop (old.start + n) old.out)) end_ ∙ ap (λ k. take k (drop (old.start + n) old.out)) (less old.end old.start n) ∙ ap (λ (l : List ℕ). take (all - n) l) (sym (drop-drop n old.start old.out)) in
    let front : take n (ready_of old) ≡ take n here = take-take n all here (omega (arith, some)) in
    let whole : n + (all - n) ≡ all = omega (arith, some) in
    let both : take n here ++ take (all - n) (drop n here) ≡ ready_of old = sym (take-add n (all - n) here) ∙ ap (λ k. take k here) whole in
    record {
      same = same;
      since = since;
      put = [];
      puts = subst (λ (s : Talk). Puts old.session [] s) (sym session) (record { front = refl; held = refl; goes_on = refl });
      count = count;
      ready = append-nil (ready_of old) ∙ sym both ∙ ap (λ (l : List ℕ). l ++ take (all - n) (drop n here)) (sym front) ∙ ap (λ (l : List ℕ). take n (ready_of old) ++ l) (sym ready);
    }
  where
    less : (e s n : ℕ) → e - (s + n) ≡ (e - s) - n
    less e s n = omega arith

-- ---- a place among all

there : {X : Type 0} (xs : List X) (i : ℕ) (x v : X) → slice_get xs i ≡ Some x → slice_get (slice_set xs i v) i ≡ Some v
there [] i x v e = cc
there (y ∷ ys) zero x v e = refl
there (y ∷ ys) (suc i) x v e = there ys i x v e

elsewhere : {X : Type 0} (xs : List X) (i k : ℕ) (v : X) → (k ≡ i → ⊥) → slice_get (slice_set xs i v) k ≡ slice_get xs k
elsewhere [] i k v other = refl
elsewhere (y ∷ ys) zero zero v other = absurd (other refl)
elsewhere (y ∷ ys) zero (suc k) v other = refl
elsewhere (y ∷ ys) (suc i) zero v other = refl
elsewhere (y ∷ ys) (suc i) (suc k) v other = elsewhere ys i k v (λ e. other (ap suc e))

same_some : {X : Type 0} {o : Option X} {a b : X} → o ≡ Some a → o ≡ Some b → a ≡ b
same_some p q = cc

pub others_stay : (places now : List ClientPlace) (place : ℕ) (new : ClientPlace) → now ≡ places → OthersStay places place (slice_set now place new)
others_stay places now place new same other away = elsewhere now place other new away ∙ ap (λ (l : List ClientPlace). slice_get l other) same

pub stands_there : (places : List ClientPlace) (place : ℕ) (old new : ClientPlace) → slice_get places place ≡ Some old → slice_get (slice_set places place new) place ≡ Some new
stands_there places place old new at = there places place old new at

pub done_at : (Does : ClientPlace → ClientPlace → Type 0) (places now : List ClientPlace) (place : ℕ) (old new : ClientPlace) → now ≡ places → slice_get now place ≡ Some old → Does old new → DoesAt Does places place (slice_set now place new)
done_at Does places now place old new same at does = (
  (λ c is. (new, there now place old new at, subst (λ x. Does x new) (same_some at (ap (λ (l : List ClientPlace). slice_get l place) same ∙ is)) does)),
  others_stay places now place new same,
)

pub that_one : (P : ClientPlace → Type 0) (places : List ClientPlace) (place : ℕ) (old : ClientPlace) → slice_get places place ≡ Some old → P old → (c : ClientPlace) → slice_get places place ≡ Some c → P c
that_one P places place old at is c here = subst P (same_some at here) is

pub nobody_at : (Does : ClientPlace → ClientPlace → Type 0) (places now : List ClientPlace) (place : ℕ) → now ≡ places → slice_get now place ≡ None → DoesAt Does places place now
nobody_at Does places now place same none = (
  (λ c is. let e = ap (λ (l : List ClientPlace). slice_get l place) same ∙ is in cc),
  (λ other away. ap (λ (l : List ClientPlace). slice_get l other) same),
)
