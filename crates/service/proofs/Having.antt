-- What devices have of what was written to them.
use Rattle.std.proofs.Common.{arith, ◌+◌, ◌<◌, ◌≤◌, length, ◌≡◌, ◌≢◌, ◌⊎◌, inl, inr, ℕ, zero, suc, Bool, true, false, ◌&&◌, eqb, List, [], ◌∷◌, Option, None, Some, Result, Ok, Err, refl, sym, ap, subst, ◌∙◌, if◌then◌else◌}
use Rattle.std.specs.Prelude.{◌==◌, nat_eq, option_and_then, slice_set}
use Rattle.std.specs.Option.{option_map_or}
use Rattle.std.proofs.lemmas.Bool.{cases_lt}
use Rattle.std.proofs.lemmas.Bool.Decides.{eqb_tells}
use Rattle.std.proofs.lemmas.Option.{slice_get_past}
use Rattle.modbus_frame.specs.declared.message.Exception.{Exception}
use Rattle.modbus_frame.specs.declared.message.Request.{Request}
use Rattle.site_model.specs.Readings.{known_at}
use Rattle.point_writer.specs.declared.write.Write.{Write}
use Rattle.point_writer.specs.declared.write.NoWrite.{NoWrite}
use Rattle.gateway.specs.declared.poller.outcome.Outcome.{Outcome}
use Rattle.gateway.specs.declared.poller.outcome.Outcome.TheVariants as outcome
use Rattle.gateway.specs.event_core.Control.{IsPlanned}
use Rattle.gateway.specs.event_core.Core.{Gateway}
use Rattle.service_requests.specs.declared.request_end.RequestEnd.{RequestEnd}
use Rattle.service_requests.specs.declared.request_end.RequestEnd.TheVariants as fate
use Rattle.service_parts.specs.declared.asked.Aim.{Aim}
use Rattle.service_parts.specs.declared.asked.Aim.TheVariants as aim
use Rattle.service_parts.specs.declared.asked.Asked.{Asked}
use Rattle.service_parts.specs.Answering.{is_answer}
use Rattle.service_parts.proofs.Frames.{set_other}
use Rattle.service.specs.declared.device_side.DeviceSide.{DeviceSide}
use Rattle.service.specs.declared.notice.Loss.{Loss}
use Rattle.service.specs.declared.notice.Unwritten.TheVariants as unwritten
use Rattle.service.specs.declared.output.OutputState.{OutputState}
use Rattle.service.specs.declared.output.OutputState.TheVariants as state
use Rattle.service.specs.declared.held_writes.HeldWrite.{HeldWrite}
use Rattle.service.specs.declared.held_back.LeftOut.{LeftOut}
use Rattle.service.specs.declared.held_back.LeftOut.TheVariants as why
use Rattle.service.specs.declared.held_writes.HeldWrites.{HeldWrites}
use Rattle.service.specs.declared.identities.Identities.{Identities}
use Rattle.service.specs.declared.identities.Said.{Said}
use Rattle.service.specs.Identity as identity
use Rattle.service.proofs.Saying as identity_proofs
use Rattle.service.specs.Counting.{came_to}
use Rattle.service.specs.Having as having
use Rattle.service.specs.Having.{Forgets, Has, HasMoreBy, HasNoMore, HasOrTook, IsAnsweredBy, IsHad, IsHeardBy, IsOfPlan, IsRefusedAt, IsRefusedBy, IsRefusedIf, IsToldBy, IsToWait, IsToWrite, IsUnplanned, IsWithin, StillHas, TellsAt, TellsHad, WritesAt, WritesHad, taken_by, taken_for, taken_if}
use Rattle.service.specs.LeftOut.{IsLeftOut, left_in}
use Rattle.service.specs.Pairing.{is_had_if}
use Rattle.service.specs.Rewriting.{after_answer, had_without, is_held, is_of, is_recent, is_same, write_of}
use Rattle.service.specs.Telling.{state_by}
use Rattle.service.specs.Told.{BecomesBy, Goes, IsThis, IsUnanswered, LosesBy, PlansBy, RunsBy, TellsBy}

-- ---- one entry changes

module _ {X : Type 0} where
  none_here : (xs : List (Option X)) (i : ℕ) (x : X) → known_at (slice_set xs i None) i ≡ Some x → ⊥
  none_here [] i x is = absurd (cc)
  none_here (y ∷ xs) zero x is = absurd (cc)
  none_here (y ∷ xs) (suc i) x is = none_here xs i x is

  this_here : (xs : List (Option X)) (i : ℕ) (y x : X) → known_at (slice_set xs i (Some y)) i ≡ Some x → y ≡ x
  this_here [] i y x is = absurd (cc)
  this_here (z ∷ xs) zero y x is = cc
  this_here (z ∷ xs) (suc i) y x is = this_here xs i y x is

  pub none_known : (xs : List (Option X)) (i : ℕ) → known_at (slice_set xs i None) i ≡ None
  none_known [] i = refl
  none_known (y ∷ xs) zero = refl
  none_known (y ∷ xs) (suc i) = none_known xs i

  pub same_there : (xs : List (Option X)) (i k : ℕ) (entry : Option X) → k ≢ i → known_at (slice_set xs i entry) k ≡ known_at xs k
  same_there xs i k entry other = ap (option_and_then (λ (o : Option X). o)) (set_other xs i k entry other)

-- ---- nothing more

pub all_within : (first held : HeldWrites) → IsWithin first held → StillHas first held
all_within first held (having.still all) = all

pub no_more : (old new : HeldWrites) → new.companions.items ≡ old.companions.items → ((output : ℕ) (write : HeldWrite) → Has new output write → Has old output write) → ((first : Identities) → identity.IsWithin first old.identities → identity.IsWithin first new.identities) → HasNoMore old new
no_more old new companions each said first within =
    let before = all_within first old within in
    having.still (record { each = λ output write has. before.each output write (each output write has); said = said first.identities before.said; companions = companions ∙ before.companions })

pub within_own : (held : HeldWrites) → IsWithin held held
within_own held = having.still (record { each = λ output write has. has; said = identity_proofs.within_own held.identities; companions = refl })

pub had : (old new : HeldWrites) → HasNoMore old new → (output : ℕ) (write : HeldWrite) → Has new output write → Has old output write
had old new more = (all_within old new (more old (within_own old))).each

pub still_with : (old new : HeldWrites) → HasNoMore old new → new.companions.items ≡ old.companions.items
still_with old new more = (all_within old new (more old (within_own old))).companions

-- nor do they say more
pub said_within : (old new : HeldWrites) → HasNoMore old new → identity.IsWithin old.identities new.identities
said_within old new more = (all_within old new (more old (within_own old))).said

-- ---- what is known no more

-- of one output nothing is had any more
pub had_no_more : (old new : HeldWrites) (at : ℕ) → new.writes.items ≡ slice_set old.writes.items at None → new.companions.items ≡ old.companions.items → new.identities ≡ old.identities → HasNoMore old new
had_no_more old new at is companions same = no_more old new companions (λ output write has. go output write (eqb_tells output at) (ap (λ (xs : List (Option HeldWrite)). known_at xs output) (sym is) ∙ has.is)) (λ first. identity_proofs.within_same old.identities new.identities first same)
  where
    go : (output : ℕ) (write : HeldWrite) → ((eqb output at ≡ true) × (output ≡ at)) ⊎ ((eqb output at ≡ false) × (output ≢ at)) → known_at (slice_set old.writes.items at None) output ≡ Some write → Has old output write
    go output write (inl here) has = absurd (none_here old.writes.items at write (ap (λ k. known_at (slice_set old.writes.items at None) k) (sym here.1) ∙ has))
    go output write (inr away) has = record { is = sym (same_there old.writes.items at output None away.1) ∙ has }

pub forgets_no_more : (device : ℕ) (old new : HeldWrites) → Forgets device old new → new.companions.items ≡ old.companions.items → new.identities ≡ old.identities → HasNoMore old new
forgets_no_more device old new forgets companions same = no_more old new companions (λ output write has. record { is = go (known_at old.writes.items output) write (sym (forgets output) ∙ has.is) }) (λ first. identity_proofs.within_same old.identities new.identities first same)
  where
    go : (entry : Option HeldWrite) (write : HeldWrite) → had_without device entry ≡ Some write → entry ≡ Some write
    go None write is = is
    go (Some held) write is = by_own (nat_eq held.device device) is
      where
        by_own : (b : Bool) → (if b then None else Some held) ≡ Some write → Some held ≡ Some write
        by_own true none = absurd (cc)
        by_own false same = same

-- ---- what devices say of themselves

same_had : (old new : HeldWrites) → new.writes ≡ old.writes → (output : ℕ) (write : HeldWrite) → Has new output write → Has old output write
same_had old new same output write has = record { is = known ∙ has.is }
  where
    known : known_at old.writes.items output ≡ known_at new.writes.items output
    known = cc

-- a device says nothing now
pub said_no_more : (device : ℕ) (old new : HeldWrites) → new.writes ≡ old.writes → new.companions.items ≡ old.companions.items → new.identities.wanted ≡ old.identities.wanted → new.identities.found ≡ old.identities.found → new.identities.last.items ≡ slice_set old.identities.last.items device None → HasNoMore old new
said_no_more device old new same companions wanted found last = no_more old new companions (same_had old new same) (λ first. identity_proofs.unsaid_within device old.identities new.identities first wanted found last)

-- what it said is kept
pub found_no_more : (b : Bool) (device : ℕ) (old new : HeldWrites) → new.writes ≡ old.writes → new.companions.items ≡ old.companions.items → new.identities.wanted ≡ old.identities.wanted → new.identities.last ≡ old.identities.last
    → new.identities.found.items ≡ (if b then slice_set old.identities.found.items device (identity.said_of old.identities device) else old.identities.found.items) → HasNoMore old new
found_no_more b device old new same companions wanted last found = no_more old new companions (same_had old new same) (λ first. identity_proofs.found_within_if b device old.identities new.identities first wanted last found)

-- ---- one after another

below_other : (k i : ℕ) → k < i + 1 → k ≢ i → k < i
below_other k i below other = go (cases_lt k i)
  where
    go : (k < i) ⊎ (i ≤ k) → k < i
    go (inl less) = less
    go (inr more) = absurd (other (omega (arith, more, below)))

known_set : {X : Type 0} (xs : List (Option X)) (i : ℕ) (entry : Option X) → i < length xs → known_at (slice_set xs i entry) i ≡ entry
known_set [] i entry within = absurd (omega (arith, within))
known_set (y ∷ xs) zero entry within = refl
known_set (y ∷ xs) (suc i) entry within = known_set xs i entry (omega (arith, within))

set_own : {X : Type 0} (xs : List (Option X)) (i : ℕ) → xs ≡ slice_set xs i (known_at xs i)
set_own [] i = refl
set_own (x ∷ xs) zero = refl
set_own (x ∷ xs) (suc i) = ap (λ l. x ∷ l) (set_own xs i)

pub others_stay : (device : ℕ) (writes : List (Option HeldWrite)) (i : ℕ) → is_of device (known_at writes i) ≡ false → writes ≡ slice_set writes i (had_without device (known_at writes i))
others_stay device writes i other = set_own writes i ∙ ap (slice_set writes i) (stays (known_at writes i) (is_of device (known_at writes i)) other)
  where
    stays : (entry : Option HeldWrite) (b : Bool) → b ≡ false → entry ≡ (if b then None else entry)
    stays entry true is = absurd (cc)
    stays entry false is = refl

known_past : {X : Type 0} (xs : List (Option X)) (k : ℕ) → length xs ≤ k → known_at xs k ≡ None
known_past xs k past = ap (option_and_then (λ entry. entry)) (slice_get_past xs k past)

-- of the first so many outputs it isn't known any more what the device has; the others are as before
pub record IsForgotTo (device n : ℕ) (old new : HeldWrites) : Type 0 where
  pub said : new.identities ≡ old.identities
  pub len : length new.writes.items ≡ length old.writes.items
  pub companions : new.companions.items ≡ old.companions.items
  pub before : (k : ℕ) → k < n → known_at new.writes.items k ≡ had_without device (known_at old.writes.items k)
  pub after : (k : ℕ) → n ≤ k → known_at new.writes.items k ≡ known_at old.writes.items k

module _ (device : ℕ) where
  pub forgot_none : (old : HeldWrites) → IsForgotTo device 0 old old
  forgot_none old = record { said = refl; len = refl; companions = refl; before = λ k below. absurd (omega (arith, below)); after = λ k above. refl }

  pub forgot_further : (i : ℕ) (old middle new : HeldWrites) → IsForgotTo device i old middle → i < length middle.writes.items → length new.writes.items ≡ length middle.writes.items → new.companions.items ≡ middle.companions.items
      → new.writes.items ≡ slice_set middle.writes.items i (had_without device (known_at middle.writes.items i)) → new.identities ≡ middle.identities → IsForgotTo device (i + 1) old new
  forgot_further i old middle new forgot within same with_same is said = record {
    said = said ∙ forgot.said;
    len = same ∙ forgot.len;
    companions = with_same ∙ forgot.companions;
    before = λ k below. ap (λ (xs : List (Option HeldWrite)). known_at xs k) is ∙ go k below (eqb_tells k i);
    after = λ k above. ap (λ (xs : List (Option HeldWrite)). known_at xs k) is ∙ (same_there middle.writes.items i k entry (λ at. absurd (omega (arith, above, at))) ∙ forgot.after k (omega (arith, above)));
  }
    where
      entry : Option HeldWrite
      entry = had_without device (known_at middle.writes.items i)

      go : (k : ℕ) → k < i + 1 → ((eqb k i ≡ true) × (k ≡ i)) ⊎ ((eqb k i ≡ false) × (k ≢ i)) → known_at (slice_set middle.writes.items i entry) k ≡ had_without device (known_at old.writes.items k)
      go k below (inl here) =
          ap (λ n. known_at (slice_set middle.writes.items i entry) n) here.1 ∙ (known_set middle.writes.items i entry within ∙ (ap (had_without device) (forgot.after i (omega arith)) ∙ ap (λ n. had_without device (known_at old.writes.items n)) (sym here.1)))
      go k below (inr away) = same_there middle.writes.items i k entry away.1 ∙ forgot.before k (below_other k i below away.1)

  pub forgot_all : (n : ℕ) (old new : HeldWrites) → length new.writes.items ≤ n → IsForgotTo device n old new → Forgets device old new
  forgot_all n old new all forgot output = go (cases_lt output n)
    where
      go : (output < n) ⊎ (n ≤ output) → known_at new.writes.items output ≡ had_without device (known_at old.writes.items output)
      go (inl below) = forgot.before output below
      go (inr past) = known_past new.writes.items output (omega (arith, all, past)) ∙ ap (had_without device) (sym (known_past old.writes.items output (omega (arith, all, past, forgot.len))))

-- ---- what is taken

if_same : (which output : ℕ) (write : HeldWrite) → which ≡ output → (if which == output then Some write else None) ≡ Some write
if_same which output write same = go (eqb_tells which output)
  where
    go : ((eqb which output ≡ true) × (which ≡ output)) ⊎ ((eqb which output ≡ false) × (which ≢ output)) → (if which == output then Some write else None) ≡ Some write
    go (inl here) = rw here.0 refl
    go (inr away) = absurd (away.1 same)

module _ (old new : HeldWrites) (asked : Asked) (which now : ℕ) (aimed : asked.aim ≡ aim.Output which) where
  nothing_taken : new.writes.items ≡ old.writes.items → (output : ℕ) (write : HeldWrite) → Has new output write → Has old output write
  nothing_taken same output write has = record { is = sym (ap (λ (xs : List (Option HeldWrite)). known_at xs output) same) ∙ has.is }

  wrote : new.writes.items ≡ slice_set old.writes.items which (Some (write_of asked now)) → (output : ℕ) (write : HeldWrite) → Has new output write → HasOrTook (taken_by outcome.Wrote asked now) old output write
  wrote is output write has = go (eqb_tells output which)
    where
      took : known_at (slice_set old.writes.items which (Some (write_of asked now))) output ≡ Some write
      took = ap (λ (xs : List (Option HeldWrite)). known_at xs output) (sym is) ∙ has.is

      go : ((eqb output which ≡ true) × (output ≡ which)) ⊎ ((eqb output which ≡ false) × (output ≢ which)) → Has old output write ⊎ (taken_by outcome.Wrote asked now output ≡ Some write)
      go (inl here) =
          let own : write_of asked now ≡ write = this_here old.writes.items which (write_of asked now) write (ap (λ k. known_at (slice_set old.writes.items which (Some (write_of asked now))) k) (sym here.1) ∙ took) in
          inr (ap (λ a. taken_for a (write_of asked now) output) aimed ∙ (if_same which output (write_of asked now) (sym here.1) ∙ ap Some own))
      go (inr away) = inl (record { is = sym (same_there old.writes.items which output (Some (write_of asked now)) away.1) ∙ took })

  pub had_by : (o : Outcome) → new.writes.items ≡ after_answer (state_by o) which (write_of asked now) old.writes.items → new.companions.items ≡ old.companions.items → HasMoreBy (taken_by o asked now) old new
  had_by outcome.Wrote is same = record { each = wrote is; companions = same }
  had_by (outcome.Words words) is same = record { each = λ output write has. inl (nothing_taken is output write has); companions = same }
  had_by (outcome.Exception e) is same = record { each = λ output write has. inl (nothing_taken is output write has); companions = same }
  had_by outcome.Mismatch is same = record { each = λ output write has. inl (nothing_taken is output write has); companions = same }
  had_by outcome.Stale is same = record { each = λ output write has. inl (nothing_taken is output write has); companions = same }

-- ---- where no request is under way

unasked_none : (asked : Option Asked) (f : Option RequestEnd) (now output : ℕ) (write : HeldWrite) → asked ≡ None → taken_if asked f now output ≡ Some write → ⊥
unasked_none None f now output write none is = absurd (cc)
unasked_none (Some a) f now output write none is = absurd (cc)

pub unasked : (asked : Option Asked) (f : Option RequestEnd) (now : ℕ) (old new : HeldWrites) → asked ≡ None → HasMoreBy (taken_if asked f now) old new → identity.SaysMoreBy (identity.IsSaidIf asked f) old.identities new.identities → HasNoMore old new
unasked asked f now old new none more says = no_more old new more.companions (λ output write has. go output write (more.each output write has)) (λ first. identity_proofs.unasked_within asked f old.identities new.identities first none says)
  where
    go : (output : ℕ) (write : HeldWrite) → Has old output write ⊎ (taken_if asked f now output ≡ Some write) → Has old output write
    go output write (inl before) = before
    go output write (inr is) = absurd (unasked_none asked f now output write none is)

unrefused_none : (asked : Option Asked) (f : Option RequestEnd) (code : Option Exception) (output : ℕ) → asked ≡ None → IsRefusedIf asked f code output → ⊥
unrefused_none None f code output none is = is
unrefused_none (Some a) f code output none is = absurd (cc)

unanswered_none : (asked : Option Asked) (f : Option RequestEnd) (now output : ℕ) (became : OutputState) → asked ≡ None → IsAnsweredBy (taken_if asked f now) (IsRefusedIf asked f) output became → ⊥
unanswered_none asked f now output state.Written none taken = unasked_none asked f now output taken.0 none taken.1
unanswered_none asked f now output (state.Unwritten (unwritten.Refused code)) none is = unrefused_none asked f code output none is
unanswered_none asked f now output (state.Unwritten unwritten.Unanswered) none is = is
unanswered_none asked f now output (state.Unwritten (unwritten.NoSetPoint cause)) none is = is

pub unless_asked : (asked : Option Asked) (f : Option RequestEnd) (now : ℕ) (held : HeldWrites) → asked ≡ None → (output : ℕ) (became : OutputState) → IsHeardBy (taken_if asked f now) (IsRefusedIf asked f) held output became → IsToldBy held output became
unless_asked asked f now held none output became (inl told) = told
unless_asked asked f now held none output became (inr answered) = absurd (unanswered_none asked f now output became none answered)

-- ---- what is told of it

pub had_before : (old new : HeldWrites) → HasNoMore old new → (output : ℕ) → IsHad new output → IsHad old output
had_before old new more output is = record { write = is.write; has = had old new more output is.write is.has }

-- what is told of an output, as a service stood before
pub told_before : (old new : HeldWrites) → HasNoMore old new → (output : ℕ) (became : OutputState) → IsToldBy new output became → IsToldBy old output became
told_before old new more output state.Written is = had_before old new more output is
told_before old new more output (state.Unwritten unwritten.Unanswered) is = is
told_before old new more output (state.Unwritten (unwritten.Refused code)) is = is
told_before old new more output (state.Unwritten (unwritten.NoSetPoint cause)) is = is

told_by_before : (took : ℕ → Option HeldWrite) (IsRefused : Option Exception → ℕ → Type 0) (old new : HeldWrites) → HasMoreBy took old new → (output : ℕ) (became : OutputState) → IsToldBy new output became → IsHeardBy took IsRefused old output became
told_by_before took IsRefused old new more output state.Written is = go (more.each output is.write is.has)
  where
    go : Has old output is.write ⊎ (took output ≡ Some is.write) → IsHeardBy took IsRefused old output state.Written
    go (inl before) = inl (record { write = is.write; has = before })
    go (inr now) = inr (is.write, now)
told_by_before took IsRefused old new more output (state.Unwritten unwritten.Unanswered) is = inl is
told_by_before took IsRefused old new more output (state.Unwritten (unwritten.Refused code)) is = inl is
told_by_before took IsRefused old new more output (state.Unwritten (unwritten.NoSetPoint cause)) is = inl is

had_within : (first held : HeldWrites) → IsWithin first held → (output : ℕ) → IsHad held output → IsHad first output
had_within first held within output is = record { write = is.write; has = (all_within first held within).each output is.write is.has }

pub told_within : (first held : HeldWrites) → IsWithin first held → (output : ℕ) (became : OutputState) → IsToldBy held output became → IsToldBy first output became
told_within first held within output state.Written is = had_within first held within output is
told_within first held within output (state.Unwritten unwritten.Unanswered) is = is
told_within first held within output (state.Unwritten (unwritten.Refused code)) is = is
told_within first held within output (state.Unwritten (unwritten.NoSetPoint cause)) is = is

module _ (took : ℕ → Option HeldWrite) (IsRefused : Option Exception → ℕ → Type 0) where
  -- in place of what is told while a service goes on, that or what is answered now
  pub writes_by : (held : HeldWrites) (old new : DeviceSide) → WritesHad held old new → BecomesBy (IsHeardBy took IsRefused held) old new
  writes_by held old new writes may has = writes held (within_own held) may (λ output became is. has output became (inl is))

  pub tells_by : (Why : ℕ → Loss → Type 0) (held : HeldWrites) (old new : DeviceSide) → TellsHad Why held old new → TellsBy Why (IsHeardBy took IsRefused held) old new
  tells_by Why held old new tells may lost has = tells held (within_own held) may lost (λ output became is. has output became (inl is))

  pub takes_on : (old middle new : HeldWrites) (first second third last : DeviceSide) → BecomesBy (IsAnsweredBy took IsRefused) first second → HasMoreBy took old middle → HasNoMore middle new → Goes second third → WritesHad new third last
      → BecomesBy (IsHeardBy took IsRefused old) first last
  takes_on old middle new first second third last takes more then_none goes on may has from led =
      on new (within_own new) may (λ output became is. has output became (told_by_before took IsRefused old middle more output became (told_before middle new then_none output became is))) from (goes may from (takes may (λ output became is. has output became (inr is)) from led))

-- what a device's answer says of its output, that is answered
answered_this : (o : Outcome) (asked : Asked) (which now output : ℕ) → asked.aim ≡ aim.Output which → output ≡ which → IsAnsweredBy (taken_by o asked now) (IsRefusedBy o asked) output (state_by o)
answered_this outcome.Wrote asked which now output aimed is =
    (write_of asked now, ap (λ a. taken_for a (write_of asked now) output) aimed ∙ if_same which output (write_of asked now) (sym is))
answered_this (outcome.Words words) asked which now output aimed is = (aimed ∙ ap (λ k. aim.Output k) (sym is), λ wrote. absurd (cc), refl)
answered_this (outcome.Exception e) asked which now output aimed is = (aimed ∙ ap (λ k. aim.Output k) (sym is), λ wrote. absurd (cc), refl)
answered_this outcome.Mismatch asked which now output aimed is = (aimed ∙ ap (λ k. aim.Output k) (sym is), λ wrote. absurd (cc), refl)
answered_this outcome.Stale asked which now output aimed is = (aimed ∙ ap (λ k. aim.Output k) (sym is), λ wrote. absurd (cc), refl)

pub takes_written : (o : Outcome) (asked : Asked) (which now : ℕ) (old new : DeviceSide) → asked.aim ≡ aim.Output which → BecomesBy (IsThis which (state_by o)) old new → BecomesBy (IsAnsweredBy (taken_by o asked now) (IsRefusedBy o asked)) old new
takes_written o asked which now old new aimed becomes may has =
    becomes may (λ output became is. has output became (subst (λ b. IsAnsweredBy (taken_by o asked now) (IsRefusedBy o asked) output b) (sym is.1) (answered_this o asked which now output aimed is.0)))

-- the outcome is an answer
pub is_by_answer : (took : ℕ → Option HeldWrite) (o : Outcome) (asked : Asked) (held : HeldWrites) → is_answer o ≡ true → (output : ℕ) (became : OutputState) → IsHeardBy took (IsRefusedBy o asked) held output became → IsHeardBy took (IsRefusedAt (fate.Told o) asked) held output became
is_by_answer took o asked held answers output became (inl told) = inl told
is_by_answer took o asked held answers output state.Written (inr taken) = inr taken
is_by_answer took o asked held answers output (state.Unwritten (unwritten.Refused code)) (inr is) = inr (answers, is)
is_by_answer took o asked held answers output (state.Unwritten unwritten.Unanswered) (inr is) = absurd is
is_by_answer took o asked held answers output (state.Unwritten (unwritten.NoSetPoint cause)) (inr is) = absurd is

-- what is told of an output that its device has
pub told_had : (held : HeldWrites) (output which : ℕ) (became : OutputState) → IsHad held output → IsThis output state.Written which became → IsToldBy held which became
told_had held output which became had is = subst (λ b. IsToldBy held which b) (sym is.1) (subst (λ k. IsHad held k) (sym is.0) had)

-- what is told of an output where nothing came of its write
told_unanswered : (held : HeldWrites) (output : ℕ) (became : OutputState) → IsUnanswered output became → IsToldBy held output became
told_unanswered held output became is = subst (λ b. IsToldBy held output b) (sym is) tt

pub writes_unanswered : (held : HeldWrites) (old new : DeviceSide) → BecomesBy IsUnanswered old new → WritesHad held old new
writes_unanswered held old new becomes first within may has = becomes may (λ output became is. has output became (told_unanswered first output became is))

-- ---- what is told by a scan

-- what is told by a plan: where there is none, for its cause
planned_this : (core : Gateway) (which : ℕ) (plan : Result Write NoWrite) → IsPlanned core which plan → (output : ℕ) (became : OutputState) → IsOfPlan which plan output became → IsUnplanned core output became
planned_this core which (Ok write) is output became of = absurd of
planned_this core which (Err cause) is output became of = subst (λ b. IsUnplanned core output b) (sym of.1) (subst (λ k. IsPlanned core k (Err cause)) (sym of.0) is)

-- a write is waited for where one is planned
planned_to : (core : Gateway) (which : ℕ) (plan : Result Write NoWrite) → IsPlanned core which plan → (output : ℕ) → IsToWait which plan output → IsToWrite core output
planned_to core which (Ok write) is output same = (write, subst (λ k. IsPlanned core k (Ok write)) (sym same) is)
planned_to core which (Err cause) is output none = absurd none

pub becomes_planned : (core : Gateway) (which : ℕ) (plan : Result Write NoWrite) (old new : DeviceSide) → IsPlanned core which plan → PlansBy (IsOfPlan which plan) (IsToWait which plan) old new → PlansBy (IsUnplanned core) (IsToWrite core) old new
becomes_planned core which plan old new is becomes may has waits =
    becomes may (λ output became of. has output became (planned_this core which plan is output became of)) (λ output to. waits output (planned_to core which plan is output to))

-- the program runs amid what else is told
pub writes_at : (core : Gateway) (held ran : HeldWrites) (first second third last : DeviceSide) → WritesHad held first second → RunsBy (came_to core.standing.last) (IsUnplanned core) (IsToWrite core) second third → HasNoMore held ran → WritesHad ran third last → WritesAt core held first last
writes_at core held ran first second third last before plans more on within_ within may has waits counted from led =
    on within_ (more within_ within) may (λ output became is. has output became (inl is)) from (plans may (λ output became is. has output became (inr is)) waits counted from (before within_ within may (λ output became is. has output became (inl is)) from led))

-- a device may be lost before
pub tells_at : (Why : ℕ → Loss → Type 0) (core : Gateway) (held later : HeldWrites) (first second last : DeviceSide) → LosesBy Why first second → HasNoMore held later → WritesAt core later second last → TellsAt Why core held first last
tells_at Why core held later first second last loses more writes within_ within may lost has waits counted from led = writes within_ (more within_ within) may has waits counted from (loses may lost from led)

-- ---- what is held back

held_has : (held : HeldWrites) (output : ℕ) (own : Option HeldWrite) → known_at held.writes.items output ≡ own → (device : ℕ) (asked : Request) (number within now : ℕ)
    → option_map_or (λ w. is_same w device asked && is_recent w number within now) own false ≡ true → IsHad held output
held_has held output None own_is device asked number within now is = absurd (cc)
held_has held output (Some write) own_is device asked number within now is = record { write = write; has = record { is = own_is } }

if_held : (b : Bool) (which output : ℕ) → (if b then Some (why.Held which) else None) ≡ Some (why.Held output) → (b ≡ true) × (which ≡ output)
if_held true which output is = (refl, cc)
if_held false which output is = absurd (cc)

if_had : (b c : Bool) (which output : ℕ) → (if b then (if c then Some (why.Held which) else None) else Some (why.Alone which)) ≡ Some (why.Held output) → (c ≡ true) × (which ≡ output)
if_had true c which output is = if_held c which output is
if_had false c which output is = absurd (cc)

-- what would be written once more the device has
pub held_had : (held : HeldWrites) (device number within now : ℕ) (made_for : Aim) (asked : Request) (output : ℕ) → left_in held.companions.items held.writes.items device number within now made_for asked ≡ Some (why.Held output) → IsHad held output
held_had held device number within now (aim.Block want) asked output is = absurd (cc)
held_had held device number within now aim.Map asked output is = absurd (cc)
held_had held device number within now (aim.Output which) asked output is =
    let (has, same) = if_had (is_had_if held.writes.items number (known_at held.companions.items which)) (is_held held.writes.items which device asked number within now) which output is in
    subst (λ k. IsHad held k) same (held_has held which _ refl device asked number within now has)

-- what is told of a write that is left out
pub told_left : (held : HeldWrites) (device number within now : ℕ) (made_for : Aim) (asked : Request) (cause : LeftOut) → left_in held.companions.items held.writes.items device number within now made_for asked ≡ Some cause
    → (which : ℕ) (became : OutputState) → IsLeftOut cause which became → IsToldBy held which became
told_left held device number within now made_for asked (why.Held output) is which became told = told_had held output which became (held_had held device number within now made_for asked output is) told
told_left held device number within now made_for asked (why.Alone output) is which became told = subst (λ b. IsToldBy held which b) (sym told.1) refl

-- ---- as a service stood before other calls

pub had_from : (o : Outcome) (asked : Asked) (now then_ : ℕ) (old first new : HeldWrites) → now ≡ then_ → old ≡ first → HasMoreBy (taken_by o asked now) old new → HasMoreBy (taken_by o asked then_) first new
had_from o asked now then_ old first new same_time same more = subst (λ n. HasMoreBy (taken_by o asked n) first new) same_time (subst (λ s. HasMoreBy (taken_by o asked now) s new) same more)

pub had_then : (took : ℕ → Option HeldWrite) (old middle new : HeldWrites) → HasMoreBy took old middle → HasNoMore middle new → HasMoreBy took old new
had_then took old middle new more then_none = record {
  each = λ output write has. more.each output write (had middle new then_none output write has);
  companions = still_with middle new then_none ∙ more.companions;
}

-- where no output's write is answered
pub had_same : (took : ℕ → Option HeldWrite) (old new : HeldWrites) → new.writes ≡ old.writes → new.companions.items ≡ old.companions.items → HasMoreBy took old new
had_same took old new same companions = record { each = λ output write has. inl (same_had old new same output write has); companions = companions }

-- what devices say, by an answer and then by nothing more
pub says_then : (Says : ℕ → Said → Type 0) (old middle new : HeldWrites) → identity.SaysMoreBy Says old.identities middle.identities → HasNoMore middle new → identity.SaysMoreBy Says old.identities new.identities
says_then Says old middle new says more = identity_proofs.says_within Says old.identities middle.identities new.identities says (said_within middle new more)

pub says_since : (Says : ℕ → Said → Type 0) (first old new : HeldWrites) → HasNoMore first old → identity.SaysMoreBy Says old.identities new.identities → identity.SaysMoreBy Says first.identities new.identities
says_since Says first old new more says = identity_proofs.says_after Says first.identities old.identities new.identities (said_within first old more) says

pub says_none : (Says : ℕ → Said → Type 0) (old new : HeldWrites) → HasNoMore old new → identity.SaysMoreBy Says old.identities new.identities
says_none Says old new more = identity_proofs.says_then_within Says old.identities new.identities (said_within old new more)

pub none_more : (took : ℕ → Option HeldWrite) (old new : HeldWrites) → HasNoMore old new → HasMoreBy took old new
none_more took old new more = record { each = λ output write has. inl (had old new more output write has); companions = still_with old new more }

pub had_since : (took : ℕ → Option HeldWrite) (first old new : HeldWrites) → HasNoMore first old → HasMoreBy took old new → HasMoreBy took first new
had_since took first old new none more = record {
  each = λ output write has. go output write (more.each output write has);
  companions = more.companions ∙ still_with first old none;
}
  where
    go : (output : ℕ) (write : HeldWrite) → HasOrTook took old output write → HasOrTook took first output write
    go output write (inl before) = inl (had first old none output write before)
    go output write (inr taken) = inr taken
