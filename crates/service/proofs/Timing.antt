-- When the program ran last stays but by a scan; and at a scan all that is known is recent.
use Rattle.std.proofs.Common.{◌≡◌, ◌≢◌, ◌⊎◌, inl, inr, ℕ, zero, suc, ◌+◌, ◌<◌, eqb, Bool, true, false, List, [], ◌∷◌, map, length, get_or, slice_get, slice_set, Option, None, Some, refl, sym, ap, subst, ◌∙◌, arith, if◌then◌else◌}
use Rattle.std.specs.Prelude.{All, ◌^◌, ◌-◌, ◌≤◌, min, max, nat_le}
use Rattle.std.proofs.lemmas.Bool.Decides.{eqb_tells}
use Rattle.std.proofs.lemmas.Option.{slice_get-get_or}
use Rattle.modbus_frame.specs.declared.frame.Frame.{Frame}
use Rattle.gateway.specs.declared.poller.cycle.Call.{Call}
use Rattle.gateway.specs.event_core.Core.{Gateway}
use Rattle.service_requests.specs.Sessions.{IsChain, Turn as ClientTurn}
use Rattle.service_requests.specs.Tasks.{next_place}
use Rattle.service_parts.specs.Calls.{write_to}
use Rattle.service_parts.proofs.Frames.{set_other, set_there}
use Rattle.service.specs.declared.last_told.LastTold.{LastTold}
use Rattle.service.specs.declared.round.Turn.{Turn}
use Rattle.site_model.specs.declared.want.Want.{Want}
use Rattle.service.specs.declared.service_state.Service.{Service}
use Rattle.service.specs.Counting.{one_more}
use Rattle.service_parts.specs.declared.asked.Asked.{Asked}
use Rattle.service_parts.specs.declared.limits.Limits.{Limits}
use Rattle.service_parts.specs.Backing.{after}
use Rattle.service_parts.specs.Overdue.{IsTimed, least_wait}
use Rattle.service.specs.Timing.{Ticks, scan_after}
use Rattle.service.specs.Rounds.{AreRecentTo, AsksWrite, Closes, ClosesWrite, IsRecent, Opens, OpensWrite, Progress, device_told, device_wanted, told_at, told_now}

-- ---- the writes

asks_at : (i : ℕ) (o : Option Call) (old : Progress) (t : Turn) (new : Progress) → AsksWrite i o old t new → new.at ≡ old.at
asks_at i (Some call) old t new asks = ap (λ (p : Progress). p.at) asks.1
asks_at i None old t new asks = ap (λ (p : Progress). p.at) asks.1

opens_write_at : (g : Gateway) (device : ℕ) (o : Option ℕ) (old : Progress) (t : Turn) (new : Progress) → OpensWrite g device o old t new → new.at ≡ old.at
opens_write_at g device None old t new opens = ap (λ (p : Progress). p.at) opens.1
opens_write_at g device (Some i) old t new (plan, planned, asks) = asks_at i (write_to device g.site.devices plan) old t new asks

pub opens_at : (g : Gateway) (device : ℕ) (old : Progress) (t : Turn) (new : Progress) → Opens g device old t new → new.at ≡ old.at
opens_at g device old t new opens = opens_write_at g device (next_place device old.writes) old t new opens

closes_write_at : (o : Option ℕ) (old new : Progress) → ClosesWrite o old new → new.at ≡ old.at
closes_write_at None old new is = ap (λ (p : Progress). p.at) is
closes_write_at (Some i) old new is = ap (λ (p : Progress). p.at) is

pub closes_at : (device : ℕ) (old new : Progress) → Closes device old new → new.at ≡ old.at
closes_at device old new closes = closes_write_at _ old new closes

-- ---- clients

module _ {S : Type 0} (Answers : S → Frame → List ℕ → Bool → S → Type 0) (f : S → ℕ)
    (each : (s : S) (frame : Frame) (bytes : List ℕ) (goes_on : Bool) (t : S) → Answers s frame bytes goes_on t → f t ≡ f s) where
  pub chain_at : (s : S) (turns : List (ClientTurn S)) (t : S) → IsChain Answers s turns t → f t ≡ f s
  chain_at s [] t same = ap f same
  chain_at s (turn ∷ turns) t (first, (bytes, goes_on, answered), rest) =
      chain_at turn.after turns t rest ∙ (each turn.before turn.frame bytes goes_on turn.after answered ∙ ap f first)

-- ---- all are recent

below_other : (k i : ℕ) → k < i + 1 → k ≢ i → k < i
below_other k i below other = omega (arith, below, other)

some_same : {a b : LastTold} → Some a ≡ Some b → a ≡ b
some_same e = cc

pub recent_further : (told : List LastTold) (i : ℕ) → ((t : LastTold) → slice_get told i ≡ Some t → IsRecent t) → AreRecentTo i told → AreRecentTo (i + 1) told
recent_further told i own before k t below at = go (eqb_tells k i)
  where
    go : ((eqb k i ≡ true) × (k ≡ i)) ⊎ ((eqb k i ≡ false) × (k ≢ i)) → IsRecent t
    go (inl here) = own t (ap (slice_get told) (sym here.1) ∙ at)
    go (inr away) = before k t (below_other k i below away.1) at

pub recent_told : (told : List LastTold) (i : ℕ) → AreRecentTo i told → AreRecentTo (i + 1) (told_at i false told)
recent_told told i before = go (slice_get told i) refl
  where
    go : (o : Option LastTold) → slice_get told i ≡ o → AreRecentTo (i + 1) (told_at i false told)
    go None is = rw is (recent_further told i (λ t at. absurd (cc)) before)
    go (Some x) is = rw is (recent_further (slice_set told i (told_now false x)) i (λ t at. subst IsRecent (some_same (sym (set_there told i x (told_now false x) is) ∙ at)) (omega arith))
        (λ k t below at. before k t below (sym (set_other told i k (told_now false x) (λ same. omega (arith, below, same))) ∙ at)))

pub recent_all : (told : List LastTold) (i : ℕ) → i ≡ length told → AreRecentTo i told → All IsRecent told
recent_all told i is recent k d within = recent k (get_or told k d) (subst (λ n. k < n) (sym is) within) (slice_get-get_or told k d within)

pub past_told : (told : List LastTold) (wants : List Want) (i : ℕ) → map device_told told ≡ map device_wanted wants → slice_get wants i ≡ None → slice_get told i ≡ None
past_told [] wants i same past = refl
past_told (t ∷ told) [] i same past = absurd (cc)
past_told (t ∷ told) (w ∷ wants) zero same past = absurd (cc)
past_told (t ∷ told) (w ∷ wants) (suc i) same past = let rest : map device_told told ≡ map device_wanted wants = cc in past_told told wants i rest past

lengths : {X Y : Type 0} (f : X → ℕ) (g : Y → ℕ) (xs : List X) (ys : List Y) → map f xs ≡ map g ys → length xs ≡ length ys
lengths f g [] [] same = refl
lengths f g [] (y ∷ ys) same = absurd (cc)
lengths f g (x ∷ xs) [] same = absurd (cc)
lengths f g (x ∷ xs) (y ∷ ys) same = let rest : map f xs ≡ map g ys = cc in ap suc (lengths f g xs ys rest)

pub wanted_length : (told : List LastTold) (wants : List Want) → map device_told told ≡ map device_wanted wants → length told ≡ length wants
wanted_length told wants same = lengths device_told device_wanted told wants same

set_length : (told : List LastTold) (i : ℕ) (t : LastTold) → length (slice_set told i t) ≡ length told
set_length [] i t = refl
set_length (x ∷ told) zero t = refl
set_length (x ∷ told) (suc i) t = ap suc (set_length told i t)

-- ---- a tick

chosen : {Y : Type 0} (b : Bool) (x y : Y) → b ≡ true → x ≡ (if b then x else y)
chosen true x y is = refl
chosen false x y is = absurd (cc)

left_out : {Y : Type 0} (b : Bool) (x y : Y) → b ≡ false → y ≡ (if b then x else y)
left_out false x y is = refl
left_out true x y is = absurd (cc)

pub ticks_ran : (now : ℕ) (old new : Service) → nat_le old.side.next_scan (max old.side.now now) ≡ true → new.side.now ≡ max old.side.now now → new.side.limits ≡ old.side.limits
    → new.side.next_scan ≡ scan_after old.side.limits.period (max old.side.now now) old.side.next_scan → new.side.scans ≡ one_more old.side.scans → new.cycle.round.at ≡ max old.side.now now → Ticks now old new
ticks_ran now old new due time limits next scans at = record {
  now = time;
  limits = limits;
  next = next ∙ chosen _ _ _ due;
  scans = scans ∙ chosen _ _ _ due;
  at = at ∙ chosen _ _ _ due;
}

pub ticks_rested : (now : ℕ) (old new : Service) → nat_le old.side.next_scan (max old.side.now now) ≡ false → new.side.now ≡ max old.side.now now → new.side.limits ≡ old.side.limits
    → new.side.next_scan ≡ old.side.next_scan → new.side.scans ≡ old.side.scans → new.cycle.round.at ≡ old.cycle.round.at → Ticks now old new
ticks_rested now old new due time limits next scans at = record {
  now = time;
  limits = limits;
  next = next ∙ left_out _ _ _ due;
  scans = scans ∙ left_out _ _ _ due;
  at = at ∙ left_out _ _ _ due;
}

-- ---- how long an answer is waited for

no_later : (now wait timeout top : ℕ) → wait ≤ timeout → min (now + wait) top ≤ min (now + timeout) top
no_later now wait timeout top less = omega (arith, less)

pub timed : (now wait : ℕ) (limits : Limits) (asked : Asked) → least_wait limits ≤ wait → wait ≤ limits.timeout → asked.since ≡ now → asked.until ≡ after now wait → IsTimed now limits asked
timed now wait limits asked least most since until = record {
  since = since;
  least = subst (λ n. after now (least_wait limits) ≤ n) (sym until) (no_later now (least_wait limits) wait (2 ^ 64 - 1) least);
  most = subst (λ n. n ≤ after now limits.timeout) (sym until) (no_later now wait limits.timeout (2 ^ 64 - 1) most);
}
