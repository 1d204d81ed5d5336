-- What is left out of a round is what devices have.
use Rattle.std.proofs.Common.{◌≡◌, inl, inr, ℕ, ◌-◌, ◌*◌, nat_eq, nat_lt, Bool, true, false, ◌&&◌, List, Option, None, Some, slice_get, eq-eqb, refl, ap, subst, ◌∙◌, if◌then◌else◌, arith}
use Rattle.std.specs.Option.{option_map_or}
use Rattle.modbus_frame.specs.declared.message.Request.{Request}
use Rattle.site_model.specs.declared.device.SiteDevice.{SiteDevice}
use Rattle.site_model.specs.Readings.{known_at}
use Rattle.gateway.specs.declared.poller.cycle.Call.{Call}
use Rattle.service_parts.specs.declared.asked.Aim.{Aim}
use Rattle.service_parts.specs.declared.asked.Aim.TheVariants as aim
use Rattle.service.specs.declared.round.Turn.TheVariants as turn
use Rattle.service.specs.declared.held_back.LeftOut.{LeftOut}
use Rattle.service.specs.declared.held_back.LeftOut.TheVariants as why
use Rattle.service.specs.declared.held_writes.HeldWrite.{HeldWrite}
use Rattle.service.specs.declared.held_writes.HeldWrites.{HeldWrites}
use Rattle.service.specs.declared.wish.Wish.{Wish}
use Rattle.service.specs.LeftOut as left
use Rattle.service.specs.Having.{Has}
use Rattle.service.specs.LeftOut.{GivesDue, GivesNext, IsNext, LeavesOut, NothingIsLeftOutWithoutRewrite, left_by, left_in}
use Rattle.service.specs.Pairing.{IsHadIf, IsPaired, is_had_if}
use Rattle.service.specs.Rewriting.{is_held, is_recent, is_same}
use Rattle.service.specs.Stages.{Ends, OpensNext, Stage}
use Rattle.service.proofs.Pairing.{had_if}

-- ---- what comes next

pub is_next : (device : ℕ) (s t : Stage) (made_for : Aim) (call : Call) → OpensNext device (turn.Ask made_for call) s t → IsNext device made_for call.request s t
is_next device s t made_for call opens = record { call = call; opens = opens; own = refl }

-- ---- what is left out

pub left_nothing : (device : ℕ) (left_so : Stage → Aim → Request → Option LeftOut) (s : Stage) → LeavesOut device left_so s s
left_nothing device by s = left.leaves_none

module _ (device : ℕ) (left_so : Stage → Aim → Request → Option LeftOut) (old s t : Stage) where
  pub none_due : LeavesOut device left_so old s → GivesNext device None s t → GivesDue device left_so None old t
  none_due leaves next = record { middle = s; leaves = leaves; next = inl next }

  pub none_left : LeavesOut device left_so old s → GivesDue device left_so None old s
  none_left leaves = record { middle = s; leaves = leaves; next = inr (refl, refl) }

  pub one_due : (wish : Wish) → LeavesOut device left_so old s → GivesNext device (Some wish) s t → GivesDue device left_so (Some wish) old t
  one_due wish leaves next = record { middle = s; leaves = leaves; next = inl next }

pub left_one : (device number : ℕ) (first held : HeldWrites) (start now : ℕ) (old s t u : Stage) (wish : Wish) (cause : LeftOut) → LeavesOut device (left_by first device number start) old s → IsNext device wish.aim wish.request s t
    → held ≡ first → now ≡ start → left_by held device number now t wish.aim wish.request ≡ Some cause → Ends device t u → LeavesOut device (left_by first device number start) old u
left_one device number first held start now old s t u wish cause before next same_held same_time own ends =
    let P : HeldWrites → Type 0 = λ x. left_by x device number now t wish.aim wish.request ≡ Some cause in
    let Q : ℕ → Type 0 = λ x. left_by first device number x t wish.aim wish.request ≡ Some cause in
    left.leaves_more before wish.aim wish.request cause t next (subst Q same_time (subst P same_held own)) u ends

-- ---- what goes with nothing, or with what is had

-- what isn't left out is paired
pub paired_next : (held : HeldWrites) (device number within now : ℕ) (made_for : Aim) (asked : Request) → left_in held.companions.items held.writes.items device number within now made_for asked ≡ None → IsPaired held.companions.items (Has held) number made_for
paired_next held device number within now (aim.Output output) asked is = had_if held number (known_at held.companions.items output) (first_of (is_had_if held.writes.items number (known_at held.companions.items output)) (is_held held.writes.items output device asked number within now) output is)
  where
    first_of : (b c : Bool) (which : ℕ) → (if b then (if c then Some (why.Held which) else None) else Some (why.Alone which)) ≡ None → b ≡ true
    first_of true c which is = refl
    first_of false c which is = absurd (cc)
paired_next held device number within now (aim.Block want) asked is = tt
paired_next held device number within now aim.Map asked is = tt

-- ---- without `rewrite`

and_false : (b : Bool) → (b && false) ≡ false
and_false true = refl
and_false false = refl

nothing_below : (n : ℕ) → nat_lt n 0 ≡ false
nothing_below n = grind arith

never_recent : (held : HeldWrite) (number now : ℕ) → is_recent held number 0 now ≡ false
never_recent held number now = ap (λ b. nat_eq held.number number && b) (nothing_below (now - held.at)) ∙ and_false (nat_eq held.number number)

never_held : (own : Option HeldWrite) (device : ℕ) (asked : Request) (number now : ℕ) → option_map_or (λ held. is_same held device asked && is_recent held number 0 now) own false ≡ false
never_held None device asked number now = refl
never_held (Some held) device asked number now = ap (λ b. is_same held device asked && b) (never_recent held number now) ∙ and_false (is_same held device asked)

had_is : (held : HeldWrites) (number : ℕ) (o : Option ℕ) → IsHadIf (Has held) number o → is_had_if held.writes.items number o ≡ true
had_is held number None is = refl
had_is held number (Some output) is = ap (λ (w : Option HeldWrite). option_map_or (λ (h : HeldWrite). nat_eq h.number number) w false) is.has.is ∙ eq-eqb is.write.number number is.over

none_left_out : (held : HeldWrites) (device number now : ℕ) (made_for : Aim) (asked : Request) → IsPaired held.companions.items (Has held) number made_for → left_in held.companions.items held.writes.items device number 0 now made_for asked ≡ None
none_left_out held device number now (aim.Output output) asked paired =
    ap (λ b. if b then (if is_held held.writes.items output device asked number 0 now then Some (why.Held output) else None) else Some (why.Alone output)) (had_is held number (known_at held.companions.items output) paired)
    ∙ ap (λ b. if b then Some (why.Held output) else None) (never_held (known_at held.writes.items output) device asked number now)
none_left_out held device number now (aim.Block want) asked paired = refl
none_left_out held device number now aim.Map asked paired = refl

kept_never : (o : Option SiteDevice) (own : SiteDevice) → o ≡ Some own → own.rewrite ≡ 0 → option_map_or (λ (d : SiteDevice). d.rewrite * 1000) o 0 ≡ 0
kept_never o own is none = ap (λ x. option_map_or (λ (d : SiteDevice). d.rewrite * 1000) x 0) is ∙ ap (λ n. n * 1000) none

pub nothing_is_left_out_without_rewrite : NothingIsLeftOutWithoutRewrite
nothing_is_left_out_without_rewrite held device number now s own made_for request at none paired =
    ap (λ within. left_in held.companions.items held.writes.items device number within now made_for request) (kept_never (slice_get s.core.site.devices device) own at none)
    ∙ none_left_out held device number now made_for request paired
