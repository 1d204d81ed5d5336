-- What devices say of themselves.
use Rattle.std.proofs.Common.{arith, ◌≡◌, ◌≢◌, ◌⊎◌, inl, inr, ℕ, zero, suc, ◌+◌, ◌<◌, ◌≤◌, Bool, true, false, ◌&&◌, List, [], ◌∷◌, length, Option, None, Some, refl, sym, ap, subst, ◌∙◌, IsTrue, if◌then◌else◌}
use Rattle.std.specs.Prelude.{nat_eq, replicate, set, slice_set, slice_get}
use Rattle.std.specs.Option.{option_map_or}
use Rattle.modbus_frame.specs.declared.message.Request.{Request}
use Rattle.modbus_frame.specs.declared.message.Request.TheVariants as request
use Rattle.std.proofs.lemmas.Bool.{eqb-true}
use Rattle.site_model.specs.Readings.{known_at}
use Rattle.gateway.specs.declared.poller.outcome.Outcome.{Outcome}
use Rattle.service_requests.specs.declared.identity.Identity.{Identity}
use Rattle.service_requests.specs.declared.request_end.RequestEnd.{RequestEnd}
use Rattle.service_requests.specs.Identity.{is_said_by}
use Rattle.service_parts.specs.declared.asked.Asked.{Asked}
use Rattle.service_parts.specs.declared.connections.Connections.{Connections}
use Rattle.service_parts.specs.Requests.{IsFoundOn, MayBeAsked}
use Rattle.service.specs.declared.identities.Identities.{Identities}
use Rattle.service.specs.declared.identities.Said.{Said}
use Rattle.service.specs.Identity.{AreRight, IsIdentified, IsKept, IsSaidBy, IsSaidIf, IsWithin, IsWriteRequest, SaysMoreBy, WritesGoToTheRightDevice, found_of, had_said, is_right, is_said, said_in, said_of, says, wanted_of}

-- ---- one entry changes

module _ {X : Type 0} where
  known_in : (xs : List (Option X)) (i : ℕ) (entry : Option X) (k : ℕ) (x : X) → known_at (slice_set xs i entry) k ≡ Some x → ((k ≡ i) × (entry ≡ Some x)) ⊎ (known_at xs k ≡ Some x)
  known_in [] i entry k x is = inr is
  known_in (y ∷ xs) zero entry zero x is = inl (refl, is)
  known_in (y ∷ xs) zero entry (suc k) x is = inr is
  known_in (y ∷ xs) (suc i) entry zero x is = inr is
  known_in (y ∷ xs) (suc i) entry (suc k) x is = go (known_in xs i entry k x is)
    where
      go : ((k ≡ i) × (entry ≡ Some x)) ⊎ (known_at xs k ≡ Some x) → ((suc k ≡ suc i) × (entry ≡ Some x)) ⊎ (known_at xs k ≡ Some x)
      go (inl here) = inl (ap suc here.0, here.1)
      go (inr away) = inr away

  known_set : (xs : List (Option X)) (i : ℕ) (entry : Option X) → i < length xs → known_at (slice_set xs i entry) i ≡ entry
  known_set [] i entry within = absurd (omega (arith, within))
  known_set (y ∷ xs) zero entry within = refl
  known_set (y ∷ xs) (suc i) entry within = known_set xs i entry (omega (arith, within))

  other_known : (xs : List (Option X)) (i : ℕ) (entry : Option X) (k : ℕ) → k ≢ i → known_at (slice_set xs i entry) k ≡ known_at xs k
  other_known [] i entry k away = refl
  other_known (y ∷ xs) zero entry zero away = absurd (away refl)
  other_known (y ∷ xs) zero entry (suc k) away = refl
  other_known (y ∷ xs) (suc i) entry zero away = refl
  other_known (y ∷ xs) (suc i) entry (suc k) away = other_known xs i entry k (λ same. away (ap suc same))

  -- what is known stands within
  within_known : (xs : List (Option X)) (i : ℕ) (x : X) → known_at xs i ≡ Some x → i < length xs
  within_known [] i x is = absurd (cc)
  within_known (y ∷ xs) zero x is = omega arith
  within_known (y ∷ xs) (suc i) x is = omega (arith, within_known xs i x is)

-- ---- what is known of a device

same_last : (old new : Identities) → new.last ≡ old.last → (device : ℕ) → said_of old device ≡ said_of new device
same_last old new same device = cc

same_found : (old new : Identities) → new.found ≡ old.found → (device : ℕ) → found_of old device ≡ found_of new device
same_found old new same device = cc

same_wanted : (old new : Identities) → new.wanted ≡ old.wanted → (device : ℕ) → wanted_of old device ≡ wanted_of new device
same_wanted old new same device = cc

-- ---- nothing more is said

pub within_own : (ids : Identities) → IsWithin ids ids
within_own ids = record { wanted = refl; each = λ device said is. is }

pub within_same : (old new first : Identities) → new ≡ old → IsWithin first old → IsWithin first new
within_same old new first same within = subst (λ ids. IsWithin first ids) (sym same) within

within_each : (old new first : Identities) → new.wanted ≡ old.wanted → ((device : ℕ) (said : Said) → IsKept new device said → IsKept old device said) → IsWithin first old → IsWithin first new
within_each old new first wanted each within = record { wanted = wanted ∙ within.wanted; each = λ device said is. within.each device said (each device said is) }

-- a device says nothing now
pub unsaid_within : (which : ℕ) (old new first : Identities) → new.wanted ≡ old.wanted → new.found ≡ old.found → new.last.items ≡ slice_set old.last.items which None → IsWithin first old → IsWithin first new
unsaid_within which old new first wanted found last within = within_each old new first wanted each within
  where
    by_last : (device : ℕ) (own : Said) → ((device ≡ which) × (None ≡ Some own)) ⊎ (said_of old device ≡ Some own) → IsKept old device own
    by_last device own (inl here) = absurd (none here.1)
      where
        none : None ≡ Some own → ⊥
        none e = cc
    by_last device own (inr is) = inl is

    each : (device : ℕ) (own : Said) → IsKept new device own → IsKept old device own
    each device own (inl is) = by_last device own (known_in old.last.items which None device own (ap (λ (xs : List (Option Said)). known_at xs device) (sym last) ∙ is))
    each device own (inr is) = inr (same_found old new found device ∙ is)

-- what was said last stands now for what was said before the map was found
pub found_within : (which : ℕ) (old new first : Identities) → new.wanted ≡ old.wanted → new.last ≡ old.last → new.found.items ≡ slice_set old.found.items which (said_of old which) → IsWithin first old → IsWithin first new
found_within which old new first wanted last found within = within_each old new first wanted each within
  where
    by_found : (device : ℕ) (own : Said) → ((device ≡ which) × (said_of old which ≡ Some own)) ⊎ (found_of old device ≡ Some own) → IsKept old device own
    by_found device own (inl here) = inl (ap (said_of old) here.0 ∙ here.1)
    by_found device own (inr is) = inr is

    each : (device : ℕ) (own : Said) → IsKept new device own → IsKept old device own
    each device own (inl is) = inl (same_last old new last device ∙ is)
    each device own (inr is) = by_found device own (known_in old.found.items which (said_of old which) device own (ap (λ (xs : List (Option Said)). known_at xs device) (sym found) ∙ is))

pub found_within_if : (b : Bool) (which : ℕ) (old new first : Identities) → new.wanted ≡ old.wanted → new.last ≡ old.last → new.found.items ≡ (if b then slice_set old.found.items which (said_of old which) else old.found.items) → IsWithin first old → IsWithin first new
found_within_if true which old new first wanted last found within = found_within which old new first wanted last found within
found_within_if false which old new first wanted last found within = within_each old new first wanted each within
  where
    each : (device : ℕ) (own : Said) → IsKept new device own → IsKept old device own
    each device own (inl is) = inl (same_last old new last device ∙ is)
    each device own (inr is) = inr (ap (λ (xs : List (Option Said)). known_at xs device) (sym found) ∙ is)

-- ---- what is said by an answer

pub says_own : (Says : ℕ → Said → Type 0) (ids : Identities) → SaysMoreBy Says ids ids
says_own Says ids = record { wanted = refl; each = λ device said is. inl is }

pub says_same : (Says : ℕ → Said → Type 0) (old new : Identities) → new ≡ old → SaysMoreBy Says old new
says_same Says old new same = subst (λ ids. SaysMoreBy Says old ids) (sym same) (says_own Says old)

pub says_more : (o : Outcome) (asked : Asked) (old new : Identities) → new.wanted ≡ old.wanted → new.found ≡ old.found → new.last.items ≡ slice_set old.last.items asked.device (said_in o asked) → SaysMoreBy (IsSaidBy o asked) old new
says_more o asked old new wanted found last = record { wanted = wanted; each = each }
  where
    by_last : (device : ℕ) (own : Said) → ((device ≡ asked.device) × (said_in o asked ≡ Some own)) ⊎ (said_of old device ≡ Some own) → IsKept old device own ⊎ IsSaidBy o asked device own
    by_last device own (inl now) = inr now
    by_last device own (inr is) = inl (inl is)

    each : (device : ℕ) (own : Said) → IsKept new device own → IsKept old device own ⊎ IsSaidBy o asked device own
    each device own (inl is) = by_last device own (known_in old.last.items asked.device (said_in o asked) device own (ap (λ (xs : List (Option Said)). known_at xs device) (sym last) ∙ is))
    each device own (inr is) = inl (inr (same_found old new found device ∙ is))

module _ (Says : ℕ → Said → Type 0) where
  pub says_within : (old middle new : Identities) → SaysMoreBy Says old middle → IsWithin middle new → SaysMoreBy Says old new
  says_within old middle new says_ within = record { wanted = within.wanted ∙ says_.wanted; each = λ device said is. says_.each device said (within.each device said is) }

  pub says_after : (first old new : Identities) → IsWithin first old → SaysMoreBy Says old new → SaysMoreBy Says first new
  says_after first old new within says_ = record { wanted = says_.wanted ∙ within.wanted; each = λ device said is. go device said (says_.each device said is) }
    where
      go : (device : ℕ) (said : Said) → IsKept old device said ⊎ Says device said → IsKept first device said ⊎ Says device said
      go device said (inl before) = inl (within.each device said before)
      go device said (inr now) = inr now

  pub says_then_within : (old new : Identities) → IsWithin old new → SaysMoreBy Says old new
  says_then_within old new within = record { wanted = within.wanted; each = λ device said is. inl (within.each device said is) }

unasked_none : (asked : Option Asked) (f : Option RequestEnd) (device : ℕ) (said : Said) → asked ≡ None → IsSaidIf asked f device said → ⊥
unasked_none None f device said none is = is
unasked_none (Some a) f device said none is = absurd (cc)

-- where no request is under way
pub unasked_within : (asked : Option Asked) (f : Option RequestEnd) (old new first : Identities) → asked ≡ None → SaysMoreBy (IsSaidIf asked f) old new → IsWithin first old → IsWithin first new
unasked_within asked f old new first none says_ within = within_each old new first says_.wanted (λ device said is. go device said (says_.each device said is)) within
  where
    go : (device : ℕ) (said : Said) → IsKept old device said ⊎ IsSaidIf asked f device said → IsKept old device said
    go device said (inl before) = before
    go device said (inr is) = absurd (unasked_none asked f device said none is)

-- ---- each device is the right one

pub found_same : (old new : Connections) → new.found_on ≡ old.found_on → new.found_on.items ≡ old.found_on.items
found_same old new same = cc

pub right_same : (old new : Identities) (before now : List (Option ℕ)) → new ≡ old → now ≡ before → AreRight old before → AreRight new now
right_same old new before now same noted right = subst (λ ids. AreRight ids now) (sym same) (subst (λ f. AreRight old f) (sym noted) right)

pub right_kept : (old new : Identities) (before now : List (Option ℕ)) → new.wanted ≡ old.wanted → new.found ≡ old.found → now ≡ before → AreRight old before → AreRight new now
right_kept old new before now wanted found noted right device number on identity wants =
    ap (λ o. option_map_or (is_said identity number) o false) (sym (same_found old new found device)) ∙ right device number (ap (λ (f : List (Option ℕ)). slice_get f device) (sym noted) ∙ on) identity (same_wanted old new wanted device ∙ wants)

right_by : (ids : Identities) (device number : ℕ) (identity : Identity) (wanted : Option Identity) → wanted ≡ Some identity → option_map_or (says ids device number) wanted true ≡ true → says ids device number identity ≡ true
right_by ids device number identity None is right = absurd (cc)
right_by ids device number identity (Some own) is right = ap (says ids device number) (own_is is) ∙ right
  where
    own_is : Some own ≡ Some identity → identity ≡ own
    own_is e = cc

said_right : (identity : Identity) (number : ℕ) (o : Option Said) → option_map_or (is_said identity number) o false ≡ true → (said : Said) × (o ≡ Some said) × (is_said identity number said ≡ true)
said_right identity number None right = absurd (cc)
said_right identity number (Some said) right = (said, refl, right)

on_set : (xs : List (Option ℕ)) (i number k n : ℕ) → slice_get (set xs i (Some number)) k ≡ Some (Some n) → ((k ≡ i) × (number ≡ n)) ⊎ ((k ≢ i) × (slice_get xs k ≡ Some (Some n)))
on_set [] i number k n is = absurd (cc)
on_set (y ∷ xs) zero number zero n is = inl (refl, numbers is)
  where
    numbers : Some (Some number) ≡ Some (Some n) → number ≡ n
    numbers e = cc
on_set (y ∷ xs) zero number (suc k) n is = inr ((λ e. absurd (cc)), is)
on_set (y ∷ xs) (suc i) number zero n is = inr ((λ e. absurd (cc)), is)
on_set (y ∷ xs) (suc i) number (suc k) n is = go (on_set xs i number k n is)
  where
    go : ((k ≡ i) × (number ≡ n)) ⊎ ((k ≢ i) × (slice_get xs k ≡ Some (Some n))) → ((suc k ≡ suc i) × (number ≡ n)) ⊎ ((suc k ≢ suc i) × (slice_get xs k ≡ Some (Some n)))
    go (inl here) = inl (ap suc here.0, here.1)
    go (inr away) = inr ((λ e. away.0 cc), away.1)

-- where no map was found yet
pub right_none : (ids : Identities) (found_on : List (Option ℕ)) (devices : ℕ) → found_on ≡ replicate devices None → AreRight ids found_on
right_none ids found_on devices none device number on identity wants = absurd (nowhere devices device (ap (λ (f : List (Option ℕ)). slice_get f device) (sym none) ∙ on))
  where
    nowhere : (n k : ℕ) → slice_get (replicate n None) k ≡ Some (Some number) → ⊥
    nowhere zero k is = absurd (cc)
    nowhere (suc n) zero is = absurd (cc)
    nowhere (suc n) (suc k) is = nowhere n k is

-- what is noted of lines stays
pub right_noted : (ids : Identities) (old new : Connections) → new.found_on ≡ old.found_on → AreRight ids old.found_on.items → AreRight ids new.found_on.items
right_noted ids old new same right = right_same ids ids old.found_on.items new.found_on.items refl (found_same old new same) right

-- what is kept of what was said stays
pub right_held : (old new : Identities) (found_on : List (Option ℕ)) → new ≡ old → AreRight old found_on → AreRight new found_on
right_held old new found_on same right = right_same old new found_on found_on same refl right

pub right_heard : (old new : Identities) (found_on : List (Option ℕ)) → new.wanted ≡ old.wanted → new.found ≡ old.found → AreRight old found_on → AreRight new found_on
right_heard old new found_on wanted found right = right_kept old new found_on found_on wanted found refl right

-- the map of a device is found that is the right one
pub right_found : (old new : Identities) (before now : List (Option ℕ)) (device number : ℕ) → AreRight old before → is_right old device number ≡ true → new.wanted ≡ old.wanted → length old.found.items ≡ length old.last.items
    → new.found.items ≡ slice_set old.found.items device (said_of old device) → now ≡ set before device (Some number) → AreRight new now
right_found old new before now device number right is wanted sized found noted k n on identity wants = go (on_set before device number k n (ap (λ (f : List (Option ℕ)). slice_get f k) (sym noted) ∙ on))
  where
    before_wants : wanted_of old k ≡ Some identity
    before_wants = same_wanted old new wanted k ∙ wants

    kept : (i : ℕ) → found_of new i ≡ known_at (slice_set old.found.items device (said_of old device)) i
    kept i = ap (λ (xs : List (Option Said)). known_at xs i) found

    go : ((k ≡ device) × (number ≡ n)) ⊎ ((k ≢ device) × (slice_get before k ≡ Some (Some n))) → had_said new k n identity ≡ true
    go (inl here) =
        let own_wants : wanted_of old device ≡ Some identity = ap (wanted_of old) (sym here.0) ∙ before_wants in
        let so : says old device number identity ≡ true = right_by old device number identity (wanted_of old device) own_wants is in
        let own = said_right identity number (said_of old device) so in
        let within = within_known old.last.items device own.0 own.1 in
        let same : found_of new k ≡ said_of old device = ap (found_of new) here.0 ∙ (kept device ∙ known_set old.found.items device (said_of old device) (omega (arith, within, sized))) in
        ap (λ o. option_map_or (is_said identity n) o false) same ∙ (ap (λ m. option_map_or (is_said identity m) (said_of old device) false) (sym here.1) ∙ so)
    go (inr away) = ap (λ o. option_map_or (is_said identity n) o false) (kept k ∙ other_known old.found.items device (said_of old device) k away.0) ∙ right k n away.1 identity before_wants

pub right_found_if : (b : Bool) (old new : Identities) (before now : List (Option ℕ)) (device number : ℕ) → AreRight old before → is_right old device number ≡ true → new.wanted ≡ old.wanted → length old.found.items ≡ length old.last.items
    → new.found.items ≡ (if b then slice_set old.found.items device (said_of old device) else old.found.items) → (IsTrue b → now ≡ set before device (Some number)) → (b ≡ false → now ≡ before) → AreRight new now
right_found_if true old new before now device number right is wanted sized found noted none k n on identity wants = right_found old new before now device number right is wanted sized found (noted refl) k n on identity wants
right_found_if false old new before now device number right is wanted sized found noted none k n on identity wants =
    ap (λ o. option_map_or (is_said identity n) o false) (ap (λ (xs : List (Option Said)). known_at xs k) found) ∙ right k n (ap (λ (f : List (Option ℕ)). slice_get f k) (sym (none refl)) ∙ on) identity (same_wanted old new wanted k ∙ wants)

-- ---- what is written

both : (a b : Bool) → a && b ≡ true → (a ≡ true) × (b ≡ true)
both true b is = (refl, is)
both false b is = absurd (cc)

same_number : (a b : ℕ) → nat_eq a b ≡ true → a ≡ b
same_number a b is = eqb-true a b is

pub identified : (ids : Identities) (found_on : List (Option ℕ)) (device number : ℕ) → AreRight ids found_on → IsFoundOn found_on number device → IsIdentified ids device number
identified ids found_on device number right on identity wants =
    let own = said_right identity number (found_of ids device) (right device number on identity wants) in
    let so = both (nat_eq own.0.number number) (is_said_by identity own.0.words) own.2 in
    (own.0, inr own.1, same_number own.0.number number so.0, so.1)

no_write : (asked : Request) (address count : ℕ) → asked ≡ request.Read address count → IsWriteRequest asked → ⊥
no_write asked address count is writes = subst IsWriteRequest is writes

pub writes_go_right : WritesGoToTheRightDevice
writes_go_right core stations found_on ids link number made_for device frame right made writes = go made.asked
  where
    go : MayBeAsked made.core found_on number made_for device frame.request → IsIdentified ids device number
    go (inl round) = identified ids found_on device number right round.1
    go (inr search) =
        let next = search.1.comes in
        absurd (no_write frame.request next.0 next.1 next.2 writes)
