-- What is found from the first of a subject on is what a search of the whole list finds.
use Rattle.std.proofs.Common.{◌≡◌, inl, inr, ℕ, zero, suc, ◌+◌, ◌≤◌, Bool, true, false, List, [], ◌∷◌, drop, length, Option, Some, None, Result, Ok, Err, OnOk, Decides, is_some, refl, sym, ap, subst, arith, rules, if◌then◌else◌}
use Rattle.service_alarms.specs.declared.alarm.Alarm.{Alarm}
use Rattle.service_alarms.specs.declared.alarm.AlarmSubject.{AlarmSubject}
use Rattle.service_alarms.specs.declared.standing.StandingAlarm.{StandingAlarm}
use Rattle.service_alarms.specs.Changing.{subject_of, Stood, AreOf, AreBegun, AreOver, IsChange, IsSince}
use Rattle.service_alarms.specs.Finding.{same, stood_for, place_from, from_first}

-- ---- two subjects

same_tells : (y x : AlarmSubject) → Decides (same y x) (y ≡ x)
same_tells y x = search rules

apart : (y x : AlarmSubject) → same y x ≡ false → y ≡ x → ⊥
apart y x e one = let t : same y x ≡ true = (same_tells y x).1 one in cc

-- ---- the place of the first one

placed : (ss : List StandingAlarm) (n i : ℕ) (x : AlarmSubject) → place_from stood_for ss n x ≡ Some i → (k : ℕ) × (i ≡ n + k) × (k ≤ length ss) × (drop k ss ≡ from_first ss x)
placed [] n i x e = absurd (cc)
placed (s ∷ ss) n i x e = go (λ f. placed ss (n + 1) i x f) (same (stood_for s) x) e
  where
    go : (place_from stood_for ss (n + 1) x ≡ Some i → (k : ℕ) × (i ≡ n + 1 + k) × (k ≤ length ss) × (drop k ss ≡ from_first ss x)) → (b : Bool) → (if b then Some n else place_from stood_for ss (n + 1) x) ≡ Some i
        → (k : ℕ) × (i ≡ n + k) × (k ≤ suc (length ss)) × (drop k (s ∷ ss) ≡ (if b then s ∷ ss else from_first ss x))
    go on true f = let same_place : n ≡ i = cc in (zero, omega (arith, same_place), omega arith, refl)
    go on false f = let h = on f in (suc h.0, omega (arith, h.1), omega (arith, h.2), h.3)

pub first_place : (ss : List StandingAlarm) (i : ℕ) (x : AlarmSubject) → place_from stood_for ss 0 x ≡ Some i → (i ≤ length ss) × (drop i ss ≡ from_first ss x)
first_place ss i x e =
    let h = placed ss 0 i x e in
    let same_place : h.0 ≡ i = omega (arith, h.1) in
    (omega (arith, h.1, h.2), subst (λ (k : ℕ). drop k ss ≡ from_first ss x) same_place h.3)

pub no_place : (ss : List StandingAlarm) (n : ℕ) (x : AlarmSubject) → place_from stood_for ss n x ≡ None → from_first ss x ≡ []
no_place [] n x e = refl
no_place (s ∷ ss) n x e = go (λ f. no_place ss (n + 1) x f) (same (stood_for s) x) e
  where
    go : (place_from stood_for ss (n + 1) x ≡ None → from_first ss x ≡ []) → (b : Bool) → (if b then Some n else place_from stood_for ss (n + 1) x) ≡ None → (if b then s ∷ ss else from_first ss x) ≡ []
    go on true f = cc
    go on false f = on f

-- ---- what a search from there finds

since_from : (ss : List StandingAlarm) (now : ℕ) (x : AlarmSubject) (since : ℕ) → IsSince (from_first ss x) now x since → IsSince ss now x since
since_from [] now x since h = h
since_from (s ∷ ss) now x since h = go (λ f. since_from ss now x since f) (same (stood_for s) x) refl h
  where
    go : (IsSince (from_first ss x) now x since → IsSince ss now x since) → (b : Bool) → same (stood_for s) x ≡ b → IsSince (if b then s ∷ ss else from_first ss x) now x since → IsSince (s ∷ ss) now x since
    go on true e f = f
    go on false e f = inr (apart (stood_for s) x e, on f)

pub since_found : (ss found : List StandingAlarm) (now : ℕ) (x : AlarmSubject) (since : ℕ) → found ≡ from_first ss x → IsSince found now x since → IsSince ss now x since
since_found ss found now x since e h = since_from ss now x since (subst (λ (those : List StandingAlarm). IsSince those now x since) e h)

stood_from : (ss : List StandingAlarm) (a : Alarm) → Stood ss a → Stood (from_first ss (subject_of a)) a
stood_from [] a h = h
stood_from (s ∷ ss) a h = go (λ f. stood_from ss a f) (same (stood_for s) (subject_of a)) refl h
  where
    go : (Stood ss a → Stood (from_first ss (subject_of a)) a) → (b : Bool) → same (stood_for s) (subject_of a) ≡ b → Stood (s ∷ ss) a → Stood (if b then s ∷ ss else from_first ss (subject_of a)) a
    go on true e f = f
    go on false e (inl one) = absurd (apart (stood_for s) (subject_of a) e (ap subject_of one))
    go on false e (inr more) = on more

from_stood : (ss : List StandingAlarm) (x : AlarmSubject) (a : Alarm) → Stood (from_first ss x) a → Stood ss a
from_stood [] x a h = h
from_stood (s ∷ ss) x a h = go (λ f. from_stood ss x a f) (same (stood_for s) x) h
  where
    go : (Stood (from_first ss x) a → Stood ss a) → (b : Bool) → Stood (if b then s ∷ ss else from_first ss x) a → Stood (s ∷ ss) a
    go on true f = f
    go on false f = inr (on f)

pub stood_found : (ss found : List StandingAlarm) (a : Alarm) (r : Bool) → found ≡ from_first ss (subject_of a) → Decides r (Stood found a) → Decides r (Stood ss a)
stood_found ss found a r e h =
    let there : Decides r (Stood (from_first ss (subject_of a)) a) = subst (λ (those : List StandingAlarm). Decides r (Stood those a)) e h in
    (λ f. from_stood ss (subject_of a) a (there.0 f), λ f. there.1 (stood_from ss a f))

-- ---- whether there is one

one_placed : (alarms : List Alarm) (n i : ℕ) (x : AlarmSubject) → place_from subject_of alarms n x ≡ Some i → AreOf alarms x
one_placed [] n i x e = absurd (cc)
one_placed (a ∷ more) n i x e = go (λ f. one_placed more (n + 1) i x f) (same (subject_of a) x) refl e
  where
    go : (place_from subject_of more (n + 1) x ≡ Some i → AreOf more x) → (b : Bool) → same (subject_of a) x ≡ b → (if b then Some n else place_from subject_of more (n + 1) x) ≡ Some i → AreOf (a ∷ more) x
    go on true e f = inl ((same_tells (subject_of a) x).0 e)
    go on false e f = inr (on f)

none_placed : (alarms : List Alarm) (n : ℕ) (x : AlarmSubject) → place_from subject_of alarms n x ≡ None → AreOf alarms x → ⊥
none_placed [] n x e h = h
none_placed (a ∷ more) n x e h = go (λ f. none_placed more (n + 1) x f) (same (subject_of a) x) refl e h
  where
    go : (place_from subject_of more (n + 1) x ≡ None → AreOf more x → ⊥) → (b : Bool) → same (subject_of a) x ≡ b → (if b then Some n else place_from subject_of more (n + 1) x) ≡ None → AreOf (a ∷ more) x → ⊥
    go on true e f h = cc
    go on false e f (inl one) = apart (subject_of a) x e one
    go on false e f (inr others) = on f others

pub of_found : (alarms : List Alarm) (x : AlarmSubject) (o : Option ℕ) → o ≡ place_from subject_of alarms 0 x → Decides (is_some o) (AreOf alarms x)
of_found alarms x (Some i) e = (λ _. one_placed alarms 0 i x (sym e), λ _. refl)
of_found alarms x None e = (λ f. absurd (cc), λ h. absurd (none_placed alarms 0 x (sym e) h))

-- ---- what changed

pub change_seen : {T E : Type 0} (r : Result T E) (stood : List StandingAlarm) (alarms begun over : List Alarm) → AreBegun stood alarms (length alarms) begun → OnOk r (AreOver stood alarms (length stood) over) → OnOk r (IsChange stood alarms begun over)
change_seen (Ok v) stood alarms begun over b o = record { are_begun = b; are_over = o }
change_seen (Err x) stood alarms begun over b o = o
