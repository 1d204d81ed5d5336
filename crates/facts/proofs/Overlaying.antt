-- One more span over those at entry.
use Rattle.std.proofs.Common.{◌≡◌, ℕ, zero, suc, Bool, true, false, arith, if◌then◌else◌, List, [], ◌∷◌, ◌++◌, length, replicate, Option, Some, None, refl, ap}
use Rattle.facts.specs.Span.{Span, Empty, Between, same_span}
use Rattle.point_types.specs.Value.{int_eq}
use Rattle.facts.proofs.Comparing.{and_left, and_right, both_true, eq_in, eq_out}
use Rattle.facts.specs.Overlay.{after_first, at_entry, change, overlaid, shown, AreChanges, IsChange}

after_get : (spans : List Span) (n : ℕ) → at_entry (after_first spans) n ≡ at_entry spans (suc n)
after_get [] n = refl
after_get (s ∷ spans) n = refl

pub overlaid_next : (spans : List Span) (ks : List (Option Span)) (k : Option Span) → overlaid spans (ks ++ k ∷ []) ≡ overlaid spans ks ++ shown (at_entry spans (length ks)) k ∷ []
overlaid_next spans [] k = refl
overlaid_next spans (j ∷ ks) k = rw (← after_get spans (length ks)) (ap (λ rest. shown (at_entry spans 0) j ∷ rest) (overlaid_next (after_first spans) ks k))

pub changes_next : (spans : List Span) (ks : List (Option Span)) (k : Option Span) → AreChanges spans ks → IsChange (at_entry spans (length ks)) k → AreChanges spans (ks ++ k ∷ [])
changes_next spans [] k all one = (one, tt)
changes_next spans (j ∷ ks) k all one = (all.0, changes_next (after_first spans) ks k all.1 (rw (after_get spans (length ks)) one))

pub overlaid_none : (spans : List Span) → overlaid spans (replicate (length spans) None) ≡ spans
overlaid_none [] = refl
overlaid_none (s ∷ spans) = ap (λ rest. s ∷ rest) (overlaid_none spans)

pub none_changes : (spans : List Span) (n : ℕ) → AreChanges spans (replicate n None)
none_changes spans zero = tt
none_changes spans (suc n) = (tt, none_changes (after_first spans) n)

same_self : (s : Span) → same_span s s ≡ true
same_self Empty = refl
same_self (Between a b) = both_true (int_eq a a) (int_eq b b) (eq_in a a refl) (eq_in b b refl)

-- spans that the test finds the same are
same_out : (s t : Span) → same_span s t ≡ true → s ≡ t
same_out Empty Empty h = refl
same_out Empty (Between c d) h = grind arith
same_out (Between a b) Empty h = grind arith
same_out (Between a b) (Between c d) h = rw (eq_out a c (and_left (int_eq a c) (int_eq b d) h), eq_out b d (and_right (int_eq a c) (int_eq b d) h)) refl

tested_change : (e s : Span) (same : Bool) → (e ≡ s → same ≡ true) → IsChange e (if same then None else Some s)
tested_change e s true h = tt
tested_change e s false h = λ equal. let no = h equal in grind arith

tested_shown : (e s : Span) (same : Bool) → (same ≡ true → e ≡ s) → shown e (if same then None else Some s) ≡ s
tested_shown e s true h = h refl
tested_shown e s false h = refl

pub is_change : (e s : Span) → IsChange e (change e s)
is_change e s = tested_change e s (same_span e s) (λ equal. rw equal (same_self s))

pub shown_change : (e s : Span) → shown e (change e s) ≡ s
shown_change e s = tested_shown e s (same_span e s) (same_out e s)
