-- What is told is told of the one family.
use Rattle.std.proofs.Common.{◌≡◌, ◌≢◌, ◌∙◌, ℕ, suc, ◌+◌, ◌<◌, ◌++◌, ◌∷◌, [], List, inl, inr, length, map, Option, None, ap, arith, subst, sym}
use Rattle.facts.specs.declared.refusal.Refusal.{Refusal}
use Rattle.facts.specs.declared.refusal.RefusedAt.{RefusedAt}
use Rattle.facts.specs.declared.refusal.RefusalKind.TheVariants.{OutOfMemory}
use Rattle.facts.specs.Word.{number_of}
use Rattle.facts.specs.Flow.{Context}
use Rattle.facts.specs.Slots.{slots}
use Rattle.verifier.specs.Gathered.{IsRefusedAt, NoneRefuses, slot_before}
use Rattle.verifier.specs.Known.{IsEarlierRefusal, IsKnownAt, all_told, judged_count}
use Rattle.verifier.specs.Told.{standing_of}
use Rattle.verifier.specs.Verdict.{refusal_of}
use Rattle.verifier.specs.declared.told.Standing.{Standing}
use Rattle.verifier.proofs.Arriving.{slots_have}
use Rattle.verifier.proofs.Passing.{mapped_next}

module _ (c : Context) where
  pub known_there : (n : ℕ) → n < length c.listing → IsKnownAt c n (slot_before c n)
  known_there n h = slots_have c [] (length c.listing) n h

  pub earlier : (n m : ℕ) (r : Refusal) → n < m → IsRefusedAt c n r → IsEarlierRefusal c m r
  earlier n m r h (inl first) = inl (n, h, first.0, first.1)
  earlier n m r h (inr none) = inr none

  abbrev told_to : ℕ → List Standing
  told_to n = map (standing_of c) (slots c n)

  pub told_next : (n : ℕ) → told_to n ++ standing_of c (slot_before c n) ∷ [] ≡ told_to (n + 1)
  told_next n = let next : suc n ≡ n + 1 = omega arith in sym (mapped_next c (standing_of c) n) ∙ ap told_to next

  pub told_last : (n : ℕ) → n ≡ length c.listing → NoneRefuses c n → told_to n ≡ all_told c
  told_last n e h =
      let none : refusal_of c ≡ None = subst (λ (k : ℕ). NoneRefuses c k) e h in
      ap told_to e ∙ ap (λ (o : Option Refusal). told_to (judged_count (length c.listing) o)) (sym none)

  pub told_first : (n : ℕ) (r : Refusal) → r.kind ≢ OutOfMemory → IsRefusedAt c n r → told_to (n + 1) ≡ all_told c
  told_first n r k (inl first) = ap (λ (at : RefusedAt). told_to (number_of at + 1)) (sym first.1) ∙ ap (λ (o : Option Refusal). told_to (judged_count (length c.listing) o)) (sym first.0)
  told_first n r k (inr none) = absurd (k (ap (λ (x : Refusal). x.kind) none))
