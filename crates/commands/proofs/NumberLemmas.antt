-- Numbers that no type holds.
use Rattle.std.proofs.Common.{◌≡◌, ◌<◌, ◌-◌, ℕ, suc, length, take, drop, get_or, Bool, true, false, not, ◌&&◌, ℤ, List, [], ◌∷◌, Some, None, sym, ap, ◌∙◌, if◌then◌else◌, arith, w64}
use Rattle.std.proofs.Math.Seq.{take-length}
use mir.Val.{SFits}
use Rattle.point_types.specs.declared.il_type.IlType.{IlType}
use Rattle.point_types.specs.Name.{is_digit, is_underscore}
use Rattle.commands.specs.Given.{digits, grown, held, if_some}
use Rattle.il_reader.proofs.LexerLemmas.{outside}

pub held_nowhere : (k : IlType) (n : ℤ) → (SFits w64 n → ⊥) → None ≡ held k n
held_nowhere k n f = ap (λ z. if z then Some n else None) (sym (outside k n f))

-- one more digit
pub digits_on : (rest : List ℕ) (k : IlType) (negative wanting : Bool) (n m l : ℤ) → 0 < length rest → is_digit (get_or rest 0 0) ≡ true → held k (grown negative n (get_or rest 0 0)) ≡ Some m → l ≡ m
    → digits k negative false l (take (length rest - 1) (drop 1 rest)) ≡ digits k negative wanting n rest
digits_on [] k negative wanting n m l some d h e = absurd (omega arith)
digits_on (b ∷ bs) k negative wanting n m l some d h e =
    ap (λ z. digits k negative false z (take (length (b ∷ bs) - 1) bs)) e
    ∙ ap (λ z. digits k negative false m (take z bs)) (one_less (length bs))
    ∙ ap (digits k negative false m) (take-length bs)
    ∙ sym (ap (λ o. if_some o (λ z. digits k negative false z bs)) h)
    ∙ sym (ap (λ c. if c then if_some (held k (grown negative n b)) (λ z. digits k negative false z bs) else if is_underscore b && not wanting then digits k negative true n bs else None) d)
  where
    one_less : (a : ℕ) → suc a - 1 ≡ a
    one_less a = omega arith
