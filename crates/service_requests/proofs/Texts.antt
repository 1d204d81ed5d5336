-- The text that bytes are, byte by byte.
use Rattle.std.proofs.Common.{arith, ◌≡◌, ℕ, zero, suc, ◌+◌, ◌≤◌, Bool, true, false, List, [], ◌∷◌, ◌++◌, take, drop, length, refl, sym, ap, subst, ◌∙◌, append_assoc, if◌then◌else◌}
use Rattle.std.specs.Prelude.{◌==◌}
use Rattle.service_requests.specs.Identity.{before, text_of}

-- the text of bytes of which so many were seen: what the rest adds comes after all of them
abbrev joined : (text seen rest : List ℕ) → List ℕ
joined text seen [] = text
joined text seen (b ∷ more) = seen ++ b ∷ more

-- These bytes are left of all; the text so far ends there.
pub record IsTextTo (bytes rest : List ℕ) (end seen : ℕ) : Type 0 where
  pub text : text_of bytes ≡ joined (take end bytes) (take seen bytes) (text_of rest)
  pub left : drop seen bytes ≡ rest
  pub within : end ≤ seen
  pub all : seen + length rest ≡ length bytes

plus_one : (n : ℕ) → n + 1 ≡ suc n
plus_one n = omega arith

take_one : (bytes more : List ℕ) (seen byte : ℕ) → drop seen bytes ≡ byte ∷ more → take (suc seen) bytes ≡ take seen bytes ++ byte ∷ []
take_one [] more zero byte is = absurd (cc)
take_one [] more (suc seen) byte is = absurd (cc)
take_one (b ∷ bytes) more zero byte is = cc
take_one (b ∷ bytes) more (suc seen) byte is = ap (λ l. b ∷ l) (take_one bytes more seen byte is)

drop_one : (bytes more : List ℕ) (seen byte : ℕ) → drop seen bytes ≡ byte ∷ more → drop (suc seen) bytes ≡ more
drop_one [] more zero byte is = absurd (cc)
drop_one [] more (suc seen) byte is = absurd (cc)
drop_one (b ∷ bytes) more zero byte is = cc
drop_one (b ∷ bytes) more (suc seen) byte is = drop_one bytes more seen byte is

-- a byte that is no blank is the last of the text so far
no_blank : (text seen rest : List ℕ) (byte : ℕ) → (byte == 32) ≡ false → joined text seen (before byte rest) ≡ joined (seen ++ byte ∷ []) (seen ++ byte ∷ []) rest
no_blank text seen [] byte isnt = ap (λ (b : Bool). joined text seen (if b then [] else byte ∷ [])) isnt
no_blank text seen (c ∷ rest) byte isnt = sym (append_assoc seen (byte ∷ []) (c ∷ rest))

-- a blank is none of it yet
blank : (text seen rest : List ℕ) (byte : ℕ) → (byte == 32) ≡ true → joined text seen (before byte rest) ≡ joined text (seen ++ byte ∷ []) rest
blank text seen [] byte yes_ = ap (λ (b : Bool). joined text seen (if b then [] else byte ∷ [])) yes_
blank text seen (c ∷ rest) byte yes_ = sym (append_assoc seen (byte ∷ []) (c ∷ rest))

-- a byte before more, which isn't zero
text_step : (bytes rest more : List ℕ) (end seen byte : ℕ) → IsTextTo bytes rest end seen → rest ≡ byte ∷ more → (byte == 0) ≡ false → text_of bytes ≡ joined (take end bytes) (take seen bytes) (before byte (text_of more))
text_step bytes rest more end seen byte so_far is none =
    so_far.text ∙ (ap (λ l. joined (take end bytes) (take seen bytes) (text_of l)) is ∙ ap (λ (b : Bool). joined (take end bytes) (take seen bytes) (if b then [] else before byte (text_of more))) none)

module _ (bytes rest more : List ℕ) (end seen byte : ℕ) (so_far : IsTextTo bytes rest end seen) (is : rest ≡ byte ∷ more) (none : (byte == 0) ≡ false) where
  left : drop seen bytes ≡ byte ∷ more
  left = so_far.left ∙ is

  count : suc (length more) ≡ length rest
  count = sym (ap length is)

  pub further : (byte == 32) ≡ false → IsTextTo bytes more (seen + 1) (seen + 1)
  further isnt =
      let seen_more : take (seen + 1) bytes ≡ take seen bytes ++ byte ∷ [] = ap (λ n. take n bytes) (plus_one seen) ∙ take_one bytes more seen byte left in record {
        text = text_step bytes rest more end seen byte so_far is none ∙ (no_blank (take end bytes) (take seen bytes) (text_of more) byte isnt ∙ ap (λ l. joined l l (text_of more)) (sym seen_more));
        left = ap (λ n. drop n bytes) (plus_one seen) ∙ drop_one bytes more seen byte left;
        within = omega arith;
        all = omega (arith, count, so_far.all);
      }

  pub over_blank : (byte == 32) ≡ true → IsTextTo bytes more end (seen + 1)
  over_blank yes_ =
      let seen_more : take (seen + 1) bytes ≡ take seen bytes ++ byte ∷ [] = ap (λ n. take n bytes) (plus_one seen) ∙ take_one bytes more seen byte left in record {
        text = text_step bytes rest more end seen byte so_far is none ∙ (blank (take end bytes) (take seen bytes) (text_of more) byte yes_ ∙ ap (λ l. joined (take end bytes) l (text_of more)) (sym seen_more));
        left = ap (λ n. drop n bytes) (plus_one seen) ∙ drop_one bytes more seen byte left;
        within = omega (arith, so_far.within);
        all = omega (arith, count, so_far.all);
      }

-- nothing is left of the text
pub text_ends : (bytes rest : List ℕ) (end seen : ℕ) → IsTextTo bytes rest end seen → text_of rest ≡ [] → take end bytes ≡ text_of bytes
text_ends bytes rest end seen so_far none = sym (so_far.text ∙ ap (joined (take end bytes) (take seen bytes)) none)

pub text_begins : (bytes : List ℕ) → IsTextTo bytes bytes 0 0
text_begins bytes = record { text = start (text_of bytes); left = refl; within = omega arith; all = omega arith }
  where
    start : (text : List ℕ) → text ≡ joined [] [] text
    start [] = refl
    start (b ∷ more) = refl
