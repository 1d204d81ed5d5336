-- Numbers: digits, fronts and values.
use Rattle.std.proofs.Common.{◌≡◌, ◌⊎◌, ℕ, suc, ◌+◌, ◌-◌, ◌*◌, ◌≤◌, ◌<◌, Bool, true, false, List, [], ◌∷◌, Option, Some, None, refl, ap, ◌∙◌, subst, if◌then◌else◌, nat_eq, nat_lt, nat_le, int_le, ltb-true, lt-ltb, leb-true, arith, inl, inr, ℤ, pos, neg_ℤ, is_some}
use Rattle.std.proofs.lemmas.Int.{ints}
use Rattle.std.proofs.lemmas.Bool.Decides.{nat_tests}
use Rattle.point_types.specs.declared.il_type.IlType.{IlType}
use Rattle.point_types.specs.declared.il_type.IlType.TheVariants as il
use Rattle.point_types.specs.Name.{folded, is_between, is_digit, is_letter}
use Rattle.point_types.specs.Value.{low_of, high_of, is_within}
use Rattle.il_reader.specs.declared.lexer.Mode.TheVariants as mode
use Rattle.il_reader.specs.declared.numeral.Base.TheVariants as base
use Rattle.il_reader.specs.declared.numeral.Spelling.{Spelling}
use Rattle.il_reader.specs.declared.numeral.Spelling.TheVariants as spelling
use Rattle.il_reader.specs.Tokens.{below, digit_in, digit_of, grown, limits_of, number_stands, number_token, radix, spelled_on, stands}
use Rattle.il_reader.specs.Lexemes.{is_word_byte, line_ends}
use Rattle.il_reader.specs.Literals.{AreDigits, AreFurther, Based, Bare, Front, Signed, front_bytes, front_radix, literal_token, number_from, with_sign}
use Rattle.il_reader.proofs.Scans.{and_left, and_right, differs, taken}

-- Fronts and spellings.

abbrev pub front_of : Spelling → Front
front_of spelling.Plain = Bare
front_of spelling.Decimal = Bare
front_of (spelling.Signed negative) = Signed negative
front_of (spelling.Based x) = Based x

same_radix : (s : Spelling) → radix s ≡ front_radix (front_of s)
same_radix spelling.Plain = refl
same_radix spelling.Decimal = refl
same_radix (spelling.Signed negative) = refl
same_radix (spelling.Based base.Two) = refl
same_radix (spelling.Based base.Eight) = refl
same_radix (spelling.Based base.Sixteen) = refl

pub digit_is : (s : Spelling) (f : Front) (b : ℕ) → front_of s ≡ f → digit_in s b ≡ below (front_radix f) (digit_of b)
digit_is s f b e = ap (λ z. below z (digit_of b)) (same_radix s ∙ ap front_radix e)

minus : (m d : ℕ) → grown (spelling.Signed true) (neg_ℤ (pos m)) d ≡ neg_ℤ (pos (10 * m + d))
minus m d = omega (arith, ints)

front_grown : (s : Spelling) (m d : ℕ) → grown s (with_sign (front_of s) m) d ≡ with_sign (front_of s) (front_radix (front_of s) * m + d)
front_grown spelling.Plain m d = refl
front_grown spelling.Decimal m d = refl
front_grown (spelling.Signed false) m d = refl
front_grown (spelling.Signed true) m d = minus m d
front_grown (spelling.Based base.Two) m d = refl
front_grown (spelling.Based base.Eight) m d = refl
front_grown (spelling.Based base.Sixteen) m d = refl

pub grown_is : (s : Spelling) (f : Front) (m d : ℕ) → front_of s ≡ f → grown s (with_sign f m) d ≡ with_sign f (front_radix f * m + d)
grown_is s f m d e = subst (λ z. grown s (with_sign z m) d ≡ with_sign z (front_radix z * m + d)) e (front_grown s m d)

front_token : (k : Option IlType) (s : Spelling) (v : ℤ) → number_token k s v ≡ literal_token k (front_of s) v
front_token (Some k) s v = refl
front_token None spelling.Plain v = refl
front_token None spelling.Decimal v = refl
front_token None (spelling.Signed negative) v = refl
front_token None (spelling.Based x) v = refl

pub token_is : (k : Option IlType) (s : Spelling) (f : Front) (v : ℤ) → front_of s ≡ f → number_token k s v ≡ literal_token k f v
token_is k s f v e = front_token k s v ∙ ap (λ z. literal_token k z v) e

pub parted : (s : Spelling) → front_of (spelled_on s) ≡ front_of s
parted spelling.Plain = refl
parted spelling.Decimal = refl
parted (spelling.Signed negative) = refl
parted (spelling.Based x) = refl

-- Ranges.

abbrev pub IsIn : Option IlType → ℤ → Type 0
IsIn k v = is_within (low_of (limits_of k)) (high_of (limits_of k)) v ≡ true

around_zero : (k : IlType) → (int_le (low_of k) (pos 0) ≡ true) × (int_le (pos 0) (high_of k) ≡ true)
around_zero il.Bool = (refl, refl)
around_zero il.Sint = (refl, refl)
around_zero il.Int = (refl, refl)
around_zero il.Dint = (refl, refl)
around_zero il.Lint = (refl, refl)
around_zero il.Usint = (refl, refl)
around_zero il.Uint = (refl, refl)
around_zero il.Udint = (refl, refl)

less_plus : (low high : ℤ) (m n : ℕ) → int_le low (pos 0) ≡ true → m ≤ n → is_within low high (pos n) ≡ true → is_within low high (pos m) ≡ true
less_plus low high m n g h w = grind (arith, ints)

less_minus : (low high : ℤ) (m n : ℕ) → int_le (pos 0) high ≡ true → m ≤ n → is_within low high (neg_ℤ (pos n)) ≡ true → is_within low high (neg_ℤ (pos m)) ≡ true
less_minus low high m n g h w = grind (arith, ints)

-- what is nearer to zero is within the range too
pub nearer : (k : Option IlType) (f : Front) (m n : ℕ) → m ≤ n → IsIn k (with_sign f n) → IsIn k (with_sign f m)
nearer k (Signed true) m n h w = less_minus (low_of (limits_of k)) (high_of (limits_of k)) m n (around_zero (limits_of k)).1 h w
nearer k (Signed false) m n h w = less_plus (low_of (limits_of k)) (high_of (limits_of k)) m n (around_zero (limits_of k)).0 h w
nearer k Bare m n h w = less_plus (low_of (limits_of k)) (high_of (limits_of k)) m n (around_zero (limits_of k)).0 h w
nearer k (Based x) m n h w = less_plus (low_of (limits_of k)) (high_of (limits_of k)) m n (around_zero (limits_of k)).0 h w

larger : (f : Front) (m d : ℕ) → m ≤ front_radix f * m + d
larger Bare m d = omega arith
larger (Signed negative) m d = omega arith
larger (Based base.Two) m d = omega arith
larger (Based base.Eight) m d = omega arith
larger (Based base.Sixteen) m d = omega arith

-- digits make a number no smaller
pub no_smaller : (f : Front) (m : ℕ) (ds : List ℕ) → m ≤ number_from (front_radix f) m ds
no_smaller f m [] = omega arith
no_smaller f m (d ∷ ds) =
    let once : m ≤ front_radix f * m + d = larger f m d in
    let all : front_radix f * m + d ≤ number_from (front_radix f) (front_radix f * m + d) ds = no_smaller f (front_radix f * m + d) ds in
    omega arith

-- no literal is a BOOL's
abbrev pub IsWhole : Option IlType → Type 0
IsWhole (Some il.Bool) = ⊥
IsWhole k = Unit {0}

pub small : (k : Option IlType) (m : ℕ) → IsWhole k → m ≤ 16 → IsIn k (pos m)
small k m w h = nearer k Bare m 16 h (sixteen k w)
  where
    sixteen : (k : Option IlType) → IsWhole k → IsIn k (pos 16)
    sixteen None w = refl
    sixteen (Some il.Bool) w = absurd w
    sixteen (Some il.Sint) w = refl
    sixteen (Some il.Int) w = refl
    sixteen (Some il.Dint) w = refl
    sixteen (Some il.Lint) w = refl
    sixteen (Some il.Usint) w = refl
    sixteen (Some il.Uint) w = refl
    sixteen (Some il.Udint) w = refl

-- Digits.

pub digit_stands : (k : Option IlType) (s : Spelling) (v : ℤ) → IsIn k v → number_stands k s v ≡ stands (mode.Number k s v false)
digit_stands k s v h = taken (is_within (low_of (limits_of k)) (high_of (limits_of k)) v) _ _ h

-- a byte that is a digit is none that isn't
pub digit_differs : (r b c d : ℕ) → below r (digit_of b) ≡ Some d → below r (digit_of c) ≡ None → nat_eq b c ≡ false
digit_differs r b c d h k = differs (λ z. is_some (below r (digit_of z))) b c (ap is_some h) (ap is_some k)

digit_bounds : (b : ℕ) → is_digit b ≡ true → (48 ≤ b) × (b ≤ 57)
digit_bounds b h = (leb-true 48 b (and_left (nat_le 48 b) (nat_le b 57) h), leb-true b 57 (and_right (nat_le 48 b) (nat_le b 57) h))

-- a decimal digit
pub decimal : (b d : ℕ) → below 10 (digit_of b) ≡ Some d → (is_digit b ≡ true) × (b ≡ d + 48) × (d ≤ 9)
decimal b d h = go (is_digit b) refl h
  where
    ten : (e : ℕ) (c : Bool) → nat_lt e 10 ≡ c → (if c then Some e else None) ≡ Some d → (d ≡ e) × (d < 10)
    ten e true w h = let same : d ≡ e = cc in let few : e < 10 = ltb-true _ _ w in (same, omega arith)
    ten e false w h = absurd (cc)

    letter : (c : Bool) → below 10 (if c then Some ((folded b - 97) + 10) else None) ≡ Some d → ⊥
    letter true h = let e = ten ((folded b - 97) + 10) (nat_lt ((folded b - 97) + 10) 10) refl h in omega arith
    letter false h = cc

    go : (c : Bool) → is_digit b ≡ c → below 10 (if c then Some (b - 48) else if is_between 97 102 (folded b) then Some ((folded b - 97) + 10) else None) ≡ Some d → (is_digit b ≡ true) × (b ≡ d + 48) × (d ≤ 9)
    go true e h =
        let v = ten (b - 48) (nat_lt (b - 48) 10) refl h in
        let bounds = digit_bounds b e in
        (e, omega arith, omega arith)
    go false e h = absurd (letter (is_between 97 102 (folded b)) h)

pub is_decimal : (b : ℕ) → is_digit b ≡ true → below 10 (digit_of b) ≡ Some (b - 48)
is_decimal b h =
    let bounds = digit_bounds b h in
    ap (λ z. below 10 (if z then Some (b - 48) else if is_between 97 102 (folded b) then Some ((folded b - 97) + 10) else None)) h ∙ ap (λ z. if z then Some (b - 48) else None) (lt-ltb (b - 48) 10 (omega arith))

-- a digit is no letter
pub no_letter : (b : ℕ) → is_digit b ≡ true → is_letter (folded b) ≡ false
no_letter b h = grind (arith, nat_tests)

no_decimal : (b : ℕ) → is_word_byte b ≡ false → is_digit b ≡ false
no_decimal b h = grind (arith, nat_tests)

no_hexadecimal : (b : ℕ) → is_word_byte b ≡ false → is_between 97 102 (folded b) ≡ false
no_hexadecimal b h = grind (arith, nat_tests)

-- what is no word's byte is no digit
pub no_digit : (r b : ℕ) → is_word_byte b ≡ false → below r (digit_of b) ≡ None
no_digit r b h =
    ap (λ z. below r (if z then Some (b - 48) else if is_between 97 102 (folded b) then Some ((folded b - 97) + 10) else None)) (no_decimal b h) ∙ ap (λ z. below r (if z then Some ((folded b - 97) + 10) else None)) (no_hexadecimal b h)

-- Lines.

further_in_line : (r : ℕ) (own ds : List ℕ) → AreFurther r own ds → line_ends own ≡ 0
further_in_line r own [] h = ap line_ends h
further_in_line r own (d ∷ ds) (b, bs, digit, how, more) = go (further_in_line r bs ds more) how
  where
    first : line_ends bs ≡ 0 → line_ends (b ∷ bs) ≡ 0
    first h = ap (λ z. if z then suc (line_ends bs) else line_ends bs) (digit_differs r b 10 d digit refl) ∙ h

    go : line_ends bs ≡ 0 → (own ≡ b ∷ bs) ⊎ (own ≡ 95 ∷ b ∷ bs) → line_ends own ≡ 0
    go h (inl e) = ap line_ends e ∙ first h
    go h (inr e) = ap line_ends e ∙ first h

pub digits_in_line : (r : ℕ) (own ds : List ℕ) → AreDigits r own ds → line_ends own ≡ 0
digits_in_line r own [] h = absurd h
digits_in_line r own (d ∷ ds) (b, bs, digit, e, more) = ap line_ends e ∙ ap (λ z. if z then suc (line_ends bs) else line_ends bs) (digit_differs r b 10 d digit refl) ∙ further_in_line r bs ds more

pub front_in_line : (f : Front) → line_ends (front_bytes f) ≡ 0
front_in_line Bare = refl
front_in_line (Signed false) = refl
front_in_line (Signed true) = refl
front_in_line (Based base.Two) = refl
front_in_line (Based base.Eight) = refl
front_in_line (Based base.Sixteen) = refl
