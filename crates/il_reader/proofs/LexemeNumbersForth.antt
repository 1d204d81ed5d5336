-- Numbers are scanned as the tokens that they spell.
use Rattle.std.proofs.Common.{◌≡◌, ◌⊎◌, ℕ, ◌+◌, ◌-◌, ◌*◌, ◌≤◌, Bool, true, false, not, ◌||◌, List, [], ◌∷◌, ◌++◌, Option, Some, None, refl, sym, ap, ◌∙◌, nat_eq, eqb-true, arith, inl, inr, ℤ, pos}
use Rattle.point_types.specs.declared.il_type.IlType.{IlType}
use Rattle.point_types.specs.Name.{folded, is_digit, is_letter}
use Rattle.il_reader.specs.declared.lexer.Mode.{Mode}
use Rattle.il_reader.specs.declared.lexer.Mode.TheVariants as mode
use Rattle.il_reader.specs.declared.numeral.Base.{Base}
use Rattle.il_reader.specs.declared.numeral.Base.TheVariants as base
use Rattle.il_reader.specs.declared.numeral.Spelling.{Spelling}
use Rattle.il_reader.specs.declared.numeral.Spelling.TheVariants as spelling
use Rattle.il_reader.specs.Tokens.{below, digit_of, ended_by, first_byte, first_digit, lexed, number_grown, number_stands, number_token, radix, spelled_on, stands}
use Rattle.il_reader.specs.Lexemes.{Ends, is_word_byte, placed}
use Rattle.il_reader.specs.Literals.{AreDigits, AreFurther, Based, Bare, Front, Signed, front_bytes, front_radix, literal_token, number_from, number_of, with_sign}
use Rattle.il_reader.specs.Scanning.{NoTokens, Tokens, joined, scanned, scanned_on}
use Rattle.il_reader.proofs.Scans.{differs, ended, goes, on, or_left, or_right, passed, taken}
use Rattle.il_reader.proofs.LexemeNumbers.{IsIn, IsWhole, decimal, digit_differs, digit_is, digit_stands, front_of, grown_is, is_decimal, nearer, no_digit, no_letter, no_smaller, parted, small, token_is}

no_underscore : (b : ℕ) → is_word_byte b ≡ false → nat_eq b 95 ≡ false
no_underscore b h = differs (λ z. not (is_word_byte z)) b 95 (ap not h) refl

-- after the last digit
number_over : (k : Option IlType) (s : Spelling) (v : ℤ) (b : ℕ) → (is_word_byte b || nat_eq b 35) ≡ false → lexed (mode.Number k s v false) b ≡ ended_by (number_token k s v) (first_byte b)
number_over k s v b h =
    let no_word : is_word_byte b ≡ false = or_left (is_word_byte b) (nat_eq b 35) h in
    ap (λ z. number_grown z k s v false b) (no_digit (radix s) b no_word)
    ∙ passed (nat_eq b 95) _ _ (no_underscore b no_word)
    ∙ passed (nat_eq b 35) _ _ (or_right (is_word_byte b) (nat_eq b 35) h)
    ∙ passed (is_word_byte b) _ _ no_word

number_done : (behind : List ℕ) (k : Option IlType) (s : Spelling) (f : Front) (v : ℤ) (n : ℕ) → front_of s ≡ f → Ends behind → scanned n (mode.Number k s v false) behind ≡ joined (placed (literal_token k f v) n ∷ []) (scanned n mode.Clear behind)
number_done [] k s f v n e h = ap (λ t. Tokens (placed t n ∷ [])) (token_is k s f v e)
number_done (b ∷ bs) k s f v n e h =
    ap (λ z. scanned_on n z (on n b bs)) (number_over k s v b h) ∙ ended n b bs (number_token k s v) ∙ ap (λ t. joined (placed t n ∷ []) (scanned n mode.Clear (b ∷ bs))) (token_is k s f v e)

-- one more digit
digit_lexed : (k : Option IlType) (s : Spelling) (f : Front) (m b d : ℕ) (wanting : Bool) → front_of s ≡ f → below (front_radix f) (digit_of b) ≡ Some d → IsIn k (with_sign f (front_radix f * m + d)) → lexed (mode.Number k s (with_sign f m) wanting) b ≡ stands (mode.Number k s (with_sign f (front_radix f * m + d)) false)
digit_lexed k s f m b d wanting e digit within =
    ap (λ z. number_grown z k s (with_sign f m) wanting b) (digit_is s f b e ∙ digit) ∙ ap (number_stands k s) (grown_is s f m d e) ∙ digit_stands k s (with_sign f (front_radix f * m + d)) within

further_scanned : (ds own behind : List ℕ) (k : Option IlType) (s : Spelling) (f : Front) (m n : ℕ) → front_of s ≡ f → AreFurther (front_radix f) own ds → Ends behind → IsIn k (with_sign f (number_from (front_radix f) m ds)) → scanned n (mode.Number k s (with_sign f m) false) (own ++ behind) ≡ joined (placed (literal_token k f (with_sign f (number_from (front_radix f) m ds))) n ∷ []) (scanned n mode.Clear behind)
further_scanned [] own behind k s f m n e h ends within = ap (λ z. scanned n (mode.Number k s (with_sign f m) false) (z ++ behind)) h ∙ number_done behind k s f (with_sign f m) n e ends
further_scanned (d ∷ ds) own behind k s f m n e (b, bs, digit, how, more) ends within = go how (further_scanned ds bs behind k s f next n e more ends within) (further_scanned ds bs behind k (spelled_on s) f next n (parted s ∙ e) more ends within)
  where
    next : ℕ
    next = front_radix f * m + d

    fits : IsIn k (with_sign f next)
    fits = nearer k f next (number_from (front_radix f) next ds) (no_smaller f next ds) within

    Rest : Spelling → Type 0
    Rest s = scanned n (mode.Number k s (with_sign f next) false) (bs ++ behind) ≡ joined (placed (literal_token k f (with_sign f (number_from (front_radix f) next ds))) n ∷ []) (scanned n mode.Clear behind)

    go : (own ≡ b ∷ bs) ⊎ (own ≡ 95 ∷ b ∷ bs) → Rest s → Rest (spelled_on s) → scanned n (mode.Number k s (with_sign f m) false) (own ++ behind) ≡ joined (placed (literal_token k f (with_sign f (number_from (front_radix f) next ds))) n ∷ []) (scanned n mode.Clear behind)
    go (inl i) g h = ap (λ z. scanned n (mode.Number k s (with_sign f m) false) (z ++ behind)) i ∙ goes n b (mode.Number k s (with_sign f m) false) (mode.Number k s (with_sign f next) false) (bs ++ behind) (digit_lexed k s f m b d false e digit fits) (digit_differs (front_radix f) b 10 d digit refl) ∙ g
    go (inr i) g h =
        ap (λ z. scanned n (mode.Number k s (with_sign f m) false) (z ++ behind)) i
        ∙ goes n 95 (mode.Number k s (with_sign f m) false) (mode.Number k (spelled_on s) (with_sign f m) true) (b ∷ (bs ++ behind)) refl refl
        ∙ goes n b (mode.Number k (spelled_on s) (with_sign f m) true) (mode.Number k (spelled_on s) (with_sign f next) false) (bs ++ behind) (digit_lexed k (spelled_on s) f m b d true (parted s ∙ e) digit fits) (digit_differs (front_radix f) b 10 d digit refl)
        ∙ h

-- a first digit may stand there
abbrev Takes : Mode → Option IlType → Front → Type 0
Takes q k f = (b d : ℕ) → below (front_radix f) (digit_of b) ≡ Some d → IsIn k (with_sign f (front_radix f * 0 + d)) → (s : Spelling) × (front_of s ≡ f) × (lexed q b ≡ stands (mode.Number k s (with_sign f (front_radix f * 0 + d)) false))

digits_scanned : (q : Mode) (ds own behind : List ℕ) (k : Option IlType) (f : Front) (n : ℕ) → Takes q k f → AreDigits (front_radix f) own ds → Ends behind → IsIn k (number_of f ds) → scanned n q (own ++ behind) ≡ joined (placed (literal_token k f (number_of f ds)) n ∷ []) (scanned n mode.Clear behind)
digits_scanned q [] own behind k f n takes h ends within = absurd h
digits_scanned q (d ∷ ds) own behind k f n takes (b, bs, digit, i, more) ends within = go (takes b d digit fits)
  where
    first : ℕ
    first = front_radix f * 0 + d

    fits : IsIn k (with_sign f first)
    fits = nearer k f first (number_from (front_radix f) first ds) (no_smaller f first ds) within

    go : (s : Spelling) × (front_of s ≡ f) × (lexed q b ≡ stands (mode.Number k s (with_sign f first) false)) → scanned n q (own ++ behind) ≡ joined (placed (literal_token k f (number_of f (d ∷ ds))) n ∷ []) (scanned n mode.Clear behind)
    go (s, e, l) =
        ap (λ z. scanned n q (z ++ behind)) i ∙ goes n b q (mode.Number k s (with_sign f first) false) (bs ++ behind) l (digit_differs (front_radix f) b 10 d digit refl) ∙ further_scanned ds bs behind k s f first n e more ends within

-- where no digit has come yet: after a type and #, or where nothing is open
abbrev pub opens : Option IlType → Mode
opens None = mode.Clear
opens (Some k) = mode.Typed k

pub digit_opens : (k : Option IlType) (b : ℕ) → is_digit b ≡ true → lexed (opens k) b ≡ first_digit k b
digit_opens None b h = passed (is_letter (folded b)) _ _ (no_letter b h) ∙ taken (is_digit b) _ _ h
digit_opens (Some k) b h = taken (is_digit b) _ _ h

bare_takes : (k : Option IlType) → Takes (opens k) k Bare
bare_takes k b d digit within = go (nat_eq b 48) refl
  where
    facts : (is_digit b ≡ true) × (b ≡ d + 48) × (d ≤ 9)
    facts = decimal b d digit

    go : (c : Bool) → nat_eq b 48 ≡ c → (s : Spelling) × (front_of s ≡ Bare) × (lexed (opens k) b ≡ stands (mode.Number k s (pos (10 * 0 + d)) false))
    go true c =
        let same : b ≡ 48 = eqb-true b 48 c in
        let sum : b ≡ d + 48 = facts.1 in
        let none : 0 ≡ 10 * 0 + d = omega arith in
        (spelling.Decimal, refl, digit_opens k b facts.0 ∙ taken (nat_eq b 48) _ _ c ∙ ap (λ z. number_stands k spelling.Decimal (pos z)) none ∙ digit_stands k spelling.Decimal (pos (10 * 0 + d)) within)
    go false c =
        let sum : b ≡ d + 48 = facts.1 in
        let some : b - 48 ≡ 10 * 0 + d = omega arith in
        (spelling.Plain, refl, digit_opens k b facts.0 ∙ passed (nat_eq b 48) _ _ c ∙ ap (λ z. number_stands k spelling.Plain (pos z)) some ∙ digit_stands k spelling.Plain (pos (10 * 0 + d)) within)

pub zero_with_sign : (f : Front) → with_sign f 0 ≡ pos 0
zero_with_sign Bare = refl
zero_with_sign (Signed false) = refl
zero_with_sign (Signed true) = refl
zero_with_sign (Based x) = refl

-- after a sign or a base
front_takes : (k : Option IlType) (s : Spelling) (f : Front) → front_of s ≡ f → Takes (mode.Number k s (pos 0) true) k f
front_takes k s f e b d digit within = (s, e, ap (λ z. lexed (mode.Number k s z true) b) (sym (zero_with_sign f)) ∙ digit_lexed k s f 0 b d true e digit within)

-- a sign alone is read as one after a type
pub sign_scanned : (bs : List ℕ) (negative : Bool) (n : ℕ) → scanned n (mode.Sign negative) bs ≡ scanned n (mode.Number None (spelling.Signed negative) (pos 0) true) bs
sign_scanned [] negative n = refl
sign_scanned (b ∷ bs) negative n = go (is_digit b) refl
  where
    none : (x : Option ℕ) → below 10 (digit_of b) ≡ x → is_digit b ≡ false → NoTokens ≡ scanned_on n (number_grown x None (spelling.Signed negative) (pos 0) true b) (on n b bs)
    none None e c = refl
    none (Some d) e c = let h : is_digit b ≡ true = (decimal b d e).0 in absurd (cc)

    go : (c : Bool) → is_digit b ≡ c → scanned n (mode.Sign negative) (b ∷ bs) ≡ scanned_on n (number_grown (below 10 (digit_of b)) None (spelling.Signed negative) (pos 0) true b) (on n b bs)
    go true c = ap (λ z. scanned_on n z (on n b bs)) (taken (is_digit b) _ _ c) ∙ ap (λ z. scanned_on n (number_grown z None (spelling.Signed negative) (pos 0) true b) (on n b bs)) (sym (is_decimal b c))
    go false c = ap (λ z. scanned_on n z (on n b bs)) (passed (is_digit b) _ _ c) ∙ none (below 10 (digit_of b)) refl c

signed_opens : (k : Option IlType) (negative : Bool) (n : ℕ) (bs : List ℕ) → scanned n (opens k) (front_bytes (Signed negative) ++ bs) ≡ scanned n (mode.Number k (spelling.Signed negative) (pos 0) true) bs
signed_opens None false n bs = goes n 43 mode.Clear (mode.Sign false) bs refl refl ∙ sign_scanned bs false n
signed_opens None true n bs = goes n 45 mode.Clear (mode.Sign true) bs refl refl ∙ sign_scanned bs true n
signed_opens (Some k) false n bs = goes n 43 (mode.Typed k) (mode.Number (Some k) (spelling.Signed false) (pos 0) true) bs refl refl
signed_opens (Some k) true n bs = goes n 45 (mode.Typed k) (mode.Number (Some k) (spelling.Signed true) (pos 0) true) bs refl refl

based_opens : (k : Option IlType) (x : Base) (n : ℕ) (bs : List ℕ) → IsWhole k → scanned n (opens k) (front_bytes (Based x) ++ bs) ≡ scanned n (mode.Number k (spelling.Based x) (pos 0) true) bs
based_opens k base.Two n bs w =
    goes n 50 (opens k) (mode.Number k spelling.Plain (pos 2) false) (35 ∷ bs) (digit_opens k 50 refl ∙ digit_stands k spelling.Plain (pos 2) (small k 2 w (omega arith))) refl ∙ goes n 35 (mode.Number k spelling.Plain (pos 2) false) (mode.Number k (spelling.Based base.Two) (pos 0) true) bs refl refl
based_opens k base.Eight n bs w =
    goes n 56 (opens k) (mode.Number k spelling.Plain (pos 8) false) (35 ∷ bs) (digit_opens k 56 refl ∙ digit_stands k spelling.Plain (pos 8) (small k 8 w (omega arith))) refl ∙ goes n 35 (mode.Number k spelling.Plain (pos 8) false) (mode.Number k (spelling.Based base.Eight) (pos 0) true) bs refl refl
based_opens k base.Sixteen n bs w =
    goes n 49 (opens k) (mode.Number k spelling.Plain (pos 1) false) (54 ∷ 35 ∷ bs) (digit_opens k 49 refl ∙ digit_stands k spelling.Plain (pos 1) (small k 1 w (omega arith))) refl
    ∙ goes n 54 (mode.Number k spelling.Plain (pos 1) false) (mode.Number k spelling.Plain (pos 16) false) (35 ∷ bs) (digit_stands k spelling.Plain (pos 16) (small k 16 w (omega arith))) refl
    ∙ goes n 35 (mode.Number k spelling.Plain (pos 16) false) (mode.Number k (spelling.Based base.Sixteen) (pos 0) true) bs refl refl

-- a number after its type, or without one
pub number_scanned : (f : Front) (k : Option IlType) (own ds behind : List ℕ) (n : ℕ) → IsWhole k → AreDigits (front_radix f) own ds → Ends behind → IsIn k (number_of f ds) → scanned n (opens k) (front_bytes f ++ (own ++ behind)) ≡ joined (placed (literal_token k f (number_of f ds)) n ∷ []) (scanned n mode.Clear behind)
number_scanned Bare k own ds behind n w digits ends within = digits_scanned (opens k) ds own behind k Bare n (bare_takes k) digits ends within
number_scanned (Signed negative) k own ds behind n w digits ends within = signed_opens k negative n (own ++ behind) ∙ digits_scanned (mode.Number k (spelling.Signed negative) (pos 0) true) ds own behind k (Signed negative) n (front_takes k (spelling.Signed negative) (Signed negative) refl) digits ends within
number_scanned (Based x) k own ds behind n w digits ends within = based_opens k x n (own ++ behind) w ∙ digits_scanned (mode.Number k (spelling.Based x) (pos 0) true) ds own behind k (Based x) n (front_takes k (spelling.Based x) (Based x) refl) digits ends within
