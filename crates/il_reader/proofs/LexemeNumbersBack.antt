-- Where a number is scanned, its bytes spell it.
use Rattle.std.proofs.Common.{◌≡◌, ◌⊎◌, ℕ, ◌+◌, ◌-◌, ◌*◌, ◌≤◌, Bool, true, false, ◌||◌, List, [], ◌∷◌, ◌++◌, Option, Some, None, refl, sym, ap, ◌∙◌, subst, if◌then◌else◌, nat_eq, eqb-true, arith, append_assoc, inl, inr, ℤ, pos}
use Rattle.std.proofs.lemmas.Int.{ints}
use Rattle.std.proofs.lemmas.Bool.Decides.{nat_tests}
use Rattle.point_types.specs.declared.il_type.IlType.{IlType}
use Rattle.point_types.specs.declared.il_type.IlType.TheVariants as il
use Rattle.point_types.specs.Name.{is_digit}
use Rattle.point_types.specs.Value.{low_of, high_of, is_within, int_eq}
use Rattle.il_reader.specs.declared.lexer.Mode.TheVariants as mode
use Rattle.il_reader.specs.declared.numeral.Base.{Base}
use Rattle.il_reader.specs.declared.numeral.Base.TheVariants as base
use Rattle.il_reader.specs.declared.numeral.Spelling.{Spelling}
use Rattle.il_reader.specs.declared.numeral.Spelling.TheVariants as spelling
use Rattle.il_reader.specs.Tokens.{base_named, based, below, digit_in, digit_of, ended_by, first_byte, first_digit, limits_of, number_ended, number_grown, number_stands, number_token, spelled_on, stands}
use Rattle.il_reader.specs.Lexemes.{Ends, Placed, is_word_byte, placed}
use Rattle.il_reader.specs.Literals.{AreDigits, AreFurther, Based, Bare, Front, Signed, front_bytes, front_radix, literal_token, number_from, number_of, with_sign}
use Rattle.il_reader.specs.Scanning.{Tokens, scanned, scanned_on}
use Rattle.il_reader.proofs.Scans.{Others, chosen, on, others_ended, went}
use Rattle.il_reader.proofs.LexemeNumbers.{IsIn, decimal, digit_differs, digit_is, front_of, grown_is, is_decimal, no_smaller, parted, token_is}
use Rattle.il_reader.proofs.LexemeNumbersForth.{sign_scanned}

-- decimal digits with nothing between them
abbrev ArePlain : List ℕ → List ℕ → Type 0
ArePlain own [] = own ≡ []
ArePlain own (d ∷ ds) = (b : ℕ) × (bs : List ℕ) × (below 10 (digit_of b) ≡ Some d) × (own ≡ b ∷ bs) × ArePlain bs ds

-- the rest of a number after digits that make m
record Further (k : Option IlType) (f : Front) (m n : ℕ) (bs : List ℕ) (ts : List Placed) : Type 0 where
  figures : List ℕ
  values : List ℕ
  rest : List ℕ
  bytes : bs ≡ figures ++ rest
  further : AreFurther (front_radix f) figures values
  within : IsIn k (with_sign f (number_from (front_radix f) m values))
  ends : Ends rest
  others : Others n (literal_token k f (with_sign f (number_from (front_radix f) m values))) rest ts

-- digits that are a base, and # after them
record Hash (k : Option IlType) (m n : ℕ) (bs : List ℕ) (ts : List Placed) : Type 0 where
  base : Base
  figures : List ℕ
  values : List ℕ
  rest : List ℕ
  bytes : bs ≡ figures ++ (35 ∷ rest)
  plain : ArePlain figures values
  named : base_named spelling.Plain (pos (number_from 10 m values)) ≡ Some base
  behind : scanned n (mode.Number k (spelling.Based base) (pos 0) true) rest ≡ Tokens ts

-- a base comes only after plain digits
abbrev MayHash : Spelling → Option IlType → ℕ → ℕ → List ℕ → List Placed → Type 0
MayHash spelling.Plain k m n bs ts = Hash k m n bs ts
MayHash s k m n bs ts = ⊥

abbrev After : Spelling → Option IlType → Front → ℕ → ℕ → List ℕ → List Placed → Type 0
After s k f m n bs ts = Further k f m n bs ts ⊎ MayHash s k m n bs ts

-- a digit that has to come, and the rest
record Wanted (s : Spelling) (k : Option IlType) (f : Front) (m n : ℕ) (bs : List ℕ) (ts : List Placed) : Type 0 where
  byte : ℕ
  value : ℕ
  more : List ℕ
  bytes : bs ≡ byte ∷ more
  digit : below (front_radix f) (digit_of byte) ≡ Some value
  after : After s k f (front_radix f * m + value) n more ts

abbrev Found : Bool → Spelling → Option IlType → Front → ℕ → ℕ → List ℕ → List Placed → Type 0
Found false s k f m n bs ts = After s k f m n bs ts
Found true s k f m n bs ts = Wanted s k f m n bs ts

-- One more byte before the rest.

digit_before : (s : Spelling) (k : Option IlType) (f : Front) (m n b d : ℕ) (bs : List ℕ) (ts : List Placed) → front_of s ≡ f → below (front_radix f) (digit_of b) ≡ Some d → After s k f (front_radix f * m + d) n bs ts → After s k f m n (b ∷ bs) ts
digit_before s k f m n b d bs ts e digit (inl x) = inl (record {
  figures = b ∷ x.figures;
  values = d ∷ x.values;
  rest = x.rest;
  bytes = ap (λ z. b ∷ z) x.bytes;
  further = (b, x.figures, digit, inl refl, x.further);
  within = x.within;
  ends = x.ends;
  others = x.others;
})
digit_before spelling.Plain k f m n b d bs ts e digit (inr x) = inr (record {
  base = x.base;
  figures = b ∷ x.figures;
  values = d ∷ x.values;
  rest = x.rest;
  bytes = ap (λ z. b ∷ z) x.bytes;
  plain = (b, x.figures, subst (λ z. below (front_radix z) (digit_of b) ≡ Some d) (sym e) digit, refl, x.plain);
  named = subst (λ z. base_named spelling.Plain (pos (number_from 10 (front_radix z * m + d) x.values)) ≡ Some x.base) (sym e) x.named;
  behind = x.behind;
})
digit_before spelling.Decimal k f m n b d bs ts e digit (inr x) = absurd x
digit_before (spelling.Signed negative) k f m n b d bs ts e digit (inr x) = absurd x
digit_before (spelling.Based y) k f m n b d bs ts e digit (inr x) = absurd x

-- no base comes after an underscore
no_hash : (s : Spelling) (k : Option IlType) (m n : ℕ) (bs : List ℕ) (ts : List Placed) → MayHash (spelled_on s) k m n bs ts → ⊥
no_hash spelling.Plain k m n bs ts h = h
no_hash spelling.Decimal k m n bs ts h = h
no_hash (spelling.Signed negative) k m n bs ts h = h
no_hash (spelling.Based x) k m n bs ts h = h

underscore_before : (s : Spelling) (k : Option IlType) (f : Front) (m n : ℕ) (bs : List ℕ) (ts : List Placed) → Wanted (spelled_on s) k f m n bs ts → After s k f m n (95 ∷ bs) ts
underscore_before s k f m n bs ts w = go w.after
  where
    go : After (spelled_on s) k f (front_radix f * m + w.value) n w.more ts → After s k f m n (95 ∷ bs) ts
    go (inl x) = inl (record {
      figures = 95 ∷ w.byte ∷ x.figures;
      values = w.value ∷ x.values;
      rest = x.rest;
      bytes = ap (λ z. 95 ∷ z) (w.bytes ∙ ap (λ z. w.byte ∷ z) x.bytes);
      further = (w.byte, x.figures, w.digit, inr refl, x.further);
      within = x.within;
      ends = x.ends;
      others = x.others;
    })
    go (inr x) = absurd (no_hash s k (front_radix f * m + w.value) n w.more ts x)

hash_here : (s : Spelling) (k : Option IlType) (f : Front) (m n : ℕ) (bs : List ℕ) (ts : List Placed) (x : Base) → front_of s ≡ f → base_named s (with_sign f m) ≡ Some x → scanned n (mode.Number k (spelling.Based x) (pos 0) true) bs ≡ Tokens ts → After s k f m n (35 ∷ bs) ts
hash_here spelling.Plain k f m n bs ts x e named h = inr (record {
  base = x;
  figures = [];
  values = [];
  rest = bs;
  bytes = refl;
  plain = refl;
  named = subst (λ z. base_named spelling.Plain (with_sign z m) ≡ Some x) (sym e) named;
  behind = h;
})
hash_here spelling.Decimal k f m n bs ts x e named h = absurd (cc)
hash_here (spelling.Signed negative) k f m n bs ts x e named h = absurd (cc)
hash_here (spelling.Based y) k f m n bs ts x e named h = absurd (cc)

done_here : (k : Option IlType) (f : Front) (m n : ℕ) (bs : List ℕ) (ts : List Placed) → IsIn k (with_sign f m) → Ends bs → Others n (literal_token k f (with_sign f m)) bs ts → Further k f m n bs ts
done_here k f m n bs ts within ends others = record {
  figures = [];
  values = [];
  rest = bs;
  bytes = refl;
  further = refl;
  within = within;
  ends = ends;
  others = others;
}

-- From the scan.

-- a number that stands is within its range
stood : (k : Option IlType) (s : Spelling) (v : ℤ) (n b : ℕ) (bs : List ℕ) (ts : List Placed) → nat_eq b 10 ≡ false → scanned_on n (number_stands k s v) (on n b bs) ≡ Tokens ts → IsIn k v × (scanned n (mode.Number k s v false) bs ≡ Tokens ts)
stood k s v n b bs ts line h = chosen n b bs ts (is_within (low_of (limits_of k)) (high_of (limits_of k)) v) _ _ h (λ c h. (c, went n b (mode.Number k s v false) bs ts line h)) (λ c h. absurd (cc))

-- what is known of the bytes after it
abbrev Known : List ℕ → Option IlType → ℕ → List Placed → Type 0
Known bs k n ts = (wanting : Bool) (s : Spelling) (f : Front) (m : ℕ) → front_of s ≡ f → IsIn k (with_sign f m) → scanned n (mode.Number k s (with_sign f m) wanting) bs ≡ Tokens ts → Found wanting s k f m n bs ts

-- a byte that is no digit
ended_on : (s : Spelling) (k : Option IlType) (f : Front) (m n b : ℕ) (bs : List ℕ) (ts : List Placed) → Known bs k n ts → front_of s ≡ f → IsIn k (with_sign f m) → scanned_on n (number_ended k s (with_sign f m) b) (on n b bs) ≡ Tokens ts → After s k f m n (b ∷ bs) ts
ended_on s k f m n b bs ts known e within h = chosen n b bs ts (nat_eq b 95) _ _ h underscore (λ c h. chosen n b bs ts (nat_eq b 35) _ _ h hash (λ d h. chosen n b bs ts (is_word_byte b) _ _ h (λ w h. absurd (cc)) (λ w h. over d w h)))
  where
    v : ℤ
    v = with_sign f m

    over : nat_eq b 35 ≡ false → is_word_byte b ≡ false → scanned_on n (ended_by (number_token k s v) (first_byte b)) (on n b bs) ≡ Tokens ts → After s k f m n (b ∷ bs) ts
    over d w h = inl (done_here k f m n (b ∷ bs) ts within (ap (λ z. z || nat_eq b 35) w ∙ d) (subst (λ z. Others n z (b ∷ bs) ts) (token_is k s f v e) (others_ended n b bs (number_token k s v) ts h)))

    names : (x : Option Base) → base_named s v ≡ x → b ≡ 35 → scanned_on n (based k x) (on n b bs) ≡ Tokens ts → After s k f m n (b ∷ bs) ts
    names None g same h = absurd (cc)
    names (Some x) g same h = subst (λ z. After s k f m n (z ∷ bs) ts) (sym same) (hash_here s k f m n bs ts x e g (went n b (mode.Number k (spelling.Based x) (pos 0) true) bs ts (ap (λ z. nat_eq z 10) same) h))

    hash : nat_eq b 35 ≡ true → scanned_on n (based k (base_named s v)) (on n b bs) ≡ Tokens ts → After s k f m n (b ∷ bs) ts
    hash c h = names (base_named s v) refl (eqb-true b 35 c) h

    underscore : nat_eq b 95 ≡ true → scanned_on n (stands (mode.Number k (spelled_on s) v true)) (on n b bs) ≡ Tokens ts → After s k f m n (b ∷ bs) ts
    underscore c h =
        let same : b ≡ 95 = eqb-true b 95 c in
        subst (λ z. After s k f m n (z ∷ bs) ts) (sym same) (underscore_before s k f m n bs ts (known true (spelled_on s) f m (parted s ∙ e) within (went n b (mode.Number k (spelled_on s) v true) bs ts (ap (λ z. nat_eq z 10) same) h)))

byte_on : (wanting : Bool) (s : Spelling) (k : Option IlType) (f : Front) (m n b : ℕ) (bs : List ℕ) (ts : List Placed) → Known bs k n ts → front_of s ≡ f → IsIn k (with_sign f m) → (x : Option ℕ) → digit_in s b ≡ x → scanned_on n (number_grown x k s (with_sign f m) wanting b) (on n b bs) ≡ Tokens ts → Found wanting s k f m n (b ∷ bs) ts
byte_on wanting s k f m n b bs ts known e within (Some d) g h = go wanting (known false s f next e now.0 now.1)
  where
    next : ℕ
    next = front_radix f * m + d

    digit : below (front_radix f) (digit_of b) ≡ Some d
    digit = sym (digit_is s f b e) ∙ g

    now : IsIn k (with_sign f next) × (scanned n (mode.Number k s (with_sign f next) false) bs ≡ Tokens ts)
    now = stood k s (with_sign f next) n b bs ts (digit_differs (front_radix f) b 10 d digit refl) (ap (λ z. scanned_on n (number_stands k s z) (on n b bs)) (sym (grown_is s f m d e)) ∙ h)

    go : (wanting : Bool) → After s k f next n bs ts → Found wanting s k f m n (b ∷ bs) ts
    go false x = digit_before s k f m n b d bs ts e digit x
    go true x = record { byte = b; value = d; more = bs; bytes = refl; digit = digit; after = x }
byte_on true s k f m n b bs ts known e within None g h = absurd (cc)
byte_on false s k f m n b bs ts known e within None g h = ended_on s k f m n b bs ts known e within h

number_back : (bs : List ℕ) (k : Option IlType) (n : ℕ) (ts : List Placed) → Known bs k n ts
number_back [] k n ts true s f m e within h = absurd (cc)
number_back [] k n ts false s f m e within h =
    let same : placed (number_token k s (with_sign f m)) n ∷ [] ≡ ts = cc in
    inl (done_here k f m n [] ts within refl (record { others = []; behind = refl; tokens = sym same ∙ ap (λ z. placed z n ∷ []) (token_is k s f (with_sign f m) e) }))
number_back (b ∷ bs) k n ts wanting s f m e within h = byte_on wanting s k f m n b bs ts (number_back bs k n ts) e within (digit_in s b) refl h

-- Whole numbers.

-- the digits of a number, and what is after it
pub record Digits (k : Option IlType) (f : Front) (n : ℕ) (bs : List ℕ) (ts : List Placed) : Type 0 where
  pub figures : List ℕ
  pub values : List ℕ
  pub rest : List ℕ
  pub bytes : bs ≡ figures ++ rest
  pub digits : AreDigits (front_radix f) figures values
  pub within : IsIn k (number_of f values)
  pub ends : Ends rest
  pub others : Others n (literal_token k f (number_of f values)) rest ts

-- a number with what stands before its digits
abbrev pub Counted : Option IlType → ℕ → List ℕ → List Placed → Type 0
Counted k n bs ts = (f : Front) × (more : List ℕ) × (bs ≡ front_bytes f ++ more) × Digits k f n more ts

digits_from : (k : Option IlType) (f : Front) (n b d : ℕ) (bs : List ℕ) (ts : List Placed) → below (front_radix f) (digit_of b) ≡ Some d → Further k f (front_radix f * 0 + d) n bs ts → Digits k f n (b ∷ bs) ts
digits_from k f n b d bs ts digit x = record {
  figures = b ∷ x.figures;
  values = d ∷ x.values;
  rest = x.rest;
  bytes = ap (λ z. b ∷ z) x.bytes;
  digits = (b, x.figures, digit, refl, x.further);
  within = x.within;
  ends = x.ends;
  others = x.others;
}

-- after a sign or a base
wanted_digits : (s : Spelling) (k : Option IlType) (f : Front) (n : ℕ) (bs : List ℕ) (ts : List Placed) → ((m : ℕ) (cs : List ℕ) → MayHash s k m n cs ts → ⊥) → Wanted s k f 0 n bs ts → Digits k f n bs ts
wanted_digits s k f n bs ts none w = go w.after
  where
    go : After s k f (front_radix f * 0 + w.value) n w.more ts → Digits k f n bs ts
    go (inl x) = subst (λ z. Digits k f n z ts) (sym w.bytes) (digits_from k f n w.byte w.value w.more ts w.digit x)
    go (inr x) = absurd (none (front_radix f * 0 + w.value) w.more x)

zero_in : (k : Option IlType) → IsIn k (pos 0)
zero_in None = refl
zero_in (Some il.Bool) = refl
zero_in (Some il.Sint) = refl
zero_in (Some il.Int) = refl
zero_in (Some il.Dint) = refl
zero_in (Some il.Lint) = refl
zero_in (Some il.Usint) = refl
zero_in (Some il.Uint) = refl
zero_in (Some il.Udint) = refl

based_back : (x : Base) (k : Option IlType) (n : ℕ) (bs : List ℕ) (ts : List Placed) → scanned n (mode.Number k (spelling.Based x) (pos 0) true) bs ≡ Tokens ts → Digits k (Based x) n bs ts
based_back x k n bs ts h = wanted_digits (spelling.Based x) k (Based x) n bs ts (λ m cs h. h) (number_back bs k n ts true (spelling.Based x) (Based x) 0 refl (zero_in k) h)

pub signed_back : (negative : Bool) (k : Option IlType) (n : ℕ) (bs : List ℕ) (ts : List Placed) → scanned n (mode.Number k (spelling.Signed negative) (pos 0) true) bs ≡ Tokens ts → Digits k (Signed negative) n bs ts
signed_back true k n bs ts h = wanted_digits (spelling.Signed true) k (Signed true) n bs ts (λ m cs h. h) (number_back bs k n ts true (spelling.Signed true) (Signed true) 0 refl (zero_in k) h)
signed_back false k n bs ts h = wanted_digits (spelling.Signed false) k (Signed false) n bs ts (λ m cs h. h) (number_back bs k n ts true (spelling.Signed false) (Signed false) 0 refl (zero_in k) h)

-- Bases.

abbrev worth : Base → ℕ
worth base.Two = 2
worth base.Eight = 8
worth base.Sixteen = 16

named_worth : (m : ℕ) (x : Base) → base_named spelling.Plain (pos m) ≡ Some x → m ≡ worth x
named_worth m x h = two (int_eq (pos m) (pos 2)) refl h
  where
    same : (n : ℕ) → int_eq (pos m) (pos n) ≡ true → m ≡ n
    same n e = grind (arith, ints)

    sixteen : (c : Bool) → int_eq (pos m) (pos 16) ≡ c → (if c then Some base.Sixteen else None) ≡ Some x → m ≡ worth x
    sixteen true e h = let which : base.Sixteen ≡ x = cc in same 16 e ∙ ap worth which
    sixteen false e h = absurd (cc)

    eight : (c : Bool) → int_eq (pos m) (pos 8) ≡ c → (if c then Some base.Eight else if int_eq (pos m) (pos 16) then Some base.Sixteen else None) ≡ Some x → m ≡ worth x
    eight true e h = let which : base.Eight ≡ x = cc in same 8 e ∙ ap worth which
    eight false e h = sixteen (int_eq (pos m) (pos 16)) refl h

    two : (c : Bool) → int_eq (pos m) (pos 2) ≡ c → (if c then Some base.Two else if int_eq (pos m) (pos 8) then Some base.Eight else if int_eq (pos m) (pos 16) then Some base.Sixteen else None) ≡ Some x → m ≡ worth x
    two true e h = let which : base.Two ≡ x = cc in same 2 e ∙ ap worth which
    two false e h = eight (int_eq (pos m) (pos 8)) refl h

-- digits that are worth a base, the first of them no zero, are its own
base_digits : (values figures : List ℕ) (d : ℕ) (x : Base) → 1 ≤ d → d ≤ 9 → ArePlain figures values → number_from 10 d values ≡ worth x → (d + 48) ∷ (figures ++ (35 ∷ [])) ≡ front_bytes (Based x)
base_digits [] figures d base.Two low high plain h = ap (λ z. (z + 48) ∷ (figures ++ (35 ∷ []))) h ∙ ap (λ z. 50 ∷ (z ++ (35 ∷ []))) plain
base_digits [] figures d base.Eight low high plain h = ap (λ z. (z + 48) ∷ (figures ++ (35 ∷ []))) h ∙ ap (λ z. 56 ∷ (z ++ (35 ∷ []))) plain
base_digits [] figures d base.Sixteen low high plain h = absurd (omega arith)
base_digits (e ∷ []) figures d base.Two low high plain h = absurd (omega arith)
base_digits (e ∷ []) figures d base.Eight low high plain h = absurd (omega arith)
base_digits (e ∷ []) figures d base.Sixteen low high (b, bs, digit, i, none) h =
    let facts = decimal b e digit in
    let second : e ≤ 9 = facts.2 in
    let ten : d ≡ 1 = omega arith in
    let six : e ≡ 6 = omega arith in
    ap (λ z. (z + 48) ∷ (figures ++ (35 ∷ []))) ten ∙ ap (λ z. 49 ∷ (z ++ (35 ∷ []))) (i ∙ ap (λ z. z ∷ bs) (facts.1 ∙ ap (λ z. z + 48) six) ∙ ap (λ z. 54 ∷ z) none)
base_digits (e ∷ g ∷ values) figures d x low high plain h = absurd (go x h)
  where
    large : 10 * (10 * d + e) + g ≤ number_from 10 (10 * (10 * d + e) + g) values
    large = no_smaller Bare (10 * (10 * d + e) + g) values

    go : (x : Base) → number_from 10 (10 * (10 * d + e) + g) values ≡ worth x → ⊥
    go base.Two h = let l : 10 * (10 * d + e) + g ≤ number_from 10 (10 * (10 * d + e) + g) values = large in omega arith
    go base.Eight h = let l : 10 * (10 * d + e) + g ≤ number_from 10 (10 * (10 * d + e) + g) values = large in omega arith
    go base.Sixteen h = let l : 10 * (10 * d + e) + g ≤ number_from 10 (10 * (10 * d + e) + g) values = large in omega arith

-- from the first digit of a number without a sign
pub first_back : (k : Option IlType) (n b : ℕ) (bs : List ℕ) (ts : List Placed) → is_digit b ≡ true → scanned_on n (first_digit k b) (on n b bs) ≡ Tokens ts → Counted k n (b ∷ bs) ts
first_back k n b bs ts c h = chosen n b bs ts (nat_eq b 48) _ _ h zero other
  where
    d : ℕ
    d = b - 48

    digit : below 10 (digit_of b) ≡ Some d
    digit = is_decimal b c

    facts : (is_digit b ≡ true) × (b ≡ d + 48) × (d ≤ 9)
    facts = decimal b d digit

    line : nat_eq b 10 ≡ false
    line = digit_differs 10 b 10 d digit refl

    bare : Further k Bare d n bs ts → Counted k n (b ∷ bs) ts
    bare x = (Bare, b ∷ bs, refl, digits_from k Bare n b d bs ts digit (subst (λ z. Further k Bare z n bs ts) (let e : d ≡ 10 * 0 + d = omega arith in e) x))

    hashed : nat_eq b 48 ≡ false → Hash k d n bs ts → Counted k n (b ∷ bs) ts
    hashed e x = (Based x.base, x.rest, front, based_back x.base k n x.rest ts x.behind)
      where
        some : 1 ≤ d
        some = let sum : b ≡ d + 48 = facts.1 in grind (arith, nat_tests)

        front : b ∷ bs ≡ front_bytes (Based x.base) ++ x.rest
        front = ap (λ z. z ∷ bs) facts.1 ∙ ap (λ z. (d + 48) ∷ z) (x.bytes ∙ sym (append_assoc x.figures (35 ∷ []) x.rest)) ∙ ap (λ z. z ++ x.rest) (base_digits x.values x.figures d x.base some facts.2 x.plain (named_worth (number_from 10 d x.values) x.base x.named))

    after : nat_eq b 48 ≡ false → After spelling.Plain k Bare d n bs ts → Counted k n (b ∷ bs) ts
    after e (inl x) = bare x
    after e (inr x) = hashed e x

    decimals : After spelling.Decimal k Bare d n bs ts → Counted k n (b ∷ bs) ts
    decimals (inl x) = bare x
    decimals (inr x) = absurd x

    zero : nat_eq b 48 ≡ true → scanned_on n (number_stands k spelling.Decimal (pos 0)) (on n b bs) ≡ Tokens ts → Counted k n (b ∷ bs) ts
    zero e h =
        let none : 0 ≡ d = ap (λ z. z - 48) (sym (eqb-true b 48 e)) in
        let now = stood k spelling.Decimal (pos d) n b bs ts line (ap (λ z. scanned_on n (number_stands k spelling.Decimal (pos z)) (on n b bs)) (sym none) ∙ h) in
        decimals (number_back bs k n ts false spelling.Decimal Bare d refl now.0 now.1)

    other : nat_eq b 48 ≡ false → scanned_on n (number_stands k spelling.Plain (pos d)) (on n b bs) ≡ Tokens ts → Counted k n (b ∷ bs) ts
    other e h =
        let now = stood k spelling.Plain (pos d) n b bs ts line h in
        after e (number_back bs k n ts false spelling.Plain Bare d refl now.0 now.1)

pub sign_back : (negative : Bool) (n : ℕ) (bs : List ℕ) (ts : List Placed) → scanned n (mode.Sign negative) bs ≡ Tokens ts → Digits None (Signed negative) n bs ts
sign_back negative n bs ts h = signed_back negative None n bs ts (sym (sign_scanned bs negative n) ∙ h)

-- after a type and #
pub typed_back : (k : IlType) (n : ℕ) (bs : List ℕ) (ts : List Placed) → scanned n (mode.Typed k) bs ≡ Tokens ts → Counted (Some k) n bs ts
typed_back k n [] ts h = absurd (cc)
typed_back k n (b ∷ bs) ts h =
    chosen n b bs ts (is_digit b) _ _ h (λ c h. first_back (Some k) n b bs ts c h) (λ c h.
    chosen n b bs ts (nat_eq b 43) _ _ h (sign 43 false refl refl) (λ c h.
    chosen n b bs ts (nat_eq b 45) _ _ h (sign 45 true refl refl) (λ c h. absurd (cc))))
  where
    sign : (x : ℕ) (negative : Bool) → nat_eq x 10 ≡ false → x ∷ [] ≡ front_bytes (Signed negative) → nat_eq b x ≡ true → scanned_on n (stands (mode.Number (Some k) (spelling.Signed negative) (pos 0) true)) (on n b bs) ≡ Tokens ts → Counted (Some k) n (b ∷ bs) ts
    sign x negative line front e h =
        let same : b ≡ x = eqb-true b x e in
        (Signed negative, bs, ap (λ z. z ∷ bs) same ∙ ap (λ z. z ++ bs) front, signed_back negative (Some k) n bs ts (went n b (mode.Number (Some k) (spelling.Signed negative) (pos 0) true) bs ts (ap (λ z. nat_eq z 10) same ∙ line) h))
