-- Where a word is scanned, its bytes spell it, or a type before a number.
use Rattle.std.proofs.Common.{◌≡◌, ◌⊎◌, ℕ, suc, ◌≤◌, Bool, true, false, ◌&&◌, ◌||◌, List, [], ◌∷◌, ◌++◌, length, map, Option, Some, None, refl, sym, ap, ◌∙◌, nat_eq, nat_lt, eqb-true, arith, append_assoc, append-nil, length-append, codes, inl, inr}
use Rattle.point_types.specs.declared.il_type.IlType.{IlType}
use Rattle.point_types.specs.Name.{folded, is_underscore, most_characters}
use Rattle.il_reader.specs.declared.lexer.Mode.{Mode}
use Rattle.il_reader.specs.declared.lexer.Mode.TheVariants as mode
use Rattle.il_reader.specs.declared.token.Token.{Token}
use Rattle.il_reader.specs.Tokens.{grows, keyword, literal_begun, literal_type, stands, word_ended, word_token}
use Rattle.il_reader.specs.Lexemes.{Ends, Placed, is_word_byte, line_ends, placed}
use Rattle.il_reader.specs.Literals.{AreDigits, IsNumber, IsTypeBefore, front_bytes, front_radix, literal_token, number_of}
use Rattle.il_reader.specs.Scanning.{Tokens, last_tokens, scanned, scanned_on}
use Rattle.il_reader.proofs.Scans.{Next, Others, chosen, lexeme_next, line_ends_joined, on, others_ended, went}
use Rattle.il_reader.proofs.LexemeNumbers.{digits_in_line, front_in_line}
use Rattle.il_reader.proofs.LexemeNumbersBack.{Counted, typed_back}
use Rattle.il_reader.proofs.LexemeWords.{no_line, type_in_line, word_in_line}

-- Numbers at the front of a text, with or without a type.

digits_some : (r : ℕ) (own ds : List ℕ) → AreDigits r own ds → 1 ≤ length own
digits_some r own [] h = absurd h
digits_some r own (d ∷ ds) (b, bs, digit, e, more) = let size : length own ≡ suc (length bs) = ap length e in omega arith

pub number_next : (k : Option IlType) (before behind : List ℕ) (n b : ℕ) (bs : List ℕ) (ts : List Placed) → IsTypeBefore k before → line_ends before ≡ 0 → before ++ behind ≡ b ∷ bs → Counted k n behind ts → Next n b bs ts
number_next k before behind n b bs ts typed line e (f, more, front, digits) = lexeme_next own digits.rest spelled n b bs ts whole some (inl (inr number, digits.ends)) in_line digits.others
  where
    own : List ℕ
    own = before ++ front_bytes f ++ digits.figures

    spelled : Token
    spelled = literal_token k f (number_of f digits.values)

    number : IsNumber own spelled
    number = record {
      kind = k;
      front = f;
      before = before;
      figures = digits.figures;
      values = digits.values;
      bytes = refl;
      typed = typed;
      digits = digits.digits;
      within = digits.within;
      spelled = refl;
    }

    whole : own ++ digits.rest ≡ b ∷ bs
    whole = append_assoc (before ++ front_bytes f) digits.figures digits.rest ∙ append_assoc before (front_bytes f) (digits.figures ++ digits.rest) ∙ ap (λ z. before ++ (front_bytes f ++ z)) (sym digits.bytes) ∙ ap (λ z. before ++ z) (sym front) ∙ e

    some : 1 ≤ length own
    some = let figures : 1 ≤ length digits.figures = digits_some (front_radix f) digits.figures digits.values digits.digits in omega (arith, length-append (before ++ front_bytes f) digits.figures)

    in_line : line_ends own ≡ 0
    in_line = line_ends_joined (before ++ front_bytes f) digits.figures (line_ends_joined before (front_bytes f) line (front_in_line f)) (digits_in_line (front_radix f) digits.figures digits.values digits.digits)

-- The rest of a word.

record Whole (w : List ℕ) (n : ℕ) (bs : List ℕ) (ts : List Placed) : Type 0 where
  more : List ℕ
  rest : List ℕ
  token : Token
  bytes : bs ≡ more ++ rest
  spelled : word_token (w ++ map folded more) ≡ Some token
  ends : Ends rest
  others : Others n token rest ts

record Before (w : List ℕ) (n : ℕ) (bs : List ℕ) (ts : List Placed) : Type 0 where
  more : List ℕ
  rest : List ℕ
  kind : IlType
  bytes : bs ≡ more ++ (35 ∷ rest)
  typed : literal_type (keyword (w ++ map folded more)) ≡ Some kind
  behind : scanned n (mode.Typed kind) rest ≡ Tokens ts

abbrev Rest : List ℕ → ℕ → List ℕ → List Placed → Type 0
Rest w n bs ts = Whole w n bs ts ⊎ Before w n bs ts

longer : (w : List ℕ) (n b : ℕ) (bs : List ℕ) (ts : List Placed) → Rest (w ++ folded b ∷ []) n bs ts → Rest w n (b ∷ bs) ts
longer w n b bs ts (inl x) = inl (record {
  more = b ∷ x.more;
  rest = x.rest;
  token = x.token;
  bytes = ap (λ z. b ∷ z) x.bytes;
  spelled = ap word_token (sym (append_assoc w (folded b ∷ []) (map folded x.more))) ∙ x.spelled;
  ends = x.ends;
  others = x.others;
})
longer w n b bs ts (inr x) = inr (record {
  more = b ∷ x.more;
  rest = x.rest;
  kind = x.kind;
  bytes = ap (λ z. b ∷ z) x.bytes;
  typed = ap (λ z. literal_type (keyword z)) (sym (append_assoc w (folded b ∷ []) (map folded x.more))) ∙ x.typed;
  behind = x.behind;
})

whole_here : (w : List ℕ) (n : ℕ) (bs : List ℕ) (ts : List Placed) (t : Token) → word_token w ≡ Some t → Ends bs → Others n t bs ts → Rest w n bs ts
whole_here w n bs ts t e ends others = inl (record {
  more = [];
  rest = bs;
  token = t;
  bytes = refl;
  spelled = ap word_token (append-nil w) ∙ e;
  ends = ends;
  others = others;
})

byte_on : (w : List ℕ) (gap : Bool) (n b : ℕ) (bs : List ℕ) (ts : List Placed) → ((next : Bool) → scanned n (mode.Word (w ++ folded b ∷ []) next) bs ≡ Tokens ts → Rest (w ++ folded b ∷ []) n bs ts) → scanned n (mode.Word w gap) (b ∷ bs) ≡ Tokens ts → Rest w n (b ∷ bs) ts
byte_on w gap n b bs ts known h =
    chosen n b bs ts (is_word_byte b) _ _ h (λ c h.
    chosen n b bs ts (gap && is_underscore (folded b)) _ _ h (λ d h. absurd (cc)) (λ d h.
    chosen n b bs ts (nat_lt (length w) most_characters) _ _ h (λ e h. more c h) (λ e h. absurd (cc)))) (λ c h.
    chosen n b bs ts (nat_eq b 35) _ _ h (λ d h. typed (literal_type (keyword w)) refl (eqb-true b 35 d) h) (λ d h. ends (word_token w) refl (ap (λ z. z || nat_eq b 35) c ∙ d) h))
  where
    next : Mode
    next = mode.Word (w ++ folded b ∷ []) (is_underscore (folded b))

    more : is_word_byte b ≡ true → scanned_on n (stands next) (on n b bs) ≡ Tokens ts → Rest w n (b ∷ bs) ts
    more e h = longer w n b bs ts (known (is_underscore (folded b)) (went n b next bs ts (no_line b e) h))

    ends : (x : Option Token) → word_token w ≡ x → (is_word_byte b || nat_eq b 35) ≡ false → scanned_on n (word_ended x b) (on n b bs) ≡ Tokens ts → Rest w n (b ∷ bs) ts
    ends (Some t) e over h = whole_here w n (b ∷ bs) ts t e over (others_ended n b bs t ts h)
    ends None e over h = absurd (cc)

    typed : (x : Option IlType) → literal_type (keyword w) ≡ x → b ≡ 35 → scanned_on n (literal_begun x) (on n b bs) ≡ Tokens ts → Rest w n (b ∷ bs) ts
    typed (Some k) e same h = inr (record {
      more = [];
      rest = bs;
      kind = k;
      bytes = ap (λ z. z ∷ bs) same;
      typed = ap (λ z. literal_type (keyword z)) (append-nil w) ∙ e;
      behind = went n b (mode.Typed k) bs ts (ap (λ z. nat_eq z 10) same) h;
    })
    typed None e same h = absurd (cc)

word_back : (bs w : List ℕ) (gap : Bool) (n : ℕ) (ts : List Placed) → scanned n (mode.Word w gap) bs ≡ Tokens ts → Rest w n bs ts
word_back [] w gap n ts h = go (word_token w) refl h
  where
    go : (x : Option Token) → word_token w ≡ x → last_tokens n (grows x) ≡ Tokens ts → Rest w n [] ts
    go (Some t) e h = let same : placed t n ∷ [] ≡ ts = cc in whole_here w n [] ts t e refl (record { others = []; behind = refl; tokens = sym same })
    go None e h = absurd (cc)
word_back (b ∷ bs) w gap n ts h = byte_on w gap n b bs ts (λ next k. word_back bs (w ++ folded b ∷ []) next n ts k) h

-- from a word's first byte
pub word_next : (gap : Bool) (n b : ℕ) (bs : List ℕ) (ts : List Placed) → scanned n (mode.Word (folded b ∷ []) gap) bs ≡ Tokens ts → Next n b bs ts
word_next gap n b bs ts h = go (word_back bs (folded b ∷ []) gap n ts h)
  where
    go : Rest (folded b ∷ []) n bs ts → Next n b bs ts
    go (inl x) = lexeme_next (b ∷ x.more) x.rest x.token n b bs ts (ap (λ z. b ∷ z) (sym x.bytes)) (omega arith) (inl (inl x.spelled, x.ends)) (word_in_line (b ∷ x.more) x.token x.spelled) x.others
    go (inr x) =
        number_next (Some x.kind) (b ∷ x.more ++ codes "#") x.rest n b bs ts (b ∷ x.more, refl, x.typed) (line_ends_joined (b ∷ x.more) (codes "#") (type_in_line (b ∷ x.more) x.kind x.typed) refl) (ap (λ z. b ∷ z) (append_assoc x.more (codes "#") x.rest ∙ sym x.bytes)) (typed_back x.kind n x.rest ts x.behind)
