-- Steps of a scan: bytes that go on, and bytes that end a token.
use Rattle.std.proofs.Common.{◌≡◌, ℕ, suc, ◌+◌, Bool, true, false, ◌&&◌, ◌||◌, not, ◌≤◌, List, [], ◌∷◌, ◌++◌, length, Option, Some, None, Result, Ok, Err, refl, sym, ap, ◌∙◌, subst, if◌then◌else◌, nat_eq, eqb-true, true≢false, arith, add-zero}
use Rattle.std.specs.List.{list_all}
use Rattle.point_types.specs.declared.il_type.IlType.{IlType}
use Rattle.point_types.specs.Name.{folded, is_digit, is_letter}
use Rattle.point_types.specs.Value.{is_within, low_of, high_of}
use Rattle.il_reader.specs.declared.lexer.ByteFault.{ByteFault}
use Rattle.il_reader.specs.declared.lexer.Lexed.{Lexed}
use Rattle.il_reader.specs.declared.lexer.Mode.{Mode}
use Rattle.il_reader.specs.declared.lexer.Mode.TheVariants as mode
use Rattle.il_reader.specs.declared.numeral.Spelling.TheVariants as spelling
use Rattle.il_reader.specs.declared.token.Token.{Token}
use Rattle.std.specs.Prelude.{pos, ℤ, ◌-◌}
use Rattle.il_reader.specs.declared.numeral.Spelling.{Spelling}
use Rattle.il_reader.specs.Tokens.{ended_by, first_byte, first_digit, lexed, limits_of, line_behind, mark_of, number_stands, opening_of, stands}
use Rattle.il_reader.specs.Lexemes.{IsLexeme, Placed, line_ends, of_line, placed}
use Rattle.il_reader.specs.Scanning.{NoTokens, Scan, Tokens, joined, scanned, scanned_on}

-- Tests.

pub and_left : (a b : Bool) → (a && b) ≡ true → a ≡ true
and_left true b h = refl
and_left false b h = h

pub and_right : (a b : Bool) → (a && b) ≡ true → b ≡ true
and_right true b h = h
and_right false b h = absurd (true≢false (sym h))

pub or_left : (a b : Bool) → (a || b) ≡ false → a ≡ false
or_left false b h = refl
or_left true b h = h

pub or_right : (a b : Bool) → (a || b) ≡ false → b ≡ false
or_right false b h = h
or_right true b h = absurd (true≢false h)

pub not_true : (a : Bool) → not a ≡ true → a ≡ false
not_true false h = refl
not_true true h = absurd (true≢false (sym h))

-- what is chosen
pub taken : {A : Type 0} (c : Bool) (x y : A) → c ≡ true → (if c then x else y) ≡ x
taken true x y h = refl
taken false x y h = absurd (true≢false (sym h))

pub passed : {A : Type 0} (c : Bool) (x y : A) → c ≡ false → (if c then x else y) ≡ y
passed false x y h = refl
passed true x y h = absurd (true≢false h)

-- a byte that passes a test is none that doesn't
pub differs : (test : ℕ → Bool) (b c : ℕ) → test b ≡ true → test c ≡ false → nat_eq b c ≡ false
differs test b c h k = go (nat_eq b c) refl
  where
    go : (e : Bool) → nat_eq b c ≡ e → e ≡ false
    go false w = refl
    go true w = absurd (true≢false (sym h ∙ ap test (eqb-true b c w) ∙ k))

-- One byte.

pub joined_none : (z : Scan) → joined [] z ≡ z
joined_none (Tokens us) = refl
joined_none NoTokens = refl

-- what is scanned after a byte
abbrev pub on : ℕ → ℕ → List ℕ → Mode → Scan
on n b bs q = scanned (line_behind b n) q bs

-- a byte that ends nothing and is no line's end
pub goes : (n b : ℕ) (q r : Mode) (bs : List ℕ) → lexed q b ≡ stands r → nat_eq b 10 ≡ false → scanned n q (b ∷ bs) ≡ scanned n r bs
goes n b q r bs e c = ap (λ z. scanned_on n z (on n b bs)) e ∙ joined_none (on n b bs r) ∙ ap (λ z. scanned (if z then suc n else n) r bs) c

abbrev EndsNone : Result Lexed ByteFault → Type 0
EndsNone (Ok x) = x.ended ≡ None
EndsNone (Err k) = Unit {0}

either : (c : Bool) (x y : Result Lexed ByteFault) → EndsNone x → EndsNone y → EndsNone (if c then x else y)
either true x y h k = h
either false x y h k = k

number_ends_none : (k : Option IlType) (s : Spelling) (n : ℤ) → EndsNone (number_stands k s n)
number_ends_none k s n = either (is_within (low_of (limits_of k)) (high_of (limits_of k)) n) (stands (mode.Number k s n false)) _ refl tt

digit_ends_none : (k : Option IlType) (b : ℕ) → EndsNone (first_digit k b)
digit_ends_none k b = either (nat_eq b 48) (number_stands k spelling.Decimal (pos 0)) (number_stands k spelling.Plain (pos (b - 48))) (number_ends_none k spelling.Decimal (pos 0)) (number_ends_none k spelling.Plain (pos (b - 48)))

mark_ends_none : (b : ℕ) → EndsNone (mark_of b)
mark_ends_none b = either (nat_eq b 10) _ _ refl (either (nat_eq b 44) _ _ refl (either (nat_eq b 59) _ _ refl (either (nat_eq b 41) _ _ refl (either (nat_eq b 123) _ _ refl (either (nat_eq b 125) _ _ refl tt)))))

opening_ends_none : (b : ℕ) → EndsNone (opening_of b)
opening_ends_none b =
    either (nat_eq b 32 || nat_eq b 9) _ _ refl (either (nat_eq b 13) _ _ refl (either (nat_eq b 40) _ _ refl (either (nat_eq b 58) _ _ refl
    (either (nat_eq b 46) _ _ refl (either (nat_eq b 38) _ _ refl (either (nat_eq b 43) _ _ refl (either (nat_eq b 45) _ _ refl (mark_ends_none b))))))))

first_ends_none : (b : ℕ) → EndsNone (first_byte b)
first_ends_none b = either (is_letter (folded b)) _ _ refl (either (is_digit b) (first_digit None b) (opening_of b) (digit_ends_none None b) (opening_ends_none b))

-- a byte after a token
pub ended : (n b : ℕ) (bs : List ℕ) (t : Token) → scanned_on n (ended_by t (first_byte b)) (on n b bs) ≡ joined (placed t n ∷ []) (scanned n mode.Clear (b ∷ bs))
ended n b bs t = go (first_byte b) (first_ends_none b)
  where
    parts : (e own : Option Token) (z : Scan) → e ≡ None → joined (placed t n ∷ of_line n own) z ≡ joined (placed t n ∷ []) (joined (of_line n e ++ of_line n own) z)
    parts None own (Tokens us) h = refl
    parts None own NoTokens h = refl
    parts (Some u) own z h = absurd (cc)

    go : (x : Result Lexed ByteFault) → EndsNone x → scanned_on n (ended_by t x) (on n b bs) ≡ joined (placed t n ∷ []) (scanned_on n x (on n b bs))
    go (Ok x) h = parts x.ended x.own (on n b bs x.mode) h
    go (Err k) h = refl

-- What a scan that gives tokens says of its first byte.

-- the tokens after a first one
pub record Others (n : ℕ) (t : Token) (bs : List ℕ) (ts : List Placed) : Type 0 where
  pub others : List Placed
  pub behind : scanned n mode.Clear bs ≡ Tokens others
  pub tokens : ts ≡ placed t n ∷ others

joins : (n : ℕ) (t : Token) (bs : List ℕ) (ts : List Placed) (z : Scan) → scanned n mode.Clear bs ≡ z → joined (placed t n ∷ []) z ≡ Tokens ts → Others n t bs ts
joins n t bs ts (Tokens us) e h = record { others = us; behind = e; tokens = cc }
joins n t bs ts NoTokens e h = absurd (cc)

pub others_joined : (n : ℕ) (t : Token) (bs : List ℕ) (ts : List Placed) → joined (placed t n ∷ []) (scanned n mode.Clear bs) ≡ Tokens ts → Others n t bs ts
others_joined n t bs ts h = joins n t bs ts (scanned n mode.Clear bs) refl h

pub others_ended : (n b : ℕ) (bs : List ℕ) (t : Token) (ts : List Placed) → scanned_on n (ended_by t (first_byte b)) (on n b bs) ≡ Tokens ts → Others n t (b ∷ bs) ts
others_ended n b bs t ts h = others_joined n t (b ∷ bs) ts (sym (ended n b bs t) ∙ h)

-- a byte that ends nothing and is no line's end
pub went : (n b : ℕ) (q : Mode) (bs : List ℕ) (ts : List Placed) → nat_eq b 10 ≡ false → scanned_on n (stands q) (on n b bs) ≡ Tokens ts → scanned n q bs ≡ Tokens ts
went n b q bs ts c h = sym (joined_none (on n b bs q) ∙ ap (λ z. scanned (if z then suc n else n) q bs) c) ∙ h

-- what is scanned of a choice
pub chosen : {G : Type 0} (n b : ℕ) (bs : List ℕ) (ts : List Placed) (c : Bool) (x y : Result Lexed ByteFault) → scanned_on n (if c then x else y) (on n b bs) ≡ Tokens ts → (c ≡ true → scanned_on n x (on n b bs) ≡ Tokens ts → G) → (c ≡ false → scanned_on n y (on n b bs) ≡ Tokens ts → G) → G
chosen n b bs ts true x y h f g = f refl h
chosen n b bs ts false x y h f g = g refl h

-- The first lexeme of a text that begins with b, and its tokens.
pub record Next (n b : ℕ) (bs : List ℕ) (ts : List Placed) : Type 0 where
  pub own : List ℕ
  pub rest : List ℕ
  pub spells : Option Token
  pub others : List Placed
  pub bytes : bs ≡ own ++ rest
  pub lexeme : IsLexeme (b ∷ own) rest spells
  pub behind : scanned (n + line_ends (b ∷ own)) mode.Clear rest ≡ Tokens others
  pub tokens : ts ≡ of_line n spells ++ others

-- Lines.

-- the line after a byte, and after others
pub lines_on : (b n k : ℕ) → line_behind b n + k ≡ n + (if nat_eq b 10 then suc k else k)
lines_on b n k = go (nat_eq b 10)
  where
    go : (c : Bool) → (if c then suc n else n) + k ≡ n + (if c then suc k else k)
    go true = omega arith
    go false = refl

pub same_line : (n : ℕ) (bs rest : List ℕ) → line_ends bs ≡ 0 → scanned n mode.Clear rest ≡ scanned (n + line_ends bs) mode.Clear rest
same_line n bs rest e = ap (λ z. scanned z mode.Clear rest) (sym (ap (λ z. n + z) e ∙ add-zero n))

pub line_ends_joined : (xs bs : List ℕ) → line_ends xs ≡ 0 → line_ends bs ≡ 0 → line_ends (xs ++ bs) ≡ 0
line_ends_joined [] bs g h = h
line_ends_joined (a ∷ xs) bs g h = go (nat_eq a 10) refl g (λ g. line_ends_joined xs bs g h)
  where
    go : (c : Bool) → nat_eq a 10 ≡ c → (if c then suc (line_ends xs) else line_ends xs) ≡ 0 → (line_ends xs ≡ 0 → line_ends (xs ++ bs) ≡ 0) → (if c then suc (line_ends (xs ++ bs)) else line_ends (xs ++ bs)) ≡ 0
    go false e g k = k g
    go true e g k = absurd (omega arith)

-- bytes that pass a test that a line's end doesn't
pub no_line_ends : (test : ℕ → Bool) (bs : List ℕ) → test 10 ≡ false → list_all test bs ≡ true → line_ends bs ≡ 0
no_line_ends test [] k h = refl
no_line_ends test (b ∷ bs) k h = ap (λ z. if z then suc (line_ends bs) else line_ends bs) (differs test b 10 (and_left (test b) (list_all test bs) h) k) ∙ no_line_ends test bs k (and_right (test b) (list_all test bs) h)

-- a token's bytes, which have no line end, at the front of a text
pub lexeme_next : (own rest : List ℕ) (t : Token) (n b : ℕ) (bs : List ℕ) (ts : List Placed) → own ++ rest ≡ b ∷ bs → 1 ≤ length own → IsLexeme own rest (Some t) → line_ends own ≡ 0 → Others n t rest ts → Next n b bs ts
lexeme_next [] rest t n b bs ts e some lexeme line others = absurd (omega arith)
lexeme_next (x ∷ own) rest t n b bs ts e some lexeme line others =
    let first : x ≡ b = cc in
    let more : bs ≡ own ++ rest = cc in
    subst (λ z. Next n z bs ts) first (record {
      own = own;
      rest = rest;
      spells = Some t;
      others = others.others;
      bytes = more;
      lexeme = lexeme;
      behind = sym (same_line n (x ∷ own) rest line) ∙ others.behind;
      tokens = others.tokens;
    })
