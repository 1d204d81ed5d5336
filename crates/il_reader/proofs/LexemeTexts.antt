-- The tokens of a text, by its pieces and by its bytes.
use Rattle.std.proofs.Common.{◌≡◌, ℕ, zero, suc, ◌+◌, ◌≤◌, List, [], ◌∷◌, ◌++◌, length, map, Option, Some, None, refl, sym, ap, ◌∙◌, subst, arith, append_assoc, length-append, codes, inl, inr}
use Rattle.point_types.specs.declared.il_type.IlType.{IlType}
use Rattle.point_types.specs.Name.{folded, is_digit, is_letter, is_underscore}
use Rattle.il_reader.specs.declared.lexer.Mode.TheVariants as mode
use Rattle.il_reader.specs.declared.token.Token.{Token}
use Rattle.il_reader.specs.Tokens.{keyword}
use Rattle.il_reader.specs.Laws.{TokensAreLexemes}
use Rattle.il_reader.specs.Lexemes.{AreLexemes, Ends, IsLexeme, Lexeme, Placed, bytes_of, line_ends, of_line, placed, placed_from}
use Rattle.il_reader.specs.Literals.{AreDigits, Front, IsNumber, IsTypeBefore, front_bytes, front_radix, literal_token, number_of}
use Rattle.il_reader.specs.Scanning.{Tokens, joined, scanned, tokens_of}
use Rattle.il_reader.proofs.Scans.{Next, chosen, differs, joined_none, line_ends_joined, same_line, went}
use Rattle.il_reader.proofs.LexemeBlanks.{blank_scanned}
use Rattle.il_reader.proofs.LexemeMarks.{mark_scanned}
use Rattle.il_reader.proofs.LexemeMarksBack.{opening_next}
use Rattle.il_reader.proofs.LexemeNumbers.{IsIn, digits_in_line, front_in_line}
use Rattle.il_reader.proofs.LexemeNumbersForth.{number_scanned}
use Rattle.il_reader.proofs.LexemeNumbersBack.{first_back}
use Rattle.il_reader.proofs.LexemeWords.{type_in_line, type_is_whole, type_scanned, word_in_line, word_scanned}
use Rattle.il_reader.proofs.LexemeWordsBack.{number_next, word_next}

-- From pieces to what is scanned.

type_before_in_line : (k : Option IlType) (before : List ℕ) → IsTypeBefore k before → line_ends before ≡ 0
type_before_in_line None before h = ap line_ends h
type_before_in_line (Some k) before (w, e, h) = ap line_ends e ∙ line_ends_joined w (codes "#") (type_in_line w k h) refl

literal_scanned : (k : Option IlType) (f : Front) (before figures values behind : List ℕ) (n : ℕ) → IsTypeBefore k before → AreDigits (front_radix f) figures values → Ends behind → IsIn k (number_of f values) → scanned n mode.Clear (before ++ (front_bytes f ++ (figures ++ behind))) ≡ joined (placed (literal_token k f (number_of f values)) n ∷ []) (scanned n mode.Clear behind)
literal_scanned None f before figures values behind n e digits ends within = ap (λ z. scanned n mode.Clear (z ++ (front_bytes f ++ (figures ++ behind)))) e ∙ number_scanned f None figures values behind n tt digits ends within
literal_scanned (Some k) f before figures values behind n (w, e, h) digits ends within =
    ap (λ z. scanned n mode.Clear (z ++ (front_bytes f ++ (figures ++ behind)))) e ∙ ap (scanned n mode.Clear) (append_assoc w (codes "#") (front_bytes f ++ (figures ++ behind))) ∙ type_scanned w (front_bytes f ++ (figures ++ behind)) k n h ∙ number_scanned f (Some k) figures values behind n (type_is_whole (keyword (map folded w)) k h) digits ends within

-- the line after a token that has no line end
in_line : (own behind : List ℕ) (t : Token) (n : ℕ) → line_ends own ≡ 0 → scanned n mode.Clear (own ++ behind) ≡ joined (placed t n ∷ []) (scanned n mode.Clear behind) → scanned n mode.Clear (own ++ behind) ≡ joined (placed t n ∷ []) (scanned (n + line_ends own) mode.Clear behind)
in_line own behind t n line e = e ∙ ap (joined (placed t n ∷ [])) (same_line n own behind line)

number_lexeme : (own behind : List ℕ) (t : Token) (n : ℕ) → IsNumber own t → Ends behind → scanned n mode.Clear (own ++ behind) ≡ joined (placed t n ∷ []) (scanned (n + line_ends own) mode.Clear behind)
number_lexeme own behind t n x ends = in_line own behind t n line (ap (scanned n mode.Clear) parts ∙ literal_scanned x.kind x.front x.before x.figures x.values behind n x.typed x.digits ends x.within ∙ ap (λ z. joined (placed z n ∷ []) (scanned n mode.Clear behind)) x.spelled)
  where
    parts : own ++ behind ≡ x.before ++ (front_bytes x.front ++ (x.figures ++ behind))
    parts = ap (λ z. z ++ behind) x.bytes ∙ append_assoc (x.before ++ front_bytes x.front) x.figures behind ∙ append_assoc x.before (front_bytes x.front) (x.figures ++ behind)

    line : line_ends own ≡ 0
    line = ap line_ends x.bytes ∙ line_ends_joined (x.before ++ front_bytes x.front) x.figures (line_ends_joined x.before (front_bytes x.front) (type_before_in_line x.kind x.before x.typed) (front_in_line x.front)) (digits_in_line (front_radix x.front) x.figures x.values x.digits)

lexeme_scanned : (own behind : List ℕ) (t : Option Token) (n : ℕ) → IsLexeme own behind t → scanned n mode.Clear (own ++ behind) ≡ joined (of_line n t) (scanned (n + line_ends own) mode.Clear behind)
lexeme_scanned own behind None n h = blank_scanned own behind n h ∙ sym (joined_none (scanned (n + line_ends own) mode.Clear behind))
lexeme_scanned own behind (Some t) n (inl (inl e, ends)) = in_line own behind t n (word_in_line own t e) (word_scanned own behind t n e ends)
lexeme_scanned own behind (Some t) n (inl (inr x, ends)) = number_lexeme own behind t n x ends
lexeme_scanned own behind (Some t) n (inr h) = mark_scanned t own behind n h

lexemes_scanned : (xs : List Lexeme) (n : ℕ) → AreLexemes xs → scanned n mode.Clear (bytes_of xs) ≡ Tokens (placed_from n xs)
lexemes_scanned [] n h = refl
lexemes_scanned (x ∷ xs) n (h, more) = lexeme_scanned x.own (bytes_of xs) x.spells n h ∙ ap (joined (of_line n x.spells)) (lexemes_scanned xs (n + line_ends x.own) more)

-- From what is scanned to pieces.

next : (n b : ℕ) (bs : List ℕ) (ts : List Placed) → scanned n mode.Clear (b ∷ bs) ≡ Tokens ts → Next n b bs ts
next n b bs ts h =
    chosen n b bs ts (is_letter (folded b)) _ _ h (λ c h. word_next (is_underscore (folded b)) n b bs ts (went n b (mode.Word (folded b ∷ []) (is_underscore (folded b))) bs ts (differs (λ z. is_letter (folded z)) b 10 c refl) h)) (λ c h.
    chosen n b bs ts (is_digit b) _ _ h (λ c h. number_next None [] (b ∷ bs) n b bs ts refl refl refl (first_back None n b bs ts c h)) (λ c h. opening_next n b bs ts h))

-- the pieces of a text, whose first byte stands in line n, and their tokens
abbrev AreOf : ℕ → List ℕ → List Placed → Type 0
AreOf n text ts = (xs : List Lexeme) × (text ≡ bytes_of xs) × AreLexemes xs × (ts ≡ placed_from n xs)

with_next : (n b : ℕ) (bs : List ℕ) (ts : List Placed) → (x : Next n b bs ts) → AreOf (n + line_ends (b ∷ x.own)) x.rest x.others → AreOf n (b ∷ bs) ts
with_next n b bs ts x (xs, e, are, p) =
    (record { own = b ∷ x.own; spells = x.spells } ∷ xs, ap (λ z. b ∷ z) (x.bytes ∙ ap (λ z. x.own ++ z) e), (subst (λ z. IsLexeme (b ∷ x.own) z x.spells) e x.lexeme, are), x.tokens ∙ ap (λ z. of_line n x.spells ++ z) p)

pieces : (most : ℕ) (text : List ℕ) (n : ℕ) (ts : List Placed) → length text ≤ most → scanned n mode.Clear text ≡ Tokens ts → AreOf n text ts
pieces most [] n ts few h = let none : ts ≡ [] = cc in ([], refl, tt, none)
pieces zero (b ∷ bs) n ts few h = absurd (omega arith)
pieces (suc most) (b ∷ bs) n ts few h = go (next n b bs ts h) (λ rest l us few h. pieces most rest l us few h)
  where
    go : (x : Next n b bs ts) → ((rest : List ℕ) (l : ℕ) (us : List Placed) → length rest ≤ most → scanned l mode.Clear rest ≡ Tokens us → AreOf l rest us) → AreOf n (b ∷ bs) ts
    go x more =
        let size : length bs ≡ length x.own + length x.rest = ap length x.bytes ∙ length-append x.own x.rest in
        let all : suc (length bs) ≤ suc most = few in
        with_next n b bs ts x (more x.rest (n + line_ends (b ∷ x.own)) x.others (omega arith) x.behind)

pub tokens_are_lexemes : TokensAreLexemes
tokens_are_lexemes text ts = (λ h. pieces (length text) text 1 ts (omega arith) h, λ (xs, e, are, p). ap tokens_of e ∙ lexemes_scanned xs 1 are ∙ ap Tokens (sym p))
