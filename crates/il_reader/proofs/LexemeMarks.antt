-- Marks: line ends, punctuation and the ampersand.
use Rattle.std.proofs.Common.{◌≡◌, ◌⊎◌, ℕ, suc, ◌+◌, Bool, true, false, not, ◌&&◌, ◌||◌, List, [], ◌∷◌, ◌++◌, Some, Ok, refl, sym, ap, ◌∙◌, subst, if◌then◌else◌, nat_eq, eqb-true, arith, add-zero, inl, inr}
use Rattle.point_types.specs.Name.{folded, is_underscore}
use Rattle.point_types.specs.declared.operator.Operator.TheVariants as op
use Rattle.il_reader.specs.declared.lexer.Mode.{Mode}
use Rattle.il_reader.specs.declared.lexer.Mode.TheVariants as mode
use Rattle.il_reader.specs.declared.token.Keyword.TheVariants as word
use Rattle.il_reader.specs.declared.token.Token.{Token}
use Rattle.il_reader.specs.declared.token.Token.TheVariants as token
use Rattle.il_reader.specs.Tokens.{and_token, at_end, ended_by, first_byte, gives, lexed, line_behind, stands, word_byte}
use Rattle.il_reader.specs.Lexemes.{IsMark, is_lone_n, is_n, is_word_byte, line_ends, placed, starts}
use Rattle.il_reader.specs.Scanning.{joined, last_tokens, scanned, scanned_on}
use Rattle.il_reader.proofs.Scans.{differs, ended, goes, lines_on, on, passed, taken}
use Rattle.il_reader.proofs.LexemeWords.{character, no_line}

-- A token of one byte, or one that its last byte completes.

pub given : (q : Mode) (b n : ℕ) (t : Token) (behind : List ℕ) → lexed q b ≡ gives t → scanned n q (b ∷ behind) ≡ joined (placed t n ∷ []) (scanned (n + line_ends (b ∷ [])) mode.Clear behind)
given q b n t behind e =
    ap (λ z. scanned_on n z (on n b behind)) e ∙ ap (λ z. joined (placed t n ∷ []) (scanned z mode.Clear behind)) (let zero : line_behind b n ≡ line_behind b n + 0 = omega arith in zero ∙ lines_on b n 0)

-- the line isn't left by a byte that is no line end
stays : (n : ℕ) (t : Token) (behind : List ℕ) → joined (placed t n ∷ []) (scanned n mode.Clear behind) ≡ joined (placed t n ∷ []) (scanned (n + 0) mode.Clear behind)
stays n t behind = ap (λ z. joined (placed t n ∷ []) (scanned z mode.Clear behind)) (sym (add-zero n))

-- A token that the byte after it ends.

abbrev pub IsEndedBy : Mode → Token → List ℕ → Type 0
IsEndedBy q t [] = at_end q ≡ Ok (Some t)
IsEndedBy q t (b ∷ bs) = lexed q b ≡ ended_by t (first_byte b)

pub ended_scanned : (q : Mode) (t : Token) (n : ℕ) (behind : List ℕ) → IsEndedBy q t behind → scanned n q behind ≡ joined (placed t n ∷ []) (scanned n mode.Clear behind)
ended_scanned q t n [] e = ap (last_tokens n) e
ended_scanned q t n (b ∷ bs) e = ap (λ z. scanned_on n z (on n b bs)) e ∙ ended n b bs t

pub colon_ended : (behind : List ℕ) → starts (λ b. nat_eq b 61) behind ≡ false → IsEndedBy mode.Colon token.Colon behind
colon_ended [] h = refl
colon_ended (b ∷ bs) h = passed (nat_eq b 61) _ _ h

pub open_ended : (behind : List ℕ) → starts (λ b. nat_eq b 42) behind ≡ false → IsEndedBy mode.Bracket token.Open behind
open_ended [] h = refl
open_ended (b ∷ bs) h = passed (nat_eq b 42) _ _ h

pub and_n_ended : (behind : List ℕ) → starts is_word_byte behind ≡ false → IsEndedBy mode.AndNot (and_token true) behind
and_n_ended [] h = refl
and_n_ended (b ∷ bs) h = passed (is_word_byte b) _ _ h

pub and_ended : (b : ℕ) (bs : List ℕ) → is_n b ≡ false → IsEndedBy mode.And (and_token false) (b ∷ bs)
and_ended b bs h = passed (is_n b) _ _ h

-- an N in either case
n_is : (b : ℕ) → is_n b ≡ true → (b ≡ 78) ⊎ (b ≡ 110)
n_is b h = go (nat_eq b 78) refl h
  where
    go : (c : Bool) → nat_eq b 78 ≡ c → (c || nat_eq b 110) ≡ true → (b ≡ 78) ⊎ (b ≡ 110)
    go true c h = inl (eqb-true b 78 c)
    go false c h = inr (eqb-true b 110 h)

n_begins : (b n : ℕ) (bs : List ℕ) → is_n b ≡ true → scanned n mode.Clear (b ∷ bs) ≡ scanned n (mode.Word (110 ∷ []) false) bs
n_begins b n bs h = go (n_is b h)
  where
    go : (b ≡ 78) ⊎ (b ≡ 110) → scanned n mode.Clear (b ∷ bs) ≡ scanned n (mode.Word (110 ∷ []) false) bs
    go (inl e) = ap (λ z. scanned n mode.Clear (z ∷ bs)) e ∙ goes n 78 mode.Clear (mode.Word (110 ∷ []) false) bs refl refl
    go (inr e) = ap (λ z. scanned n mode.Clear (z ∷ bs)) e ∙ goes n 110 mode.Clear (mode.Word (110 ∷ []) false) bs refl refl

-- after &N a word goes on with the N
pub and_word : (b c n : ℕ) (bs : List ℕ) → is_n b ≡ true → is_word_byte c ≡ true → scanned n mode.AndNot (c ∷ bs) ≡ joined (placed (and_token false) n ∷ []) (scanned n mode.Clear (b ∷ c ∷ bs))
and_word b c n bs h w =
    ap (λ z. scanned_on n z (on n c bs)) (taken (is_word_byte c) _ _ w)
    ∙ ap (λ z. scanned_on n (ended_by (and_token false) z) (on n c bs)) more
    ∙ ap (λ z. joined (placed (and_token false) n ∷ []) (scanned (if z then suc n else n) next bs)) (no_line c w)
    ∙ ap (joined (placed (and_token false) n ∷ [])) (sym (n_begins b n (c ∷ bs) h ∙ goes n c (mode.Word (110 ∷ []) false) next bs more (no_line c w)))
  where
    next : Mode
    next = mode.Word (110 ∷ folded c ∷ []) (is_underscore (folded c))

    more : word_byte (110 ∷ []) false c ≡ stands next
    more = character (110 ∷ []) false c w refl (omega arith)

pub n_in_line : (b : ℕ) → is_n b ≡ true → nat_eq b 10 ≡ false
n_in_line b h = differs is_n b 10 h refl

pub n_opens : (b : ℕ) → is_n b ≡ true → lexed mode.And b ≡ stands mode.AndNot
n_opens b h = taken (is_n b) _ _ h

and_scanned : (behind : List ℕ) (n : ℕ) → is_lone_n behind ≡ false → scanned n mode.And behind ≡ joined (placed (and_token false) n ∷ []) (scanned n mode.Clear behind)
and_scanned [] n h = refl
and_scanned (b ∷ bs) n h = go (is_n b) refl h
  where
    word_goes_on : (cs : List ℕ) → not (starts is_word_byte cs) ≡ false → is_n b ≡ true → scanned n mode.AndNot cs ≡ joined (placed (and_token false) n ∷ []) (scanned n mode.Clear (b ∷ cs))
    word_goes_on [] h e = absurd (cc)
    word_goes_on (c ∷ cs) h e = and_word b c n cs e (passes (is_word_byte c) h)
      where
        passes : (x : Bool) → not x ≡ false → x ≡ true
        passes true h = refl
        passes false h = sym h

    go : (c : Bool) → is_n b ≡ c → (c && not (starts is_word_byte bs)) ≡ false → scanned n mode.And (b ∷ bs) ≡ joined (placed (and_token false) n ∷ []) (scanned n mode.Clear (b ∷ bs))
    go false c h = ended_scanned mode.And (and_token false) n (b ∷ bs) (and_ended b bs c)
    go true c h = goes n b mode.And mode.AndNot bs (n_opens b c) (n_in_line b c) ∙ word_goes_on bs h c

-- From marks to what is scanned.

-- what is scanned of a token's bytes, and after them
abbrev pub Scans : List ℕ → List ℕ → ℕ → Token → Type 0
Scans own behind n t = scanned n mode.Clear (own ++ behind) ≡ joined (placed t n ∷ []) (scanned (n + line_ends own) mode.Clear behind)

pub mark_scanned : (t : Token) (own behind : List ℕ) (n : ℕ) → IsMark own behind t → Scans own behind n t
mark_scanned token.LineEnd own behind n (inl e) = subst (λ z. Scans z behind n token.LineEnd) (sym e) (given mode.Clear 10 n token.LineEnd behind refl)
mark_scanned token.LineEnd own behind n (inr e) = subst (λ z. Scans z behind n token.LineEnd) (sym e) (goes n 13 mode.Clear mode.Carriage (10 ∷ behind) refl refl ∙ given mode.Carriage 10 n token.LineEnd behind refl)
mark_scanned token.Comma own behind n e = subst (λ z. Scans z behind n token.Comma) (sym e) (given mode.Clear 44 n token.Comma behind refl)
mark_scanned token.Semicolon own behind n e = subst (λ z. Scans z behind n token.Semicolon) (sym e) (given mode.Clear 59 n token.Semicolon behind refl)
mark_scanned token.Close own behind n e = subst (λ z. Scans z behind n token.Close) (sym e) (given mode.Clear 41 n token.Close behind refl)
mark_scanned token.OpenBrace own behind n e = subst (λ z. Scans z behind n token.OpenBrace) (sym e) (given mode.Clear 123 n token.OpenBrace behind refl)
mark_scanned token.CloseBrace own behind n e = subst (λ z. Scans z behind n token.CloseBrace) (sym e) (given mode.Clear 125 n token.CloseBrace behind refl)
mark_scanned token.Dots own behind n e = subst (λ z. Scans z behind n token.Dots) (sym e) (goes n 46 mode.Clear mode.Dot (46 ∷ behind) refl refl ∙ given mode.Dot 46 n token.Dots behind refl)
mark_scanned token.Assign own behind n e = subst (λ z. Scans z behind n token.Assign) (sym e) (goes n 58 mode.Clear mode.Colon (61 ∷ behind) refl refl ∙ given mode.Colon 61 n token.Assign behind refl)
mark_scanned token.Colon own behind n (e, h) = subst (λ z. Scans z behind n token.Colon) (sym e) (goes n 58 mode.Clear mode.Colon behind refl refl ∙ ended_scanned mode.Colon token.Colon n behind (colon_ended behind h) ∙ stays n token.Colon behind)
mark_scanned token.Open own behind n (e, h) = subst (λ z. Scans z behind n token.Open) (sym e) (goes n 40 mode.Clear mode.Bracket behind refl refl ∙ ended_scanned mode.Bracket token.Open n behind (open_ended behind h) ∙ stays n token.Open behind)
mark_scanned (token.Keyword (word.Apply op.And false)) own behind n (e, h) = subst (λ z. Scans z behind n (and_token false)) (sym e) (goes n 38 mode.Clear mode.And behind refl refl ∙ and_scanned behind n h ∙ stays n (and_token false) behind)
mark_scanned (token.Keyword (word.Apply op.And true)) own behind n (b, e, c, h) =
    subst (λ z. Scans z behind n (and_token true)) (sym e) (goes n 38 mode.Clear mode.And (b ∷ behind) refl refl ∙ goes n b mode.And mode.AndNot behind (n_opens b c) (n_in_line b c) ∙ ended_scanned mode.AndNot (and_token true) n behind (and_n_ended behind h)
    ∙ ap (λ z. joined (placed (and_token true) n ∷ []) (scanned z mode.Clear behind)) (sym (ap (λ z. n + (if z then 1 else 0)) (n_in_line b c) ∙ add-zero n)))
mark_scanned _ own behind n h = absurd h
