-- Where a mark is scanned, its bytes spell it.
use Rattle.std.proofs.Common.{◌≡◌, ◌⊎◌, ℕ, ◌+◌, Bool, true, false, not, ◌&&◌, ◌||◌, List, [], ◌∷◌, ◌++◌, Some, None, refl, sym, ap, ◌∙◌, subst, if◌then◌else◌, nat_eq, eqb-true, arith, inl, inr}
use Rattle.il_reader.specs.declared.lexer.Mode.{Mode}
use Rattle.il_reader.specs.declared.lexer.Mode.TheVariants as mode
use Rattle.il_reader.specs.declared.token.Token.{Token}
use Rattle.il_reader.specs.declared.token.Token.TheVariants as token
use Rattle.il_reader.specs.Tokens.{and_token, gives, line_behind, mark_of, opening_of, stands}
use Rattle.il_reader.specs.Lexemes.{IsMark, Placed, is_n, is_word_byte, line_ends, placed, starts}
use Rattle.il_reader.specs.Literals.{Signed, front_bytes}
use Rattle.il_reader.specs.Scanning.{NoTokens, Scan, Tokens, joined, scanned, scanned_on}
use Rattle.il_reader.proofs.Scans.{Next, chosen, goes, lexeme_next, lines_on, on, others_joined, went}
use Rattle.il_reader.proofs.LexemeBlanks.{blank_next, comment_next}
use Rattle.il_reader.proofs.LexemeMarks.{IsEndedBy, and_ended, and_n_ended, and_word, colon_ended, ended_scanned, n_in_line, n_opens, open_ended}
use Rattle.il_reader.proofs.LexemeNumbersBack.{sign_back}
use Rattle.il_reader.proofs.LexemeWordsBack.{number_next}

-- Tokens that their last byte completes.

line_is : (n b : ℕ) → line_behind b n ≡ n + line_ends (b ∷ [])
line_is n b = let zero : line_behind b n ≡ line_behind b n + 0 = omega arith in zero ∙ lines_on b n 0

completed : (own : List ℕ) (n a b : ℕ) (more bs : List ℕ) (ts : List Placed) (t : Token) → more ≡ own ++ bs → line_ends (a ∷ own) ≡ line_ends (b ∷ []) → IsMark (a ∷ own) bs t → scanned_on n (gives t) (on n b bs) ≡ Tokens ts → Next n a more ts
completed own n a b more bs ts t bytes line mark h = go (scanned (line_behind b n) mode.Clear bs) refl h
  where
    go : (z : Scan) → scanned (line_behind b n) mode.Clear bs ≡ z → joined (placed t n ∷ []) z ≡ Tokens ts → Next n a more ts
    go (Tokens us) e h = record {
      own = own;
      rest = bs;
      spells = Some t;
      others = us;
      bytes = bytes;
      lexeme = inr mark;
      behind = ap (λ z. scanned z mode.Clear bs) (ap (λ z. n + z) line ∙ sym (line_is n b)) ∙ e;
      tokens = cc;
    }
    go NoTokens e h = absurd (cc)

mark_next : (n b : ℕ) (bs : List ℕ) (ts : List Placed) (t : Token) → IsMark (b ∷ []) bs t → scanned_on n (gives t) (on n b bs) ≡ Tokens ts → Next n b bs ts
mark_next n b bs ts t mark h = completed [] n b b bs bs ts t refl refl mark h

carriage_next : (bs : List ℕ) (n : ℕ) (ts : List Placed) → scanned n mode.Carriage bs ≡ Tokens ts → Next n 13 bs ts
carriage_next [] n ts h = absurd (cc)
carriage_next (b ∷ bs) n ts h = chosen n b bs ts (nat_eq b 10) _ _ h (λ c h. completed (b ∷ []) n 13 b (b ∷ bs) bs ts token.LineEnd refl refl (inr (ap (λ z. 13 ∷ z ∷ []) (eqb-true b 10 c))) h) (λ c h. absurd (cc))

dot_next : (bs : List ℕ) (n : ℕ) (ts : List Placed) → scanned n mode.Dot bs ≡ Tokens ts → Next n 46 bs ts
dot_next [] n ts h = absurd (cc)
dot_next (b ∷ bs) n ts h = chosen n b bs ts (nat_eq b 46) _ _ h (λ c h. completed (b ∷ []) n 46 b (b ∷ bs) bs ts token.Dots refl refl (ap (λ z. 46 ∷ z ∷ []) (eqb-true b 46 c)) h) (λ c h. absurd (cc))

-- Tokens that the byte after them ends.

ended_next : (q : Mode) (t : Token) (n b : ℕ) (bs : List ℕ) (ts : List Placed) → nat_eq b 10 ≡ false → IsMark (b ∷ []) bs t → IsEndedBy q t bs → scanned n q bs ≡ Tokens ts → Next n b bs ts
ended_next q t n b bs ts line mark e h = lexeme_next (b ∷ []) bs t n b bs ts refl (omega arith) (inr mark) (ap (λ z. if z then 1 else 0) line) (others_joined n t bs ts (sym (ended_scanned q t n bs e) ∙ h))

bracket_next : (bs : List ℕ) (n : ℕ) (ts : List Placed) → scanned n mode.Bracket bs ≡ Tokens ts → Next n 40 bs ts
bracket_next [] n ts h = ended_next mode.Bracket token.Open n 40 [] ts refl (refl, refl) refl h
bracket_next (b ∷ bs) n ts h = go (nat_eq b 42) refl h
  where
    go : (c : Bool) → nat_eq b 42 ≡ c → scanned n mode.Bracket (b ∷ bs) ≡ Tokens ts → Next n 40 (b ∷ bs) ts
    go true c h =
        let same : b ≡ 42 = eqb-true b 42 c in
        subst (λ z. Next n 40 (z ∷ bs) ts) (sym same) (comment_next n bs ts (went n 42 mode.Comment bs ts refl (ap (λ z. scanned n mode.Bracket (z ∷ bs)) (sym same) ∙ h)))
    go false c h = ended_next mode.Bracket token.Open n 40 (b ∷ bs) ts refl (refl, c) (open_ended (b ∷ bs) c) h

colon_next : (bs : List ℕ) (n : ℕ) (ts : List Placed) → scanned n mode.Colon bs ≡ Tokens ts → Next n 58 bs ts
colon_next [] n ts h = ended_next mode.Colon token.Colon n 58 [] ts refl (refl, refl) refl h
colon_next (b ∷ bs) n ts h = go (nat_eq b 61) refl h
  where
    go : (c : Bool) → nat_eq b 61 ≡ c → scanned n mode.Colon (b ∷ bs) ≡ Tokens ts → Next n 58 (b ∷ bs) ts
    go true c h =
        let same : b ≡ 61 = eqb-true b 61 c in
        subst (λ z. Next n 58 (z ∷ bs) ts) (sym same) (completed (61 ∷ []) n 58 61 (61 ∷ bs) bs ts token.Assign refl refl refl (ap (λ z. scanned n mode.Colon (z ∷ bs)) (sym same) ∙ h))
    go false c h = ended_next mode.Colon token.Colon n 58 (b ∷ bs) ts refl (refl, c) (colon_ended (b ∷ bs) c) h

-- after &N
and_n_next : (bs : List ℕ) (n b : ℕ) (ts : List Placed) → is_n b ≡ true → scanned n mode.AndNot bs ≡ Tokens ts → Next n 38 (b ∷ bs) ts
and_n_next bs n b ts e h = go (starts is_word_byte bs) refl
  where
    line : line_ends (38 ∷ b ∷ []) ≡ 0
    line = ap (λ z. if z then 1 else 0) (n_in_line b e)

    alone : (cs : List ℕ) → starts is_word_byte cs ≡ true → scanned n mode.AndNot cs ≡ Tokens ts → Next n 38 (b ∷ cs) ts
    alone [] w h = absurd (cc)
    alone (c ∷ cs) w h = lexeme_next (38 ∷ []) (b ∷ c ∷ cs) (and_token false) n 38 (b ∷ c ∷ cs) ts refl (omega arith) (inr (refl, ap (λ z. z && not (is_word_byte c)) e ∙ ap not w)) refl (others_joined n (and_token false) (b ∷ c ∷ cs) ts (sym (and_word b c n cs e w) ∙ h))

    go : (c : Bool) → starts is_word_byte bs ≡ c → Next n 38 (b ∷ bs) ts
    go true c = alone bs c h
    go false c = lexeme_next (38 ∷ b ∷ []) bs (and_token true) n 38 (b ∷ bs) ts refl (omega arith) (inr (b, refl, e, c)) line (others_joined n (and_token true) bs ts (sym (ended_scanned mode.AndNot (and_token true) n bs (and_n_ended bs c)) ∙ h))

and_next : (bs : List ℕ) (n : ℕ) (ts : List Placed) → scanned n mode.And bs ≡ Tokens ts → Next n 38 bs ts
and_next [] n ts h = ended_next mode.And (and_token false) n 38 [] ts refl (refl, refl) refl h
and_next (b ∷ bs) n ts h = go (is_n b) refl h
  where
    opened : is_n b ≡ true → scanned n mode.And (b ∷ bs) ≡ scanned n mode.AndNot bs
    opened c = goes n b mode.And mode.AndNot bs (n_opens b c) (n_in_line b c)

    go : (c : Bool) → is_n b ≡ c → scanned n mode.And (b ∷ bs) ≡ Tokens ts → Next n 38 (b ∷ bs) ts
    go true c h = and_n_next bs n b ts c (sym (opened c) ∙ h)
    go false c h = ended_next mode.And (and_token false) n 38 (b ∷ bs) ts refl (refl, ap (λ z. z && not (starts is_word_byte bs)) c) (and_ended b bs c) h

sign_next : (negative : Bool) (n b : ℕ) (bs : List ℕ) (ts : List Placed) → b ∷ bs ≡ front_bytes (Signed negative) ++ bs → scanned n (mode.Sign negative) bs ≡ Tokens ts → Next n b bs ts
sign_next negative n b bs ts e h = number_next None [] (b ∷ bs) n b bs ts refl refl refl (Signed negative, bs, e, sign_back negative n bs ts h)

-- A byte that begins no word and no number without a sign.

-- the byte is x, and q stands after it
opened : (n b x : ℕ) (q : Mode) (bs : List ℕ) (ts : List Placed) → nat_eq b x ≡ true → nat_eq x 10 ≡ false → scanned_on n (stands q) (on n b bs) ≡ Tokens ts → (scanned n q bs ≡ Tokens ts → Next n x bs ts) → Next n b bs ts
opened n b x q bs ts c line h next =
    let same : b ≡ x = eqb-true b x c in
    subst (λ z. Next n z bs ts) (sym same) (next (went n b q bs ts (ap (λ z. nat_eq z 10) same ∙ line) h))

one_mark : (n b : ℕ) (bs : List ℕ) (ts : List Placed) → scanned_on n (mark_of b) (on n b bs) ≡ Tokens ts → Next n b bs ts
one_mark n b bs ts h =
    chosen n b bs ts (nat_eq b 10) _ _ h (λ c h. mark_next n b bs ts token.LineEnd (inl (ap (λ z. z ∷ []) (eqb-true b 10 c))) h) (λ c h.
    chosen n b bs ts (nat_eq b 44) _ _ h (λ c h. mark_next n b bs ts token.Comma (ap (λ z. z ∷ []) (eqb-true b 44 c)) h) (λ c h.
    chosen n b bs ts (nat_eq b 59) _ _ h (λ c h. mark_next n b bs ts token.Semicolon (ap (λ z. z ∷ []) (eqb-true b 59 c)) h) (λ c h.
    chosen n b bs ts (nat_eq b 41) _ _ h (λ c h. mark_next n b bs ts token.Close (ap (λ z. z ∷ []) (eqb-true b 41 c)) h) (λ c h.
    chosen n b bs ts (nat_eq b 123) _ _ h (λ c h. mark_next n b bs ts token.OpenBrace (ap (λ z. z ∷ []) (eqb-true b 123 c)) h) (λ c h.
    chosen n b bs ts (nat_eq b 125) _ _ h (λ c h. mark_next n b bs ts token.CloseBrace (ap (λ z. z ∷ []) (eqb-true b 125 c)) h) (λ c h. absurd (cc)))))))

space_is : (b : ℕ) → (nat_eq b 32 || nat_eq b 9) ≡ true → (b ≡ 32) ⊎ (b ≡ 9)
space_is b h = go (nat_eq b 32) refl h
  where
    go : (c : Bool) → nat_eq b 32 ≡ c → (c || nat_eq b 9) ≡ true → (b ≡ 32) ⊎ (b ≡ 9)
    go true c h = inl (eqb-true b 32 c)
    go false c h = inr (eqb-true b 9 h)

space_in_line : (b : ℕ) → (b ≡ 32) ⊎ (b ≡ 9) → nat_eq b 10 ≡ false
space_in_line b (inl e) = ap (λ z. nat_eq z 10) e
space_in_line b (inr e) = ap (λ z. nat_eq z 10) e

pub opening_next : (n b : ℕ) (bs : List ℕ) (ts : List Placed) → scanned_on n (opening_of b) (on n b bs) ≡ Tokens ts → Next n b bs ts
opening_next n b bs ts h =
    chosen n b bs ts (nat_eq b 32 || nat_eq b 9) _ _ h (λ c h. blank_next n b bs ts (space_is b c) (went n b mode.Clear bs ts (space_in_line b (space_is b c)) h)) (λ c h.
    chosen n b bs ts (nat_eq b 13) _ _ h (λ c h. opened n b 13 mode.Carriage bs ts c refl h (carriage_next bs n ts)) (λ c h.
    chosen n b bs ts (nat_eq b 40) _ _ h (λ c h. opened n b 40 mode.Bracket bs ts c refl h (bracket_next bs n ts)) (λ c h.
    chosen n b bs ts (nat_eq b 58) _ _ h (λ c h. opened n b 58 mode.Colon bs ts c refl h (colon_next bs n ts)) (λ c h.
    chosen n b bs ts (nat_eq b 46) _ _ h (λ c h. opened n b 46 mode.Dot bs ts c refl h (dot_next bs n ts)) (λ c h.
    chosen n b bs ts (nat_eq b 38) _ _ h (λ c h. opened n b 38 mode.And bs ts c refl h (and_next bs n ts)) (λ c h.
    chosen n b bs ts (nat_eq b 43) _ _ h (λ c h. opened n b 43 (mode.Sign false) bs ts c refl h (sign_next false n 43 bs ts refl)) (λ c h.
    chosen n b bs ts (nat_eq b 45) _ _ h (λ c h. opened n b 45 (mode.Sign true) bs ts c refl h (sign_next true n 45 bs ts refl)) (λ c h. one_mark n b bs ts h))))))))
