-- Blanks: spaces, tabs and comments.
use Rattle.std.proofs.Common.{◌≡◌, ◌⊎◌, ℕ, suc, ◌+◌, Bool, true, false, List, [], ◌∷◌, ◌++◌, None, refl, sym, ap, ◌∙◌, subst, if◌then◌else◌, nat_eq, eqb-true, true≢false, append_assoc, add-zero, codes, inl, inr}
use Rattle.il_reader.specs.declared.lexer.Mode.{Mode}
use Rattle.il_reader.specs.declared.lexer.Mode.TheVariants as mode
use Rattle.il_reader.specs.Tokens.{line_behind, stands}
use Rattle.il_reader.specs.Lexemes.{IsBlank, Placed, StandsIn, line_ends}
use Rattle.il_reader.specs.Scanning.{Tokens, joined, scanned, scanned_on}
use Rattle.il_reader.proofs.Scans.{Next, joined_none, lines_on, on}

-- no end of a comment stands in the bytes
abbrev IsOpen : List ℕ → Type 0
IsOpen xs = StandsIn (codes "*)") xs → ⊥

open_behind : (b : ℕ) (xs : List ℕ) → IsOpen (b ∷ xs) → IsOpen xs
open_behind b xs h (a, c, e) = h (b ∷ a, c, ap (λ z. b ∷ z) e)

-- a star and a closing parenthesis don't stand in a row
no_end : (xs : List ℕ) → IsOpen (42 ∷ 41 ∷ xs) → ⊥
no_end xs h = h ([], xs, refl)

open_with : (b : ℕ) (xs : List ℕ) → nat_eq b 42 ≡ false → IsOpen xs → IsOpen (b ∷ xs)
open_with b xs c h ([], d, e) = let same : b ≡ 42 = cc in absurd (true≢false (ap (λ z. nat_eq z 42) (sym same) ∙ c))
open_with b xs c h (y ∷ a, d, e) = let same : xs ≡ a ++ codes "*)" ++ d = cc in h (a, d, same)

open_before : (x b : ℕ) (xs : List ℕ) → nat_eq b 41 ≡ false → IsOpen (b ∷ xs) → IsOpen (x ∷ b ∷ xs)
open_before x b xs c h ([], d, e) = let same : b ≡ 41 = cc in absurd (true≢false (ap (λ z. nat_eq z 41) (sym same) ∙ c))
open_before x b xs c h (y ∷ a, d, e) = let same : b ∷ xs ≡ a ++ codes "*)" ++ d = cc in h (a, d, same)

open_star : IsOpen (42 ∷ [])
open_star ([], d, e) = absurd (cc)
open_star (y ∷ [], d, e) = absurd (cc)
open_star (y ∷ z ∷ a, d, e) = absurd (cc)

-- inside a comment; star: the last byte is one
abbrev inside_mode : Bool → Mode
inside_mode false = mode.Comment
inside_mode true = mode.Star

abbrev with_star : Bool → List ℕ → List ℕ
with_star false xs = xs
with_star true xs = 42 ∷ xs

-- From the inside on to the end.

-- what is known of the bytes after it
abbrev Closes : List ℕ → List ℕ → Type 0
Closes bs rest = (star : Bool) (n : ℕ) → IsOpen (with_star star (bs ++ codes "*")) → scanned n (inside_mode star) (bs ++ (42 ∷ 41 ∷ rest)) ≡ scanned (n + line_ends bs) mode.Clear rest

byte_inside : (b n : ℕ) (bs rest : List ℕ) → Closes bs rest → IsOpen (b ∷ bs ++ codes "*") → scanned_on n (if nat_eq b 42 then stands mode.Star else stands mode.Comment) (on n b (bs ++ (42 ∷ 41 ∷ rest))) ≡ scanned (n + line_ends (b ∷ bs)) mode.Clear rest
byte_inside b n bs rest closes h = go (nat_eq b 42) refl
  where
    go : (c : Bool) → nat_eq b 42 ≡ c → scanned_on n (if c then stands mode.Star else stands mode.Comment) (on n b (bs ++ (42 ∷ 41 ∷ rest))) ≡ scanned (n + line_ends (b ∷ bs)) mode.Clear rest
    go true c =
        let same : b ≡ 42 = eqb-true b 42 c in
        joined_none _ ∙ closes true (line_behind b n) (subst (λ z. IsOpen (z ∷ bs ++ codes "*")) same h) ∙ ap (λ z. scanned z mode.Clear rest) (lines_on b n (line_ends bs))
    go false c = joined_none _ ∙ closes false (line_behind b n) (open_behind b (bs ++ codes "*") h) ∙ ap (λ z. scanned z mode.Clear rest) (lines_on b n (line_ends bs))

byte_behind_star : (b n : ℕ) (bs rest : List ℕ) → Closes bs rest → IsOpen (42 ∷ b ∷ bs ++ codes "*") → scanned n mode.Star (b ∷ (bs ++ (42 ∷ 41 ∷ rest))) ≡ scanned (n + line_ends (b ∷ bs)) mode.Clear rest
byte_behind_star b n bs rest closes h = go (nat_eq b 41) refl
  where
    go : (c : Bool) → nat_eq b 41 ≡ c → scanned_on n (if c then stands mode.Clear else if nat_eq b 42 then stands mode.Star else stands mode.Comment) (on n b (bs ++ (42 ∷ 41 ∷ rest))) ≡ scanned (n + line_ends (b ∷ bs)) mode.Clear rest
    go true c = let same : b ≡ 41 = eqb-true b 41 c in absurd (no_end (bs ++ codes "*") (subst (λ z. IsOpen (42 ∷ z ∷ bs ++ codes "*")) same h))
    go false c = byte_inside b n bs rest closes (open_behind 42 (b ∷ bs ++ codes "*") h)

comment_scanned : (inside : List ℕ) (star : Bool) (n : ℕ) (rest : List ℕ) → IsOpen (with_star star (inside ++ codes "*")) → scanned n (inside_mode star) (inside ++ (42 ∷ 41 ∷ rest)) ≡ scanned (n + line_ends inside) mode.Clear rest
comment_scanned [] false n rest h = joined_none _ ∙ (joined_none _ ∙ ap (λ z. scanned z mode.Clear rest) (sym (add-zero n)))
comment_scanned [] true n rest h = joined_none _ ∙ (joined_none _ ∙ ap (λ z. scanned z mode.Clear rest) (sym (add-zero n)))
comment_scanned (b ∷ bs) false n rest h = byte_inside b n bs rest (λ star m k. comment_scanned bs star m rest k) h
comment_scanned (b ∷ bs) true n rest h = byte_behind_star b n bs rest (λ star m k. comment_scanned bs star m rest k) h

pub blank_scanned : (own behind : List ℕ) (n : ℕ) → IsBlank own → scanned n mode.Clear (own ++ behind) ≡ scanned (n + line_ends own) mode.Clear behind
blank_scanned own behind n (inl e) = subst (λ z. scanned n mode.Clear (z ++ behind) ≡ scanned (n + line_ends z) mode.Clear behind) (sym e) (joined_none _ ∙ ap (λ z. scanned z mode.Clear behind) (sym (add-zero n)))
blank_scanned own behind n (inr (inl e)) = subst (λ z. scanned n mode.Clear (z ++ behind) ≡ scanned (n + line_ends z) mode.Clear behind) (sym e) (joined_none _ ∙ ap (λ z. scanned z mode.Clear behind) (sym (add-zero n)))
blank_scanned own behind n (inr (inr (inside, e, h))) = subst (λ z. scanned n mode.Clear (z ++ behind) ≡ scanned (n + line_ends z) mode.Clear behind) (sym e) whole
  where
    ends : (xs : List ℕ) → line_ends (xs ++ codes "*)") ≡ line_ends xs
    ends [] = refl
    ends (x ∷ xs) = ap (λ z. if nat_eq x 10 then suc z else z) (ends xs)

    whole : scanned n mode.Clear ((codes "(*" ++ inside ++ codes "*)") ++ behind) ≡ scanned (n + line_ends (codes "(*" ++ inside ++ codes "*)")) mode.Clear behind
    whole = joined_none _ ∙ joined_none _ ∙ ap (scanned n mode.Comment) (append_assoc inside (codes "*)") behind) ∙ comment_scanned inside false n behind h ∙ ap (λ z. scanned (n + z) mode.Clear behind) (sym (ends inside))

-- From a scan back.

record Inside (star : Bool) (n : ℕ) (bs : List ℕ) (ts : List Placed) : Type 0 where
  inside : List ℕ
  rest : List ℕ
  bytes : with_star star bs ≡ inside ++ (42 ∷ 41 ∷ rest)
  still : IsOpen (inside ++ codes "*")
  behind : scanned (n + line_ends inside) mode.Clear rest ≡ Tokens ts

passed : (n b : ℕ) (bs : List ℕ) (q : Mode) (ts : List Placed) → joined [] (on n b bs q) ≡ Tokens ts → scanned (line_behind b n) q bs ≡ Tokens ts
passed n b bs q ts h = sym (joined_none (on n b bs q)) ∙ h

-- a byte before the inside of a comment that isn't a star
inside_with : (b n : ℕ) (bs : List ℕ) (ts : List Placed) → nat_eq b 42 ≡ false → Inside false (line_behind b n) bs ts → Inside false n (b ∷ bs) ts
inside_with b n bs ts c x = record {
  inside = b ∷ x.inside;
  rest = x.rest;
  bytes = ap (λ z. b ∷ z) x.bytes;
  still = open_with b (x.inside ++ codes "*") c x.still;
  behind = ap (λ z. scanned z mode.Clear x.rest) (sym (lines_on b n (line_ends x.inside))) ∙ x.behind;
}

-- the bytes after a star begin with no closing parenthesis
star_before : (n : ℕ) (b : ℕ) (bs : List ℕ) (ts : List Placed) → nat_eq b 41 ≡ false → Inside false n (b ∷ bs) ts → Inside true n (b ∷ bs) ts
star_before n b bs ts c x = record {
  inside = 42 ∷ x.inside;
  rest = x.rest;
  bytes = ap (λ z. 42 ∷ z) x.bytes;
  still = go x.inside x.bytes x.still;
  behind = x.behind;
}
  where
    go : (inside : List ℕ) → b ∷ bs ≡ inside ++ (42 ∷ 41 ∷ x.rest) → IsOpen (inside ++ codes "*") → IsOpen (42 ∷ inside ++ codes "*")
    go [] e h = open_before 42 42 [] refl h
    go (y ∷ ys) e h = let same : b ≡ y = cc in open_before 42 y (ys ++ codes "*") (subst (λ z. nat_eq z 41 ≡ false) same c) h

-- after a star
star_on : (b n : ℕ) (bs : List ℕ) (ts : List Placed) → nat_eq b 42 ≡ true → Inside true (line_behind b n) bs ts → Inside false n (b ∷ bs) ts
star_on b n bs ts c x =
    let same : b ≡ 42 = eqb-true b 42 c in
    let still : line_behind b n ≡ n = ap (λ z. line_behind z n) same in
    record {
      inside = x.inside;
      rest = x.rest;
      bytes = ap (λ z. z ∷ bs) same ∙ x.bytes;
      still = x.still;
      behind = ap (λ z. scanned (z + line_ends x.inside) mode.Clear x.rest) (sym still) ∙ x.behind;
    }

inside_on : (b n : ℕ) (bs : List ℕ) (ts : List Placed) → ((star : Bool) (m : ℕ) → scanned m (inside_mode star) bs ≡ Tokens ts → Inside star m bs ts) → scanned_on n (if nat_eq b 42 then stands mode.Star else stands mode.Comment) (on n b bs) ≡ Tokens ts → Inside false n (b ∷ bs) ts
inside_on b n bs ts more h = go (nat_eq b 42) refl h
  where
    go : (c : Bool) → nat_eq b 42 ≡ c → scanned_on n (if c then stands mode.Star else stands mode.Comment) (on n b bs) ≡ Tokens ts → Inside false n (b ∷ bs) ts
    go true c h = star_on b n bs ts c (more true (line_behind b n) (passed n b bs mode.Star ts h))
    go false c h = inside_with b n bs ts c (more false (line_behind b n) (passed n b bs mode.Comment ts h))

closed_on : (b n : ℕ) (bs : List ℕ) (ts : List Placed) → ((star : Bool) (m : ℕ) → scanned m (inside_mode star) bs ≡ Tokens ts → Inside star m bs ts) → scanned n mode.Star (b ∷ bs) ≡ Tokens ts → Inside true n (b ∷ bs) ts
closed_on b n bs ts more h = go (nat_eq b 41) refl h
  where
    go : (c : Bool) → nat_eq b 41 ≡ c → scanned_on n (if c then stands mode.Clear else if nat_eq b 42 then stands mode.Star else stands mode.Comment) (on n b bs) ≡ Tokens ts → Inside true n (b ∷ bs) ts
    go true c h =
        let same : b ≡ 41 = eqb-true b 41 c in
        record {
          inside = [];
          rest = bs;
          bytes = ap (λ z. 42 ∷ z ∷ bs) same;
          still = open_star;
          behind = ap (λ z. scanned z mode.Clear bs) (add-zero n ∙ sym (ap (λ z. line_behind z n) same)) ∙ passed n b bs mode.Clear ts h;
        }
    go false c h = star_before n b bs ts c (inside_on b n bs ts more h)

inside_back : (bs : List ℕ) (star : Bool) (n : ℕ) (ts : List Placed) → scanned n (inside_mode star) bs ≡ Tokens ts → Inside star n bs ts
inside_back [] false n ts h = absurd (cc)
inside_back [] true n ts h = absurd (cc)
inside_back (b ∷ bs) false n ts h = inside_on b n bs ts (λ star m k. inside_back bs star m ts k) h
inside_back (b ∷ bs) true n ts h = closed_on b n bs ts (λ star m k. inside_back bs star m ts k) h

-- after the star that opens a comment
pub comment_next : (n : ℕ) (bs : List ℕ) (ts : List Placed) → scanned n mode.Comment bs ≡ Tokens ts → Next n 40 (42 ∷ bs) ts
comment_next n bs ts h = go (inside_back bs false n ts h)
  where
    ends : (xs : List ℕ) → line_ends (xs ++ codes "*)") ≡ line_ends xs
    ends [] = refl
    ends (x ∷ xs) = ap (λ z. if nat_eq x 10 then suc z else z) (ends xs)

    go : Inside false n bs ts → Next n 40 (42 ∷ bs) ts
    go x = record {
      own = 42 ∷ (x.inside ++ codes "*)");
      rest = x.rest;
      spells = None;
      others = ts;
      bytes = ap (λ z. 42 ∷ z) (x.bytes ∙ sym (append_assoc x.inside (codes "*)") x.rest));
      lexeme = inr (inr (x.inside, refl, x.still));
      behind = ap (λ z. scanned (n + z) mode.Clear x.rest) (ends x.inside) ∙ x.behind;
      tokens = refl;
    }

-- a space or a tab
pub blank_next : (n b : ℕ) (bs : List ℕ) (ts : List Placed) → (b ≡ 32) ⊎ (b ≡ 9) → scanned n mode.Clear bs ≡ Tokens ts → Next n b bs ts
blank_next n b bs ts (inl e) h = record {
  own = [];
  rest = bs;
  spells = None;
  others = ts;
  bytes = refl;
  lexeme = inl (ap (λ z. z ∷ []) e);
  behind = ap (λ z. scanned z mode.Clear bs) (ap (λ z. n + line_ends (z ∷ [])) e ∙ add-zero n) ∙ h;
  tokens = refl;
}
blank_next n b bs ts (inr e) h = record {
  own = [];
  rest = bs;
  spells = None;
  others = ts;
  bytes = refl;
  lexeme = inr (inl (ap (λ z. z ∷ []) e));
  behind = ap (λ z. scanned z mode.Clear bs) (ap (λ z. n + line_ends (z ∷ [])) e ∙ add-zero n) ∙ h;
  tokens = refl;
}
