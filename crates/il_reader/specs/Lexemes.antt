-- The pieces of a text: blanks, and the words, numbers and marks that are its tokens.
-- IEC 61131-3 edition 2, 2.1.2 identifiers, 2.1.3 keywords, 2.1.5 comments, 2.2.1 numeric literals, 3.2 instruction list.
use Rattle.std.specs.Prelude.{◌≡◌, ◌⊎◌, ℕ, suc, ◌+◌, Bool, true, false, not, ◌&&◌, ◌||◌, List, [], ◌∷◌, ◌++◌, map, if◌then◌else◌, Option, Some, None, nat_eq, codes}
use Rattle.std.specs.List.{flat_map}
use Rattle.point_types.specs.declared.operator.Operator.TheVariants as op
use Rattle.point_types.specs.Name.{folded, is_name_byte}
use Rattle.il_reader.specs.declared.token.Keyword.{Keyword}
use Rattle.il_reader.specs.declared.token.Keyword.TheVariants as word
use Rattle.il_reader.specs.declared.token.Token.{Token}
use Rattle.il_reader.specs.declared.token.Token.TheVariants as token
use Rattle.il_reader.specs.Literals.{IsNumber}
use Rattle.il_reader.specs.Tokens.{word_token}

-- a token, and the line of its first byte
pub data Placed : Type 0 where
  placed : Token → ℕ → Placed

-- A piece of a text: its bytes, and the token that they spell; a blank spells none.
pub record Lexeme : Type 0 where
  pub own : List ℕ
  pub spells : Option Token

-- What comes after a piece.

-- the first byte passes a test
abbrev pub starts : (ℕ → Bool) → List ℕ → Bool
starts test [] = false
starts test (b ∷ bs) = test b

-- a letter in either case, a digit or an underscore
abbrev pub is_word_byte : ℕ → Bool
is_word_byte b = is_name_byte (folded b)

-- N, in either case
abbrev pub is_n : ℕ → Bool
is_n b = nat_eq b 78 || nat_eq b 110

-- no letter, digit or underscore goes on, and no #
abbrev pub Ends : List ℕ → Type 0
Ends behind = starts (λ b. is_word_byte b || nat_eq b 35) behind ≡ false

-- an N that is a word of its own
abbrev pub is_lone_n : List ℕ → Bool
is_lone_n [] = false
is_lone_n (b ∷ bs) = is_n b && not (starts is_word_byte bs)

-- Blanks.

-- bytes that stand somewhere among others
abbrev pub StandsIn : List ℕ → List ℕ → Type 0
StandsIn part whole = (a b : List ℕ) × (whole ≡ a ++ part ++ b)

-- from (* to the first *)
abbrev pub IsComment : List ℕ → Type 0
IsComment own = (inside : List ℕ) × (own ≡ codes "(*" ++ inside ++ codes "*)") × (StandsIn (codes "*)") (inside ++ codes "*") → ⊥)

-- a space, a tab or a comment
abbrev pub IsBlank : List ℕ → Type 0
IsBlank own = (own ≡ codes " ") ⊎ (own ≡ 9 ∷ []) ⊎ IsComment own

-- a word: a keyword or a name, capital and small letters alike
abbrev pub IsWord : List ℕ → Token → Type 0
IsWord own t = word_token (map folded own) ≡ Some t

-- Marks.

-- & is AND, and &N is ANDN where no word goes on with the N
abbrev pub IsAnd : List ℕ → List ℕ → Keyword → Type 0
IsAnd own behind (word.Apply op.And false) = (own ≡ codes "&") × (is_lone_n behind ≡ false)
IsAnd own behind (word.Apply op.And true) = (b : ℕ) × (own ≡ 38 ∷ b ∷ []) × (is_n b ≡ true) × (starts is_word_byte behind ≡ false)
IsAnd own behind k = ⊥

-- line ends, with a carriage return before them or without, and punctuation
abbrev pub IsMark : List ℕ → List ℕ → Token → Type 0
IsMark own behind token.LineEnd = (own ≡ 10 ∷ []) ⊎ (own ≡ 13 ∷ 10 ∷ [])
IsMark own behind token.Comma = own ≡ codes ","
IsMark own behind token.Semicolon = own ≡ codes ";"
IsMark own behind token.Close = own ≡ codes ")"
IsMark own behind token.OpenBrace = own ≡ codes "{"
IsMark own behind token.CloseBrace = own ≡ codes "}"
IsMark own behind token.Dots = own ≡ codes ".."
IsMark own behind token.Assign = own ≡ codes ":="
IsMark own behind token.Colon = (own ≡ codes ":") × (starts (λ b. nat_eq b 61) behind ≡ false)
IsMark own behind token.Open = (own ≡ codes "(") × (starts (λ b. nat_eq b 42) behind ≡ false)
IsMark own behind (token.Keyword k) = IsAnd own behind k
IsMark own behind t = ⊥

-- a blank, or a word or a number, as long as it can be, or a mark
abbrev pub IsLexeme : List ℕ → List ℕ → Option Token → Type 0
IsLexeme own behind None = IsBlank own
IsLexeme own behind (Some t) = ((IsWord own t ⊎ IsNumber own t) × Ends behind) ⊎ IsMark own behind t

-- Texts.

abbrev pub bytes_of : List Lexeme → List ℕ
bytes_of xs = flat_map (λ x. x.own) xs

-- each piece is a lexeme before those after it
abbrev pub AreLexemes : List Lexeme → Type 0
AreLexemes [] = Unit {0}
AreLexemes (x ∷ xs) = IsLexeme x.own (bytes_of xs) x.spells × AreLexemes xs

-- the number of line ends
abbrev pub line_ends : List ℕ → ℕ
line_ends [] = 0
line_ends (b ∷ bs) = if nat_eq b 10 then suc (line_ends bs) else line_ends bs

abbrev pub of_line : ℕ → Option Token → List Placed
of_line n None = []
of_line n (Some t) = placed t n ∷ []

-- their tokens; n: the line of the first byte
abbrev pub placed_from : ℕ → List Lexeme → List Placed
placed_from n [] = []
placed_from n (x ∷ xs) = of_line n x.spells ++ placed_from (n + line_ends x.own) xs

-- the tokens of a text
abbrev pub AreTokens : List ℕ → List Placed → Type 0
AreTokens text ts = (xs : List Lexeme) × (text ≡ bytes_of xs) × AreLexemes xs × (ts ≡ placed_from 1 xs)
