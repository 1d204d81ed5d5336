-- Tokens of a text: each name among them is one.
use Rattle.std.proofs.Common.{◌≡◌, ℕ, ◌+◌, Bool, true, false, ℤ, List, [], ◌∷◌, ◌++◌, map, Option, Some, None, option_map, refl, sym, subst, if◌then◌else◌, inl, inr}
use Rattle.point_types.specs.declared.il_type.IlType.{IlType}
use Rattle.point_types.specs.Name.{folded, is_name}
use Rattle.il_reader.specs.declared.token.Keyword.{Keyword}
use Rattle.il_reader.specs.declared.token.Token.{Token}
use Rattle.il_reader.specs.declared.token.Token.TheVariants as token
use Rattle.il_reader.specs.Lexemes.{AreLexemes, AreTokens, IsLexeme, IsMark, Lexeme, Placed, bytes_of, line_ends, of_line, placed, placed_from}
use Rattle.il_reader.specs.Literals.{Bare, Front, literal_token, number_of}
use Rattle.il_reader.specs.Tokens.{keyword, keyword_or, word_token}

-- a token that is no name, or one
abbrev pub IsNamed : Token → Type 0
IsNamed (token.Name n) = is_name n ≡ true
IsNamed _ = Unit {0}

abbrev pub AreNamed : List Placed → Type 0
AreNamed [] = Unit {0}
AreNamed (placed t l ∷ ts) = IsNamed t × AreNamed ts

abbrev IsNamedIfThere : Option Token → Type 0
IsNamedIfThere None = Unit {0}
IsNamedIfThere (Some t) = IsNamed t

name_named : (w : List ℕ) (b : Bool) → is_name w ≡ b → IsNamedIfThere (option_map token.Name (if b then Some w else None))
name_named w true e = e
name_named w false e = tt

keyword_or_named : (k : Option Keyword) (w : List ℕ) → IsNamedIfThere (keyword_or k w)
keyword_or_named (Some k) w = tt
keyword_or_named None w = name_named (map folded w) (is_name (map folded w)) refl

word_named : (w : List ℕ) → IsNamedIfThere (word_token w)
word_named w = keyword_or_named (keyword w) w

literal_named : (k : Option IlType) (f : Front) (n : ℤ) → IsNamed (literal_token k f n)
literal_named (Some k) f n = tt
literal_named None Bare n = tt
literal_named None f n = tt

mark_named : (own behind : List ℕ) (t : Token) → IsMark own behind t → IsNamed t
mark_named own behind (token.Name n) h = absurd h
mark_named own behind t h = tt

lexeme_named : (own behind : List ℕ) (t : Option Token) → IsLexeme own behind t → IsNamedIfThere t
lexeme_named own behind None h = tt
lexeme_named own behind (Some t) (inl (inl e, ends)) = subst IsNamedIfThere e (word_named (map folded own))
lexeme_named own behind (Some t) (inl (inr x, ends)) = subst IsNamed x.spelled (literal_named x.kind x.front (number_of x.front x.values))
lexeme_named own behind (Some t) (inr h) = mark_named own behind t h

lexemes_named : (xs : List Lexeme) (n : ℕ) → AreLexemes xs → AreNamed (placed_from n xs)
lexemes_named [] n h = tt
lexemes_named (x ∷ xs) n (h, more) = go x.spells (lexeme_named x.own (bytes_of xs) x.spells h) (lexemes_named xs (n + line_ends x.own) more)
  where
    go : (t : Option Token) → IsNamedIfThere t → AreNamed (placed_from (n + line_ends x.own) xs) → AreNamed (of_line n t ++ placed_from (n + line_ends x.own) xs)
    go None h more = more
    go (Some t) h more = (h, more)

-- each name among the tokens of a text is one
pub tokens_named : (text : List ℕ) (ts : List Placed) → AreTokens text ts → AreNamed ts
tokens_named text ts (xs, e, are, p) = subst AreNamed (sym p) (lexemes_named xs 1 are)
