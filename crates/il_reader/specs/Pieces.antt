-- Worked texts and their tokens, by their pieces.
-- IEC 61131-3 edition 2, 2.2.1 numeric literals, 3.2 instruction list.
use Rattle.std.specs.Prelude.{ℕ, Bool, true, false, pos, negsuc, List, [], ◌∷◌, ◌++◌, Some, None, refl, codes, nat_eq}
use mathlib.Core.Path.{ap}
use mathlib.Core.Bool.{true≢false}
use mathlib.Core.Logic.{inl, inr}
use Rattle.point_types.specs.Keyword.{is_reserved, plain_words, conversions}
use Rattle.point_types.specs.declared.il_type.IlType.TheVariants as il
use Rattle.point_types.specs.declared.operator.Operator.TheVariants as op
use Rattle.il_reader.specs.declared.numeral.Base.TheVariants as base
use Rattle.il_reader.specs.declared.token.Keyword.TheVariants as word
use Rattle.il_reader.specs.declared.token.Token.TheVariants as token
use Rattle.il_reader.specs.Lexemes.{AreTokens, StandsIn, placed, starts}
use Rattle.il_reader.specs.Literals.{Bare, Based, Signed}
use Rattle.il_reader.specs.Tokens.{keyword}

-- a sign ends a word
pub minus_behind_a_word : AreTokens (codes "LD-7") (placed (token.Keyword (word.Load false)) 1 ∷ placed (token.Number (negsuc 6)) 1 ∷ [])
unfolding keyword
minus_behind_a_word = (
  record { own = codes "LD"; spells = Some (token.Keyword (word.Load false)) } ∷ record { own = codes "-7"; spells = Some (token.Number (negsuc 6)) } ∷ [],
  refl,
  (inl (inl refl, refl), (inl (inr (record { kind = None; front = Signed true; before = []; figures = codes "7"; values = 7 ∷ []; bytes = refl; typed = refl; digits = (55, [], refl, refl, refl); within = refl; spelled = refl }), refl), tt)),
  refl,
)

-- digits of base 16
pub base_sixteen : AreTokens (codes "16#7F") (placed (token.Number (pos 127)) 1 ∷ [])
base_sixteen = (
  record { own = codes "16#7F"; spells = Some (token.Number (pos 127)) } ∷ [],
  refl,
  (inl (inr (record { kind = None; front = Based base.Sixteen; before = []; figures = codes "7F"; values = 7 ∷ 15 ∷ []; bytes = refl; typed = refl; digits = (55, codes "F", refl, refl, (70, [], refl, inl refl, refl)); within = refl; spelled = refl }), refl), tt),
  refl,
)

-- a type, and an underscore between digits
pub typed_digits : AreTokens (codes "int#1_0") (placed (token.Typed il.Int (pos 10)) 1 ∷ [])
unfolding keyword
typed_digits = (
  record { own = codes "int#1_0"; spells = Some (token.Typed il.Int (pos 10)) } ∷ [],
  refl,
  (inl (inr (record { kind = Some il.Int; front = Bare; before = codes "int#"; figures = codes "1_0"; values = 1 ∷ 0 ∷ []; bytes = refl; typed = (codes "int", refl, refl); digits = (49, codes "_0", refl, refl, (48, [], refl, inr refl, refl)); within = refl; spelled = refl }), refl), tt),
  refl,
)

-- a word goes on with the N
pub and_before_a_word : AreTokens (codes "&Nx") (placed (token.Keyword (word.Apply op.And false)) 1 ∷ placed (token.Name (codes "nx")) 1 ∷ [])
unfolding keyword is_reserved plain_words conversions
and_before_a_word = (
  record { own = codes "&"; spells = Some (token.Keyword (word.Apply op.And false)) } ∷ record { own = codes "Nx"; spells = Some (token.Name (codes "nx")) } ∷ [],
  refl,
  (inr (refl, refl), (inl (inl refl, refl), tt)),
  refl,
)

-- The star that opens a comment doesn't close it.

abbrev is_pair : List ℕ → Bool
is_pair (x ∷ y ∷ []) = true
is_pair _ = false

not_closed : StandsIn (codes "*)") (codes ")" ++ codes "*") → ⊥
not_closed ([], b, e) = true≢false (ap (starts (nat_eq 41)) e)
not_closed (x ∷ [], b, e) = true≢false (ap is_pair e)
not_closed (x ∷ y ∷ [], b, e) = true≢false (ap is_pair e)
not_closed (x ∷ y ∷ z ∷ a, b, e) = true≢false (ap is_pair e)

pub comment_with_a_parenthesis : AreTokens (codes "(*)*)") []
comment_with_a_parenthesis = (record { own = codes "(*)*)"; spells = None } ∷ [], refl, (inr (inr (codes ")", refl, not_closed)), tt), refl)
