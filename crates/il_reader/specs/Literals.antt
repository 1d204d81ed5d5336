-- Numbers: digits with a sign or a base before them or neither, and before all that a type or none.
-- IEC 61131-3 edition 2, 2.2.1 numeric literals.
use Rattle.std.specs.Prelude.{◌≡◌, ◌⊎◌, ℕ, ◌+◌, ◌*◌, Bool, true, false, ℤ, pos, neg_ℤ, List, [], ◌∷◌, ◌++◌, map, Option, Some, None, codes}
use Rattle.point_types.specs.declared.il_type.IlType.{IlType}
use Rattle.point_types.specs.Name.{folded}
use Rattle.point_types.specs.Value.{low_of, high_of, is_within}
use Rattle.il_reader.specs.declared.numeral.Base.{Base}
use Rattle.il_reader.specs.declared.numeral.Base.TheVariants as base
use Rattle.il_reader.specs.declared.token.Token.{Token}
use Rattle.il_reader.specs.declared.token.Token.TheVariants as token
use Rattle.il_reader.specs.Tokens.{keyword, digit_of, below, limits_of, literal_type}

-- what stands before the digits: nothing, a sign (minus where true), or a base
pub data Front : Type 0 where
  Bare : Front
  Signed : Bool → Front
  Based : Base → Front

-- how it is spelled
abbrev pub front_bytes : Front → List ℕ
front_bytes Bare = []
front_bytes (Signed false) = codes "+"
front_bytes (Signed true) = codes "-"
front_bytes (Based base.Two) = codes "2#"
front_bytes (Based base.Eight) = codes "8#"
front_bytes (Based base.Sixteen) = codes "16#"

-- how many digits there are
abbrev pub front_radix : Front → ℕ
front_radix (Based base.Two) = 2
front_radix (Based base.Eight) = 8
front_radix (Based base.Sixteen) = 16
front_radix f = 10

-- digits of base r after the first, an underscore before each or none, and their values
abbrev pub AreFurther : ℕ → List ℕ → List ℕ → Type 0
AreFurther r own [] = own ≡ []
AreFurther r own (d ∷ ds) = (b : ℕ) × (bs : List ℕ) × (below r (digit_of b) ≡ Some d) × ((own ≡ b ∷ bs) ⊎ (own ≡ 95 ∷ b ∷ bs)) × AreFurther r bs ds

-- integer ::= digit {['_'] digit}
abbrev pub AreDigits : ℕ → List ℕ → List ℕ → Type 0
AreDigits r own [] = ⊥
AreDigits r own (d ∷ ds) = (b : ℕ) × (bs : List ℕ) × (below r (digit_of b) ≡ Some d) × (own ≡ b ∷ bs) × AreFurther r bs ds

-- what the digits after a number m make of it
abbrev pub number_from : ℕ → ℕ → List ℕ → ℕ
number_from r m [] = m
number_from r m (d ∷ ds) = number_from r (r * m + d) ds

abbrev pub with_sign : Front → ℕ → ℤ
with_sign (Signed true) m = neg_ℤ (pos m)
with_sign f m = pos m

-- the number of all digits
abbrev pub number_of : Front → List ℕ → ℤ
number_of f ds = with_sign f (number_from (front_radix f) 0 ds)

abbrev pub literal_token : Option IlType → Front → ℤ → Token
literal_token (Some k) f n = token.Typed k n
literal_token None Bare n = token.Decimal n
literal_token None f n = token.Number n

-- before all that: a type's word in either case and #, or nothing
abbrev pub IsTypeBefore : Option IlType → List ℕ → Type 0
IsTypeBefore None own = own ≡ []
IsTypeBefore (Some k) own = (w : List ℕ) × (own ≡ w ++ codes "#") × (literal_type (keyword (map folded w)) ≡ Some k)

-- A number, within its type, and within LINT where it names none.
pub record IsNumber (own : List ℕ) (t : Token) : Type 0 where
  pub kind : Option IlType
  pub front : Front
  pub before : List ℕ
  pub figures : List ℕ
  pub values : List ℕ
  pub bytes : own ≡ before ++ front_bytes front ++ figures
  pub typed : IsTypeBefore kind before
  pub digits : AreDigits (front_radix front) figures values
  pub within : is_within (low_of (limits_of kind)) (high_of (limits_of kind)) (number_of front values) ≡ true
  pub spelled : literal_token kind front (number_of front values) ≡ t
