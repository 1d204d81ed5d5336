-- Names of programs, variables, externals and tags.
-- IEC 61131-3 edition 2, 2.1.2 identifiers, 2.1.3 keywords.
use Rattle.std.specs.Prelude.{◌≡◌, ℕ, ◌≤◌, IsTrue, take, ◌+◌, ◌-◌, Bool, true, false, not, ◌&&◌, ◌||◌, List, [], ◌∷◌, ◌++◌, length, if◌then◌else◌, nat_eq, nat_le, replicate, map, Option, Some, None}
use Rattle.std.specs.List.{list_all}
use Rattle.point_types.specs.Keyword.{is_reserved}

abbrev pub is_between : ℕ → ℕ → ℕ → Bool
is_between a b x = nat_le a x && nat_le x b

abbrev pub is_digit : ℕ → Bool
is_digit b = is_between 48 57 b

abbrev pub is_underscore : ℕ → Bool
is_underscore b = nat_eq b 95

-- a letter in lower case, or the underscore
abbrev pub is_letter : ℕ → Bool
is_letter b = is_between 97 122 b || is_underscore b

-- a letter in lower case
abbrev pub folded : ℕ → ℕ
folded b = if is_between 65 90 b then b + 32 else b

-- no underscore is the last character or stands before another one
-- (cut off: after an underscore comes nothing, or another one)
abbrev pub is_cut_off : List ℕ → Bool
is_cut_off [] = true
is_cut_off (b ∷ bs) = is_underscore b

abbrev pub is_parted : List ℕ → Bool
is_parted [] = true
is_parted (b ∷ bs) = not (is_underscore b && is_cut_off bs) && is_parted bs

abbrev pub begins_with_letter : List ℕ → Bool
begins_with_letter [] = false
begins_with_letter (b ∷ bs) = is_letter b

abbrev pub is_name_byte : ℕ → Bool
is_name_byte b = is_letter b || is_digit b

-- the most characters of a name
abbrev pub most_characters : ℕ
most_characters = 32

-- letters, digits and underscores, and no reserved word
abbrev pub is_name_word : List ℕ → Bool
is_name_word bs = begins_with_letter bs && list_all is_name_byte bs && is_parted bs && not (is_reserved bs)

abbrev pub is_name : List ℕ → Bool
is_name bs = nat_le (length bs) most_characters && is_name_word bs

-- the name that a text spells, letters in any case
abbrev pub name_of : List ℕ → Option (List ℕ)
name_of text = if is_name (map folded text) then Some (map folded text) else None

-- the bytes in 32 places, zeros after it
abbrev pub padded : List ℕ → List ℕ
padded bs = bs ++ replicate (32 - length bs) 0

-- a name of so many characters in 32 places, zeros after it
pub record IsPadded (characters : ℕ) (cells : List ℕ) : Type 0 where
  pub short : characters ≤ 32
  pub places : length cells ≡ 32
  pub zeros : cells ≡ padded (take characters cells)
  pub named : IsTrue (is_name (take characters cells))
