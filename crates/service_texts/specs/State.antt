-- The file in which set values are kept. No standard says what it holds; it is this project's.
use Rattle.std.specs.Prelude.{◌≡◌, ℕ, ◌+◌, ◌<◌, ◌==◌, Bool, ℤ, List, [], ◌∷◌, ◌++◌, length, Option, Some, None, codes, IsTrue, ⊤, if◌then◌else◌}
use Rattle.std.specs.Fmt.{signed_decimal}
use Rattle.std.specs.Int.RustNames.{FitsSigned}
use Rattle.std.specs.List.{position_or_len, before_first, after_first}
use Rattle.std.specs.Str.{bytes_eq}
use Rattle.std.specs.Str.Parse.{IsNumeral, signed_digits_value, without_leading_sign}
use mir.Syntax.{w64}
use Rattle.point_types.specs.Name.{is_name}
use Rattle.site_model.specs.declared.tag.SiteTag.{SiteTag}
use Rattle.service_texts.specs.declared.state_lines.StateLine.{StateLine}
use Rattle.service_texts.specs.declared.state_lines.StateLine.TheVariants.{Sets, NoSetting, NoTag}

-- NAME=NUMBER
abbrev pub setting : List ℕ → ℤ → List ℕ
setting name number = name ++ codes "=" ++ signed_decimal number

-- the line of a tag; none where it isn't set
abbrev pub tag_line : List ℕ → Option ℤ → List ℕ
tag_line name (Some number) = setting name number ++ codes "\n"
tag_line name None = []

-- the lines of the tags that are set, in their order
abbrev pub state_text : List SiteTag → List (Option ℤ) → List ℕ
state_text [] numbers = []
state_text (tag ∷ tags) [] = []
state_text (tag ∷ tags) (number ∷ numbers) = tag_line tag.name number ++ state_text tags numbers

abbrev pub is_equals_sign : ℕ → Bool
is_equals_sign b = b == 61

-- a line says a setting: the name before its first equals sign, and the number after that sign, which is a decimal
-- of 64 bits, with a sign or without one
pub record Says (line name : List ℕ) (number : ℤ) : Type 0 where
  pub parted : position_or_len is_equals_sign line < length line
  pub named : before_first is_equals_sign line ≡ name
  pub numeral : IsNumeral 10 (without_leading_sign (after_first is_equals_sign line))
  pub counted : signed_digits_value 10 (after_first is_equals_sign line) ≡ number
  pub fits : FitsSigned w64 number

-- what is known of a tag that is set: its name is one of Instruction List, and the number has 64 bits
abbrev pub IsFit : List ℕ → Option ℤ → Type 0
IsFit name (Some number) = IsTrue (is_name name) × FitsSigned w64 number
IsFit name None = ⊤

-- these lines say, in order, what the tags are set to that are set, and nothing else
abbrev pub AreSaid : List SiteTag → List (Option ℤ) → List (List ℕ) → Type 0
AreSaid [] numbers lines = lines ≡ []
AreSaid (tag ∷ tags) [] lines = lines ≡ []
AreSaid (tag ∷ tags) (None ∷ numbers) lines = AreSaid tags numbers lines
AreSaid (tag ∷ tags) (Some number ∷ numbers) [] = ⊥
AreSaid (tag ∷ tags) (Some number ∷ numbers) (line ∷ lines) = Says line tag.name number × AreSaid tags numbers lines

-- the number of the tag of a name, among tags of which the first has this number
abbrev pub tag_from : ℕ → List ℕ → List SiteTag → Option ℕ
tag_from n name [] = None
tag_from n name (tag ∷ tags) = if bytes_eq tag.name name then Some n else tag_from (n + 1) name tags

-- the name that a line says
abbrev pub name_in : List ℕ → List ℕ
name_in line = before_first is_equals_sign line

-- what a line of the file sets: the first tag of the name that it says, to the number that it says; where it is left out, it
-- says no setting, or one of a name that no tag has
abbrev pub IsStateLine : List SiteTag → List ℕ → StateLine → Type 0
IsStateLine tags line (Sets tag number) = Says line (name_in line) number × (tag_from 0 (name_in line) tags ≡ Some tag)
IsStateLine tags line NoSetting = (name : List ℕ) (number : ℤ) → Says line name number → ⊥
IsStateLine tags line NoTag = ((number : ℤ) × Says line (name_in line) number) × (tag_from 0 (name_in line) tags ≡ None)
