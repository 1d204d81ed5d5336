-- Reading an image from bytes: each part is judged from left to right as soon as it is whole, and the first fault is given.
-- IEC 61131-3 edition 2, 3.2 leaves the form of compiled code open; images are this project's.
use Rattle.std.specs.Prelude.{◌≡◌, ℕ, zero, suc, Bool, true, false, ◌&&◌, ℤ, List, [], ◌∷◌, ◌++◌, length, take, drop, if◌then◌else◌, Option, Some, None, Result, Ok, Err, MatchResult, ◌⊎◌, slice_get, nat_le, nat_eq, int_le, refl}
use Rattle.point_types.specs.Name.{most_characters}
use Rattle.point_types.specs.Value.{low_of, high_of, is_bool, int_eq, is_within, is_ranged}
use Rattle.point_types.specs.declared.il_type.IlType.{IlType}
use Rattle.point_types.specs.declared.variable.Var.{Var}
use Rattle.scan_code.specs.declared.image.Tag.{Tag}
use Rattle.scan_code.specs.declared.image_fault.ImageFault.{ImageFault}
use Rattle.scan_code.specs.declared.image_fault.ImageFault.TheVariants as fault
use Rattle.scan_code.specs.Instruction.{number_from, signed_from, types}
use Rattle.scan_code.specs.Image.{Image, names_of, is_version, is_new, most_entries}
use Rattle.scan_code.specs.ImageSpelling.{mark}

-- a part and the bytes after it, or a fault
abbrev pub Taken : Type 0 → Type 0
Taken A = Result (A × List ℕ) ImageFault

abbrev pub then_take : {A B : Type 0} → Taken A → (A → List ℕ → Taken B) → Taken B
then_take (Ok found) next = next found.0 found.1
then_take (Err e) next = Err e

abbrev pub kept_if : {A : Type 0} → Bool → ImageFault → A → List ℕ → Taken A
kept_if true e a rest = Ok (a, rest)
kept_if false e a rest = Err e

abbrev pub byte_at : List ℕ → Taken ℕ
byte_at [] = Err fault.Cut
byte_at (b ∷ rest) = Ok (b, rest)

abbrev pub place_at : List ℕ → Taken ℕ
place_at (a ∷ b ∷ rest) = Ok (number_from 0 (a ∷ b ∷ []), rest)
place_at rest = Err fault.Cut

abbrev pub number_at : List ℕ → Taken ℤ
number_at (a ∷ b ∷ c ∷ d ∷ e ∷ f ∷ g ∷ h ∷ rest) = Ok (signed_from (a ∷ b ∷ c ∷ d ∷ e ∷ f ∷ g ∷ h ∷ []), rest)
number_at rest = Err fault.Cut

abbrev pub piece_at : ℕ → List ℕ → Taken (List ℕ)
piece_at n bytes = if nat_le n (length bytes) then Ok (take n bytes, drop n bytes) else Err fault.Cut

-- the bytes of the mark one by one: a byte that is there and differs comes before one that is missing
abbrev pub behind_mark : List ℕ → List ℕ → Taken (Unit {0})
behind_mark [] bytes = Ok (tt, bytes)
behind_mark (m ∷ ms) [] = Err fault.Cut
behind_mark (m ∷ ms) (b ∷ rest) = if nat_eq b m then behind_mark ms rest else Err fault.Mark

abbrev pub version_at : List ℕ → Taken ℕ
version_at bytes = then_take (byte_at bytes) (λ n rest. kept_if (is_version n) fault.Version n rest)

abbrev pub count_at : List ℕ → Taken ℕ
count_at bytes = then_take (place_at bytes) (λ n rest. kept_if (nat_le n most_entries) fault.Field n rest)

abbrev pub name_length_at : List ℕ → Taken ℕ
name_length_at bytes = then_take (byte_at bytes) (λ n rest. kept_if (nat_le 1 n && nat_le n most_characters) fault.Field n rest)

abbrev pub name_at : List (List ℕ) → List ℕ → Taken (List ℕ)
name_at before bytes =
    then_take (name_length_at bytes) (λ n rest. then_take (piece_at n rest) (λ name rest. kept_if (is_new before name) fault.Field name rest))

abbrev pub type_or_fault : Option IlType → List ℕ → Taken IlType
type_or_fault (Some kind) rest = Ok (kind, rest)
type_or_fault None rest = Err fault.Field

abbrev pub type_at : List ℕ → Taken IlType
type_at bytes = then_take (byte_at bytes) (λ n rest. type_or_fault (slice_get types n) rest)

-- an end of a range lies in the type; a BOOL has the ends of its type
abbrev pub is_low : IlType → ℤ → Bool
is_low kind n = if is_bool kind then int_eq n (low_of kind) else is_within (low_of kind) (high_of kind) n

abbrev pub is_high : IlType → ℤ → ℤ → Bool
is_high kind low n = if is_bool kind then int_eq n (high_of kind) else is_within (low_of kind) (high_of kind) n && int_le low n

abbrev pub low_at : IlType → List ℕ → Taken ℤ
low_at kind bytes = then_take (number_at bytes) (λ n rest. kept_if (is_low kind n) fault.Field n rest)

abbrev pub high_at : IlType → ℤ → List ℕ → Taken ℤ
high_at kind low bytes = then_take (number_at bytes) (λ n rest. kept_if (is_high kind low n) fault.Field n rest)

-- a variable, if its start lies in its range too
abbrev pub ranged : List ℕ → (kind : IlType) (low high start : ℤ) → (b : Bool) → is_ranged kind low high start ≡ b → List ℕ → Taken Var
ranged name kind low high start true e rest = Ok (record { name = name; kind = kind; low = low; high = high; start = start; ranged = e }, rest)
ranged name kind low high start false e rest = Err fault.Field

abbrev pub var_behind : List ℕ → IlType → List ℕ → Taken Var
var_behind name kind bytes =
    then_take (low_at kind bytes) (λ low rest. then_take (high_at kind low rest) (λ high rest. then_take (number_at rest) (λ start rest.
    ranged name kind low high start (is_ranged kind low high start) refl rest)))

abbrev pub var_at : List (List ℕ) → List ℕ → Taken Var
var_at before bytes = then_take (name_at before bytes) (λ name rest. then_take (type_at rest) (λ kind rest. var_behind name kind rest))

abbrev pub direction_at : List ℕ → Taken ℕ
direction_at bytes = then_take (byte_at bytes) (λ n rest. kept_if (nat_le n 1) fault.Field n rest)

abbrev pub tag_at : List (List ℕ) → List ℕ → Taken Tag
tag_at before bytes =
    then_take (name_at before bytes) (λ name rest. then_take (direction_at rest) (λ n rest. then_take (type_at rest) (λ kind rest.
    Ok (record { name = name; output = nat_eq n 1; kind = kind }, rest))))

abbrev pub vars_at : ℕ → List Var → List ℕ → Taken (List Var)
vars_at zero before bytes = Ok (before, bytes)
vars_at (suc n) before bytes = then_take (var_at (names_of before []) bytes) (λ v rest. vars_at n (before ++ v ∷ []) rest)

abbrev pub tags_at : ℕ → List Var → List Tag → List ℕ → Taken (List Tag)
tags_at zero vars before bytes = Ok (before, bytes)
tags_at (suc n) vars before bytes = then_take (tag_at (names_of vars before) bytes) (λ t rest. tags_at n vars (before ++ t ∷ []) rest)

abbrev pub tables_at : ℕ → ℕ → ℕ → ℕ → List ℕ → Taken Image
tables_at version variables tags size bytes =
    then_take (vars_at variables [] bytes) (λ vars rest. then_take (tags_at tags vars [] rest) (λ tags rest. then_take (piece_at size rest) (λ code rest.
    Ok (record { version = version; vars = vars; tags = tags; code = code }, rest))))

abbrev pub image_at : List ℕ → Taken Image
image_at bytes =
    then_take (behind_mark mark bytes) (λ _ rest. then_take (version_at rest) (λ version rest. then_take (count_at rest) (λ variables rest.
    then_take (count_at rest) (λ tags rest. then_take (place_at rest) (λ size rest. tables_at version variables tags size rest)))))

-- nothing may stand after the code
abbrev pub ended : {A : Type 0} → A → List ℕ → Result A ImageFault
ended a [] = Ok a
ended a (b ∷ rest) = Err fault.Rest

abbrev pub whole : {A : Type 0} → Taken A → Result A ImageFault
whole (Err e) = Err e
whole (Ok found) = ended found.0 found.1

abbrev pub image_in : List ℕ → Result Image ImageFault
image_in bytes = whole (image_at bytes)

-- what a reader that stood before the bytes answers, and the bytes after it
abbrev pub Takes : {A : Type 0} → Taken A → Result A ImageFault → List ℕ → Type 0
Takes taken answer rest = MatchResult answer (λ a. taken ≡ Ok (a, rest)) (λ e. taken ≡ Err e)

-- or memory was refused
abbrev pub TakesOrWantsMemory : {A : Type 0} → Taken A → Result A ImageFault → List ℕ → Type 0
TakesOrWantsMemory taken answer rest = MatchResult answer (λ a. taken ≡ Ok (a, rest)) (λ e. (taken ≡ Err e) ⊎ (e ≡ fault.OutOfMemory))
