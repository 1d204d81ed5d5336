-- Input lines of the run without arguments: which reading each tag has.
-- IEC 61131-3 edition 2, 2.2.1 numeric literals, for the numbers.
use Rattle.std.specs.Prelude.{ℕ, suc, ◌+◌, ◌-◌, Bool, true, false, not, ◌&&◌, ℤ, pos, ◌+ℤ◌, ◌-ℤ◌, ◌*ℤ◌, List, [], ◌∷◌, map, take, drop, if◌then◌else◌, Option, Some, None, Result, Ok, Err, nat_eq, bytes_eq, codes, option_map, slice_get, slice_set}
use Rattle.std.specs.Char.{to_ascii_lowercase}
use Rattle.point_types.specs.declared.il_type.IlType.{IlType}
use Rattle.point_types.specs.declared.reading.Reading.{Reading}
use Rattle.point_types.specs.declared.reading.Reading.TheVariants as reading
use Rattle.point_types.specs.declared.reading.Cause.TheVariants as cause
use Rattle.point_types.specs.Name.{is_digit, is_underscore, name_of}
use Rattle.point_types.specs.Value.{low_of, high_of, is_within, is_bool}
use Rattle.scan_code.specs.declared.image.Tag.{Tag}
use Rattle.commands.specs.declared.given.GivenEntry.{GivenEntry}
use Rattle.commands.specs.Input.{before_end, is_blank_line}

-- The value that a line gives.

-- a number of a type
abbrev pub held : IlType → ℤ → Option ℤ
held k n = if is_within (low_of k) (high_of k) n then Some n else None

-- a number with one more digit
abbrev pub grown : Bool → ℤ → ℕ → ℤ
grown true n b = (pos 10 *ℤ n) -ℤ pos (b - 48)
grown false n b = (pos 10 *ℤ n) +ℤ pos (b - 48)

abbrev pub if_some : {A B : Type 0} → Option A → (A → Option B) → Option B
if_some (Some a) f = f a
if_some None f = None

-- the digits of a number after n, single underscores between them; wanting: a digit must come.
-- What begins a number of a type lies in the type itself.
abbrev pub digits : IlType → Bool → Bool → ℤ → List ℕ → Option ℤ
digits k negative wanting n [] = if wanting then None else Some n
digits k negative wanting n (b ∷ bs) =
    if is_digit b then if_some (held k (grown negative n b)) (λ m. digits k negative false m bs)
    else if is_underscore b && not wanting then digits k negative true n bs
    else None

-- a decimal of a type: a sign or none, and digits
abbrev pub number_given : IlType → List ℕ → Option ℤ
number_given k [] = None
number_given k (b ∷ bs) =
    if nat_eq b 43 then digits k false true (pos 0) bs
    else if nat_eq b 45 then digits k true true (pos 0) bs
    else digits k false true (pos 0) (b ∷ bs)

-- TRUE or FALSE, in any case
abbrev pub truth_given : List ℕ → Option ℤ
truth_given text =
    if bytes_eq (map to_ascii_lowercase text) (codes "true") then Some (pos 1)
    else if bytes_eq (map to_ascii_lowercase text) (codes "false") then Some (pos 0)
    else None

abbrev pub value_given : IlType → List ℕ → Option ℤ
value_given k text = if is_bool k then truth_given text else number_given k text

-- an input of which no line speaks is absent, as one that a line says to be absent
abbrev pub absent : Reading
absent = reading.Absent cause.NoBlock

abbrev pub reading_given : IlType → List ℕ → Option Reading
reading_given k text = if bytes_eq text (codes "absent") then Some absent else option_map reading.Value (value_given k text)

-- The line.

-- where a line's first equals sign stands
abbrev pub equals_from : ℕ → List ℕ → Option ℕ
equals_from i [] = None
equals_from i (b ∷ bs) = if nat_eq b 61 then Some i else equals_from (suc i) bs

-- an input of this name
abbrev pub is_input : Tag → List ℕ → Bool
is_input t n = not t.output && bytes_eq t.name n

-- where the input of a name stands among the tags
abbrev pub input_from : ℕ → List Tag → List ℕ → Option ℕ
input_from i [] n = None
input_from i (t ∷ ts) n = if is_input t n then Some i else input_from (suc i) ts n

abbrev pub at_place : ℕ → Option Reading → Option GivenEntry
at_place i (Some r) = Some (record { place = i; reading = r })
at_place i None = None

-- NAME=VALUE or NAME=absent, without blanks: the entry that the line gives; none where its form, its name or its value
-- isn't that of an input
abbrev pub entry_given : List Tag → List ℕ → Option GivenEntry
entry_given tags line =
    if_some (equals_from 0 line) (λ e. if_some (name_of (take e line)) (λ n. if_some (input_from 0 tags n) (λ i. if_some (slice_get tags i) (λ t. at_place i (reading_given t.kind (drop (e + 1) line))))))

-- The lines.

-- an entry joins those of the lines before it, where none of them was for its input
abbrev pub joined_at : List (Option Reading) → GivenEntry → Option (Option Reading) → Option (List (Option Reading))
joined_at slots e (Some None) = Some (slice_set slots e.place (Some e.reading))
joined_at slots e (Some (Some r)) = None
joined_at slots e None = None

abbrev pub line_given : List Tag → List (Option Reading) → List ℕ → Option (List (Option Reading))
line_given tags slots line = if_some (entry_given tags line) (λ e. joined_at slots e (slice_get slots e.place))

abbrev pub or_refused : ℕ → Option (List (Option Reading)) → (List (Option Reading) → Result (List (Option Reading)) ℕ) → Result (List (Option Reading)) ℕ
or_refused k (Some slots) on = on slots
or_refused k None on = Err k

-- what is known of each tag after these lines, the first of which that isn't blank is the k-th; or the number of the
-- first line that is refused
abbrev pub slots_given : List Tag → List (Option Reading) → ℕ → List (List ℕ) → Result (List (Option Reading)) ℕ
slots_given tags slots k [] = Ok slots
slots_given tags slots k (line ∷ lines) =
    if is_blank_line line then slots_given tags slots k lines
    else or_refused k (line_given tags slots (before_end line)) (λ more. slots_given tags more (k + 1) lines)

-- an input that no line names is absent
abbrev pub reading_in : Option Reading → Reading
reading_in (Some r) = r
reading_in None = absent

abbrev pub readings_in : Result (List (Option Reading)) ℕ → Result (List Reading) ℕ
readings_in (Ok slots) = Ok (map reading_in slots)
readings_in (Err k) = Err k

abbrev pub no_slots : List Tag → List (Option Reading)
no_slots tags = map (λ t. None) tags

-- a reading for each tag, or the number of the first line that is refused
abbrev pub readings_given : List Tag → List (List ℕ) → Result (List Reading) ℕ
readings_given tags lines = readings_in (slots_given tags (no_slots tags) 1 lines)
