-- The keys of a table in a TOML file, each with the kind of value that it must have, and the numbers of entries of lists.
-- TOML 1.0: keys, integers, strings, arrays and arrays of tables.
use Rattle.std.specs.Prelude.{ℕ, nat_le, nat_lt, ℤ, pos, negsuc, Bool, true, false, ◌&&◌, is_some, List, suc, Option, None, Some, option_map, option_and_then, if◌then◌else◌}
use Rattle.std.specs.Option.{option_map_or}
use Rattle.toml.specs.Data.{Data, Items, no_items, item, get, as_str, as_integer, as_bool, as_array}

abbrev pub text_at : List ℕ → Data → Option (List ℕ)
text_at key entry = option_and_then as_str (get key entry)

abbrev pub number_at : List ℕ → Data → Option ℤ
number_at key entry = option_and_then as_integer (get key entry)

-- a key that may be missing, with the number that is usual
abbrev pub number_or : List ℕ → ℤ → Data → Option ℤ
number_or key usual entry = option_map_or as_integer (get key entry) (Some usual)

-- a flag that may be missing, with the one that is usual
abbrev pub flag_or : List ℕ → Bool → Data → Option Bool
flag_or key usual entry = option_map_or as_bool (get key entry) (Some usual)

-- a key that may be missing: nothing where it is of another kind
abbrev pub optional_text_at : List ℕ → Data → Option (Option (List ℕ))
optional_text_at key entry = option_map_or (λ d. option_map Some (as_str d)) (get key entry) (Some None)

abbrev pub optional_number_at : List ℕ → Data → Option (Option ℤ)
optional_number_at key entry = option_map_or (λ d. option_map Some (as_integer d)) (get key entry) (Some None)

-- lists whose elements are of one kind
abbrev pub all_numbers : Items → Bool
all_numbers no_items = true
all_numbers (item d ds) = is_some (as_integer d) && all_numbers ds

abbrev pub all_texts : Items → Bool
all_texts no_items = true
all_texts (item d ds) = is_some (as_str d) && all_texts ds

abbrev pub numbers_in : Data → Option Items
numbers_in d = option_and_then (λ items. if all_numbers items then Some items else None) (as_array d)

abbrev pub texts_in : Data → Option Items
texts_in d = option_and_then (λ items. if all_texts items then Some items else None) (as_array d)

abbrev pub optional_texts_at : List ℕ → Data → Option (Option Items)
optional_texts_at key entry = option_map_or (λ d. option_map Some (texts_in d)) (get key entry) (Some None)

-- the list at a key
abbrev pub list_at : List ℕ → Data → Option Items
list_at key tree = option_and_then as_array (get key tree)

-- the entries of a section, none where it is missing
abbrev pub section_at : List ℕ → Data → Option Items
section_at key doc = option_map_or as_array (get key doc) (Some no_items)

abbrev pub count : Items → ℕ
count no_items = 0
count (item d ds) = suc (count ds)

-- a list of more than so many elements
abbrev pub is_over : ℕ → Data → Bool
is_over most d = option_map_or (λ items. nat_lt most (count items)) (as_array d) false

abbrev pub has_over : ℕ → List ℕ → Data → Bool
has_over most key tree = option_map_or (is_over most) (get key tree) false

-- a number in 0..most
abbrev pub natural_within : ℕ → ℤ → Option ℕ
natural_within most (pos n) = if nat_le n most then Some n else None
natural_within most (negsuc n) = None
