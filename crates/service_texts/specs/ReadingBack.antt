-- Of which tags of a site file it is compared what their devices show with what they took: the key `read_back` of its entries `tag`.
-- No standard says it; site files are this project's.
use Rattle.std.specs.Prelude.{ℕ, Bool, true, false, List, [], ◌∷◌, ◌++◌, length, Option, None, Some, option_map, Result, Ok, codes, if◌then◌else◌}
use Rattle.std.specs.Option.{ok_or, option_map_or}
use Rattle.std.specs.Str.{bytes_eq}
use Rattle.toml.specs.Data.{Data, table, Items, no_items, item, get, as_bool}
use Rattle.toml.specs.Parse.{parse_document}
use Rattle.point_types.specs.Value.{◌>>=◌}
use Rattle.file_keys.specs.Keys.{section_at, text_at}
use Rattle.service_texts.specs.declared.reading_back.ReadBackFault.{ReadBackFault}
use Rattle.service_texts.specs.declared.reading_back.ReadBackFault.TheVariants as fault

abbrev pub is_out : Data → Bool
is_out entry = option_map_or (λ access. bytes_eq access (codes "out")) (text_at (codes "access") entry) false

-- true or false, at an `out` tag; true without the key
abbrev pub read_back_from : Data → Option Bool
read_back_from entry = option_map_or (λ said. if is_out entry then as_bool said else None) (get (codes "read_back") entry) (Some true)

-- that of the tag with this number
abbrev pub read_back_at : ℕ → Data → Result Bool ReadBackFault
read_back_at n entry = ok_or (read_back_from entry) (fault.BadReadBack n)

-- of the tags in order, after those before them, or what is wrong with the first one
abbrev pub read_back_after : List Bool → Items → Result (List Bool) ReadBackFault
read_back_after seen no_items = Ok seen
read_back_after seen (item entry entries) = read_back_at (length seen) entry >>= λ is. read_back_after (seen ++ is ∷ []) entries

-- the same of a file
abbrev pub read_back_listed : Data → Result (List Bool) ReadBackFault
read_back_listed doc = ok_or (section_at (codes "tag") doc) fault.NotToml >>= read_back_after []

-- the same of a text
abbrev pub read_back_in : List ℕ → Result (List Bool) ReadBackFault
read_back_in text = ok_or (option_map table (parse_document text)) fault.NotToml >>= read_back_listed
