-- The variables that are kept over a restart: the key `retain` of a site file, and their lines in the file of what is kept.
-- IEC 61131-3 edition 2, 2.4.2 (RETAIN); the key and the lines are this project's.
use Rattle.std.specs.Prelude.{◌≡◌, ℕ, ℤ, Bool, true, false, ◌&&◌, List, [], ◌∷◌, ◌++◌, length, take, drop, slice_get, slice_set, Option, None, Some, option_and_then, option_map, Result, Ok, codes}
use Rattle.std.specs.List.{list_any, position}
use Rattle.std.specs.Option.{ok_or}
use Rattle.std.specs.Str.{bytes_eq}
use Rattle.toml.specs.Data.{Data, table, Items, no_items, item, get, as_str}
use Rattle.toml.specs.Parse.{parse_document}
use Rattle.point_types.specs.Name.{name_of}
use Rattle.point_types.specs.Value.{◌>>=◌}
use Rattle.point_types.specs.declared.variable.Var.{Var}
use Rattle.file_keys.specs.Keys.{optional_texts_at}
use Rattle.scan_vm.specs.Resuming.{may_begin}
use Rattle.service_texts.specs.State.{Says, name_in, setting}
use Rattle.service_texts.specs.declared.retaining.RetainFault.{RetainFault}
use Rattle.service_texts.specs.declared.retaining.RetainFault.TheVariants as fault
use Rattle.service_texts.specs.declared.retaining.KeptNumber.{KeptNumber}

-- ---- the names in the site file

abbrev pub name_from : Data → Option (List ℕ)
name_from text = option_and_then name_of (as_str text)

-- the name that the text with this number is
abbrev pub name_at : ℕ → Data → Result (List ℕ) RetainFault
name_at n text = ok_or (name_from text) (fault.NoName n)

-- the names of a list in order, after those before them, or the number of the first text that is no name
abbrev pub names_after : List (List ℕ) → Items → Result (List (List ℕ)) RetainFault
names_after seen no_items = Ok seen
names_after seen (item text texts) = name_at (length seen) text >>= λ name. names_after (seen ++ name ∷ []) texts

-- without a list there is none
abbrev pub names_listed : Option Items → Result (List (List ℕ)) RetainFault
names_listed None = Ok []
names_listed (Some texts) = names_after [] texts

-- `retain` of the section `gateway`
abbrev pub names_in : Data → Result (List (List ℕ)) RetainFault
names_in file = ok_or (get (codes "gateway") file) fault.NotToml >>= λ gateway. ok_or (optional_texts_at (codes "retain") gateway) fault.NoList >>= names_listed

abbrev pub retained_in : List ℕ → Result (List (List ℕ)) RetainFault
retained_in text = ok_or (option_map table (parse_document text)) fault.NotToml >>= names_in

-- whether a variable of this name is kept
abbrev pub is_among : List (List ℕ) → List ℕ → Bool
is_among names name = list_any (λ n. bytes_eq n name) names

-- ---- their lines

-- VAR NAME=NUMBER
abbrev pub mark : List ℕ
mark = codes "VAR "

abbrev pub variable_line : List ℕ → Option ℤ → List ℕ
variable_line name None = []
variable_line name (Some number) = mark ++ setting name number ++ codes "\n"

-- the lines of the variables of which a number is listed, in their order
abbrev pub variables_text : List Var → List (Option ℤ) → List ℕ
variables_text [] numbers = []
variables_text (v ∷ vars) [] = []
variables_text (v ∷ vars) (number ∷ numbers) = variable_line v.name number ++ variables_text vars numbers

-- ---- what a line keeps

-- whether the name that a line says is `VAR ` and the variable's
abbrev pub is_said : List ℕ → Var → Bool
is_said name v = bytes_eq (take (length mark) name) mark && bytes_eq (drop (length mark) name) v.name

-- whether a number of a variable, where there is one, may be kept: that is one of those that are kept, and may begin with it
abbrev pub may_be_kept : List (List ℕ) → ℤ → Option Var → Bool
may_be_kept names number None = false
may_be_kept names number (Some v) = is_among names v.name && may_begin v number

-- A line keeps this number of the first variable whose name it says, which may be kept so.
pub record Keeps (vars : List Var) (names : List (List ℕ)) (text : List ℕ) (i : ℕ) (number : ℤ) : Type 0 where
  pub said : Says text (name_in text) number
  pub first : position (is_said (name_in text)) vars ≡ Some i
  pub may : may_be_kept names number (slice_get vars i) ≡ true

-- the numbers that are kept, with that of a line more
abbrev pub with_kept : Option KeptNumber → List (Option ℤ) → List (Option ℤ)
with_kept None numbers = numbers
with_kept (Some kept) numbers = slice_set numbers kept.variable (Some kept.number)
