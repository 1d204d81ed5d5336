-- The lines that the program prints.
-- No standard says what is printed; these lines are this project's.
use Rattle.std.specs.Prelude.{ℕ, ◌+◌, ℤ, pos, List, [], ◌∷◌, ◌++◌, Option, Some, None, if◌then◌else◌, codes}
use Rattle.std.specs.Fmt.{decimal, signed_decimal}
use Rattle.point_types.specs.declared.il_type.IlType.{IlType}
use Rattle.point_types.specs.declared.variable.Var.{Var}
use Rattle.point_types.specs.Value.{is_bool, int_eq}
use Rattle.scan_code.specs.declared.image.Tag.{Tag}
use Rattle.gateway.specs.declared.poller.cycle.Report.{Report}
use Rattle.gateway.specs.poller.Telling.{scan_line}

-- a value: TRUE or FALSE for a BOOL, else a decimal
abbrev pub shown : IlType → ℤ → List ℕ
shown kind n = if is_bool kind then (if int_eq n (pos 1) then codes "TRUE" else codes "FALSE") else signed_decimal n

-- a line, with its end
abbrev pub line_of : List ℕ → List ℕ
line_of text = text ++ codes "\n"

-- NAME=VALUE
abbrev pub named_line : List ℕ → List ℕ → List ℕ
named_line name value = line_of (name ++ codes "=" ++ value)

-- the variables, in the order of their declarations
abbrev pub variable_lines : List Var → List ℤ → List ℕ
variable_lines [] ns = []
variable_lines (v ∷ vs) [] = []
variable_lines (v ∷ vs) (n ∷ ns) = named_line v.name (shown v.kind n) ++ variable_lines vs ns

abbrev pub shown_output : IlType → Option ℤ → List ℕ
shown_output kind None = codes "unset"
shown_output kind (Some n) = shown kind n

-- an output's line; an input has none
abbrev pub output_line : Tag → Option ℤ → List ℕ
output_line t n = if t.output then named_line t.name (shown_output t.kind n) else []

-- the outputs, in the order of their declarations
abbrev pub output_lines : List Tag → List (Option ℤ) → List ℕ
output_lines [] ns = []
output_lines (t ∷ ts) [] = []
output_lines (t ∷ ts) (n ∷ ns) = output_line t n ++ output_lines ts ns

abbrev pub steps_line : ℕ → List ℕ
steps_line n = line_of (codes "steps " ++ decimal n)

-- trap KIND at N
abbrev pub trap_line : List ℕ → ℕ → List ℕ
trap_line kind at = line_of (codes "trap " ++ kind ++ codes " at " ++ decimal at)

-- refused: read KIND line N
abbrev pub unread_line : List ℕ → ℕ → List ℕ
unread_line kind line = line_of (codes "refused: read " ++ kind ++ codes " line " ++ decimal line)

-- refused: assemble KIND line N
abbrev pub unassembled_line : List ℕ → ℕ → List ℕ
unassembled_line kind line = line_of (codes "refused: assemble " ++ kind ++ codes " line " ++ decimal line)

abbrev pub no_memory_line : List ℕ
no_memory_line = line_of (codes "refused: memory")

-- the K-th input line
abbrev pub bad_input_line : ℕ → List ℕ
bad_input_line k = line_of (codes "refused: input " ++ decimal k)

-- refused: definition KIND
abbrev pub bad_definition_line : List ℕ → List ℕ
bad_definition_line kind = line_of (codes "refused: definition " ++ kind)

-- refused: site KIND
abbrev pub bad_site_line : List ℕ → List ℕ
bad_site_line kind = line_of (codes "refused: site " ++ kind)

-- accepted, and the most steps of a scan
abbrev pub accepted_lines : ℕ → List ℕ
accepted_lines budget = line_of (codes "accepted") ++ line_of (codes "budget " ++ decimal budget)

-- refused: verify KIND at N
abbrev pub unverified_line : List ℕ → ℕ → List ℕ
unverified_line kind at = line_of (codes "refused: verify " ++ kind ++ codes " at " ++ decimal at)

-- refused: plant KIND
abbrev pub bad_plant_line : List ℕ → List ℕ
bad_plant_line kind = line_of (codes "refused: plant " ++ kind)

-- refused: core KIND
abbrev pub bad_core_line : List ℕ → List ℕ
bad_core_line kind = line_of (codes "refused: core " ++ kind)

-- refused: map KIND
abbrev pub bad_map_line : List ℕ → List ℕ
bad_map_line kind = line_of (codes "refused: map " ++ kind)

-- listening PORT
abbrev pub listening_line : ℕ → List ℕ
listening_line port = line_of (codes "listening " ++ decimal port)

-- link: KIND
abbrev pub link_line : List ℕ → List ℕ
link_line kind = line_of (codes "link: " ++ kind)

-- refused: file PATH
abbrev pub unusable_line : List ℕ → List ℕ
unusable_line path = line_of (codes "refused: file " ++ path)

-- the lines of scans from the k-th on
abbrev pub scan_lines : ℕ → List Report → List ℕ
scan_lines k [] = []
scan_lines k (r ∷ rs) = scan_line k r ++ scan_lines (k + 1) rs
