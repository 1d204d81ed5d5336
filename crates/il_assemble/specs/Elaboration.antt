-- From a program as it is written to the resolved program, whose names are places and whose literals have types, or to its first static fault.
-- IEC 61131-3 (edition 2), 2.2.1 numeric literals, 2.4.1 representation of variables, 3.2 instructions.
use Rattle.std.specs.Prelude.{ℕ, ◌+◌, Bool, true, ◌&&◌, List, [], ◌∷◌, ◌++◌, length, map, if◌then◌else◌, Result, Ok, Err, Option, Some, None, option_map, unwrap_or, slice_get, nat_le, ◌-◌}
use Rattle.point_types.specs.declared.il_type.IlType.{IlType}
use Rattle.point_types.specs.declared.il_type.IlType.TheVariants as il
use Rattle.point_types.specs.declared.variable.Var.{Var}
use Rattle.point_types.specs.Value.{truth, ◌>>=◌}
use Rattle.scan_code.specs.Image.{are_new, is_whole_if_bool, names_of}
use Rattle.scan_code.specs.declared.op.Op.{Op}
use Rattle.scan_code.specs.declared.op.Op.TheVariants as does
use Rattle.scan_code.specs.Spelling.{spelled_all}
use Rattle.il_reader.specs.Limit.{most_names, most_nested}
use Rattle.il_reader.specs.declared.tree.Program.{Program as Tree}
use Rattle.il_reader.specs.declared.tree.Variable.{Variable}
use Rattle.il_reader.specs.declared.tree.External.{External}
use Rattle.il_reader.specs.declared.tree.Statement.{Statement}
use Rattle.il_reader.specs.declared.tree.Action.{Action}
use Rattle.il_reader.specs.declared.tree.Action.TheVariants as action
use Rattle.il_reader.specs.declared.tree.Operand.{Operand}
use Rattle.il_reader.specs.declared.tree.Operand.TheVariants.{Named, Truth, Number, Typed}
use Rattle.il_assemble.specs.declared.fault.AsmFault.{AsmFault}
use Rattle.il_assemble.specs.declared.fault.AsmFaultKind.TheVariants as kind
use Rattle.il_assemble.specs.declared.names.Known.{Known}
use Rattle.il_assemble.specs.declared.names.Known.TheVariants as known
use Rattle.il_assemble.specs.Meaning.{Program, Line, Source, Place}
use Rattle.il_assemble.specs.Meaning as resolved
use Rattle.il_assemble.specs.Code.{action_code, not_code, simple_code, start_code}
use Rattle.il_assemble.specs.Limit.{most_counted, most_code}
use Rattle.il_assemble.specs.Names.{Scope, known_as, tag_place, tags_of, uses_of}
use Rattle.il_assemble.specs.Typing.{or_dint, type_beside, whole_type, loaded_type, loaded_inner_type, type_after, type_inside, type_after_line}
use Rattle.il_assemble.specs.StaticFault.{label_place, checked_lines}
use Rattle.il_assemble.specs.Written.{Written, Load, Apply, Defer, Limit, Select, Invert, Absolute, Convert, Inner, Close, Then}

-- Each instruction resolves to one; where a fault holds, to any.

-- where a name's value comes from
abbrev pub source_known : Scope → Option Known → Source
source_known g None = resolved.Variable 0
source_known g (Some (known.Variable i)) = resolved.Variable i
source_known g (Some (known.External i)) = resolved.Input (tag_place g.uses i)
source_known g (Some (known.Presence i)) = resolved.Presence (tag_place g.uses i)

-- an operand, where an untyped number takes the type wanted
abbrev pub source_of : Scope → IlType → Operand → Source
source_of g wanted (Named name) = source_known g (known_as g name)
source_of g wanted (Truth b) = resolved.Constant (truth b)
source_of g wanted (Number n) = resolved.Constant (record { kind = wanted; number = n })
source_of g wanted (Typed kind n) = resolved.Constant (record { kind = kind; number = n })

-- where a value is stored
abbrev pub place_known : Scope → Option Known → Place
place_known g None = resolved.InVariable 0
place_known g (Some (known.Variable i)) = resolved.InVariable i
place_known g (Some (known.External i)) = resolved.InOutput (tag_place g.uses i)
place_known g (Some (known.Presence i)) = resolved.InVariable 0

abbrev pub first_source : Scope → IlType → Option Operand → Option Source
first_source g wanted None = None
first_source g wanted (Some operand) = Some (source_of g wanted operand)

abbrev mutual
  -- an instruction, by the running type before it and the type of a literal that it loads
  pub resolved_simple : Scope → Option IlType → IlType → Written → resolved.Simple
  resolved_simple g running loaded (Load negated operand) = resolved.Load negated (source_of g loaded operand)
  resolved_simple g running loaded (Apply o negated operand) = resolved.Apply o negated (source_of g (or_dint running) operand)
  resolved_simple g running loaded (Defer o negated first inner) =
      resolved.Defer o negated (first_source g (or_dint running) first) (resolved_inner g (type_inside g running first) (whole_type running) inner)
  resolved_simple g running loaded (Limit input most) = resolved.Limit (source_of g (or_dint running) input) (source_of g (or_dint running) most)
  resolved_simple g running loaded (Select a b) = resolved.Select (source_of g (type_beside g b) a) (source_of g (type_beside g a) b)
  resolved_simple g running loaded Invert = resolved.Invert
  resolved_simple g running loaded Absolute = resolved.Absolute
  resolved_simple g running loaded (Convert from to) = resolved.Convert from to

  -- the lines inside parentheses; a literal loaded first takes the type that is given where no next instruction gives one, a later one DINT
  pub resolved_inner : Scope → Option IlType → IlType → Inner → resolved.Inner
  resolved_inner g running else_type Close = resolved.Close
  resolved_inner g running else_type (Then line head tail) =
      resolved.Then (resolved_simple g running (loaded_inner_type g else_type tail) head)
      (resolved_inner g (type_after g running (loaded_inner_type g else_type tail) head) il.Dint tail)

-- Lines.

-- a jump goes to the place of its label's line
abbrev pub target : Scope → List ℕ → ℕ
target g label = unwrap_or (label_place g label) 0

-- where so many counted jumps stand before the line
abbrev pub resolved_action : Scope → ℕ → Option IlType → List Statement → Action → resolved.Action
resolved_action g counter running rest (action.Compute simple) = resolved.Compute (resolved_simple g running (loaded_type g rest) simple)
resolved_action g counter running rest (action.Store negated name) = resolved.Store negated (place_known g (known_as g name))
resolved_action g counter running rest (action.Set value name) = resolved.Set value (place_known g (known_as g name))
resolved_action g counter running rest (action.Jump condition label None) = resolved.Jump condition (target g label)
resolved_action g counter running rest (action.Jump condition label (Some turns)) = resolved.Repeat condition (target g label) counter turns
resolved_action g counter running rest (action.Return condition) = resolved.Return condition

-- a labelled line has its own place among the lines as its label
abbrev pub label_of : ℕ → Option (List ℕ) → Option ℕ
label_of place None = None
label_of place (Some name) = Some place

abbrev pub resolved_line : Scope → ℕ → ℕ → Option IlType → List Statement → Statement → Line
resolved_line g place counter running rest s = record {
  label = label_of place s.label;
  action = option_map (resolved_action g counter running rest) s.action;
}

-- how often a counted jump is taken at most
abbrev pub turns_of : Option Action → List ℕ
turns_of None = []
turns_of (Some (action.Compute simple)) = []
turns_of (Some (action.Store negated name)) = []
turns_of (Some (action.Set value name)) = []
turns_of (Some (action.Jump condition label None)) = []
turns_of (Some (action.Jump condition label (Some turns))) = turns ∷ []
turns_of (Some (action.Return condition)) = []

abbrev pub limits_of : List Statement → List ℕ
limits_of [] = []
limits_of (s ∷ ss) = turns_of s.action ++ limits_of ss

-- the lines, where so many lines and counted jumps stand before them
abbrev pub resolved_lines : Scope → ℕ → ℕ → Option IlType → List Statement → List Line
resolved_lines g place counter running [] = []
resolved_lines g place counter running (s ∷ ss) =
    resolved_line g place counter running ss s
    ∷ resolved_lines g (place + 1) (counter + length (turns_of s.action)) (type_after_line g running ss s.action) ss

-- Limits.

abbrev pub too_long : ℕ → AsmFault
too_long line = record { line = line; kind = kind.TooLong }

abbrev pub unless_variable : Option Variable → Result (Unit {0}) AsmFault
unless_variable None = Ok tt
unless_variable (Some extra) = Err (too_long extra.line)

abbrev pub unless_external : Option External → Result (Unit {0}) AsmFault
unless_external None = Ok tt
unless_external (Some extra) = Err (too_long extra.line)

-- whether so many parentheses stand in one another at most
abbrev mutual
  pub is_nested_within : ℕ → Written → Bool
  is_nested_within room (Load negated operand) = true
  is_nested_within room (Apply o negated operand) = true
  is_nested_within room (Defer o negated first inner) = nat_le 1 room && is_inner_within (room - 1) inner
  is_nested_within room (Limit input most) = true
  is_nested_within room (Select a b) = true
  is_nested_within room Invert = true
  is_nested_within room Absolute = true
  is_nested_within room (Convert from to) = true

  pub is_inner_within : ℕ → Inner → Bool
  is_inner_within room Close = true
  is_inner_within room (Then line head tail) = is_nested_within room head && is_inner_within room tail

abbrev pub is_action_within : Option Action → Bool
is_action_within None = true
is_action_within (Some (action.Compute simple)) = is_nested_within most_nested simple
is_action_within (Some (action.Store negated name)) = true
is_action_within (Some (action.Set value name)) = true
is_action_within (Some (action.Jump condition label turns)) = true
is_action_within (Some (action.Return condition)) = true

abbrev pub nested : List Statement → Result (Unit {0}) AsmFault
nested [] = Ok tt
nested (s ∷ ss) = if is_action_within s.action then nested ss else Err (too_long s.line)

-- more variables, externals or parentheses than a text may have are at fault before any instruction
abbrev pub counted : List Variable → List External → List Statement → Result (Unit {0}) AsmFault
counted variables externals statements =
    unless_variable (slice_get variables most_names) >>= λ _. unless_external (slice_get externals most_names) >>= λ _. nested statements

-- the address after the code of a line that begins at an address
abbrev pub behind : ℕ → Option resolved.Action → ℕ
behind a action = a + length (spelled_all (action_code (λ label. 0) action))

-- A part of an instruction's code, and the line that it belongs to.
pub record Part : Type 0 where
  pub line : ℕ
  pub code : List Op

-- An instruction's code in parts, in order: what stands before the lines inside parentheses and the operator after them
-- belong to the line of the opening one, and each line inside has its own. Without parentheses there is one part.
abbrev mutual
  pub parts_of : Scope → ℕ → Option IlType → IlType → Written → List Part
  parts_of g line running loaded (Defer o negated first inner) =
      record { line = line; code = does.Push ∷ start_code (first_source g (or_dint running) first) }
      ∷ (inner_parts g (type_inside g running first) (whole_type running) inner ++ record { line = line; code = not_code negated ++ does.Apply o ∷ [] } ∷ [])
  parts_of g line running loaded w = record { line = line; code = simple_code (resolved_simple g running loaded w) } ∷ []

  pub inner_parts : Scope → Option IlType → IlType → Inner → List Part
  inner_parts g running else_type Close = []
  inner_parts g running else_type (Then line head tail) =
      parts_of g line running (loaded_inner_type g else_type tail) head
      ++ inner_parts g (type_after g running (loaded_inner_type g else_type tail) head) il.Dint tail

-- where the first part begins at an address: the address after the last one, or the line of the first whose code passes the limit
abbrev pub reached : ℕ → List Part → Result ℕ ℕ
reached a [] = Ok a
reached a (p ∷ ps) = let b = a + length (spelled_all p.code) in if nat_le b most_code then reached b ps else Err p.line

abbrev pub line_or : ℕ → Result ℕ ℕ → ℕ
line_or line (Ok a) = line
line_or line (Err passing) = passing

-- the line of a statement where its code passes the limit, from the address where it begins
abbrev pub passing_line : Scope → ℕ → Option IlType → List Statement → ℕ → Option Action → ℕ
passing_line g a running rest line (Some (action.Compute simple)) = line_or line (reached a (parts_of g line running (loaded_type g rest) simple))
passing_line g a running rest line _ = line

-- the line whose code passes the limit, or that has a counted jump more than there may be; the line of the program's end where the last END passes it
abbrev pub measured : Scope → ℕ → ℕ → ℕ → Option IlType → List Statement → Result (Unit {0}) AsmFault
measured g end_line a counter running [] = if nat_le (a + 1) most_code then Ok tt else Err (too_long end_line)
measured g end_line a counter running (s ∷ ss) =
    let b = behind a (option_map (resolved_action g counter running ss) s.action) in
    let next = counter + length (turns_of s.action) in
    if nat_le next most_counted && nat_le b most_code
    then measured g end_line b next (type_after_line g running ss s.action) ss
    else Err (too_long (passing_line g a running ss s.line s.action))

-- Names.

abbrev pub declared_var : Variable → Var
declared_var v = v.var

-- the names in the image: the variables', then those of the externals that are used
abbrev pub names_seen : Scope → List (List ℕ)
names_seen g = names_of (map declared_var g.variables) (tags_of g.externals g.uses)

-- the line of the first declaration
abbrev pub first_line : List Variable → List External → ℕ
first_line (v ∷ vs) externals = v.line
first_line [] (e ∷ externals) = e.line
first_line [] [] = 0

-- names that come twice, which no text gives
abbrev pub named_apart : List Variable → List External → List (List ℕ) → Result (Unit {0}) AsmFault
named_apart variables externals names = if are_new [] names then Ok tt else Err (too_long (first_line variables externals))

-- a BOOL with a range of its own, which no text gives
abbrev pub undivided : List Variable → Result (Unit {0}) AsmFault
undivided [] = Ok tt
undivided (v ∷ vs) = if is_whole_if_bool v.var then undivided vs else Err (record { line = v.line; kind = kind.LiteralType })

-- The whole program.

abbrev pub scope_of : Tree → Scope
scope_of t = record { variables = t.variables; externals = t.externals; uses = uses_of t.variables t.externals t.statements; statements = t.statements }

abbrev pub program_of : Scope → Program
program_of g = record {
  variables = map declared_var g.variables;
  tags = tags_of g.externals g.uses;
  limits = limits_of g.statements;
  body = resolved_lines g 0 0 None g.statements;
}

-- code that is too long comes after all other faults
abbrev pub elaborated : Tree → Result Program AsmFault
elaborated t =
    counted t.variables t.externals t.statements
    >>= λ _. undivided t.variables
    >>= λ _. named_apart t.variables t.externals (names_seen (scope_of t))
    >>= λ _. checked_lines (scope_of t) 0 None t.statements
    >>= λ _. measured (scope_of t) t.end_line 0 0 None t.statements
    >>= λ _. Ok (program_of (scope_of t))
