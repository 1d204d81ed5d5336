-- The faults of a program that its text alone shows, but for its length.
-- IEC 61131-3 (edition 2), 2.2.1 numeric literals, 2.4.1 representation of variables, 3.2 instructions.
use Rattle.std.specs.Prelude.{ℕ, ◌+◌, Bool, false, ◌&&◌, not, List, [], ◌∷◌, position, if◌then◌else◌, Result, Ok, Err, Option, Some, None, slice_get, nat_eq, nat_le}
use Rattle.std.specs.Str.{bytes_eq}
use Rattle.point_types.specs.declared.il_type.IlType.{IlType}
use Rattle.point_types.specs.declared.il_type.IlType.TheVariants as il
use Rattle.point_types.specs.Value.{is_bool, code_of, ◌>>=◌}
use Rattle.il_reader.specs.Limit.{most_turns}
use Rattle.il_reader.specs.declared.tree.Statement.{Statement}
use Rattle.il_reader.specs.declared.tree.Action.{Action}
use Rattle.il_reader.specs.declared.tree.Action.TheVariants as action
use Rattle.il_reader.specs.declared.tree.Operand.{Operand}
use Rattle.il_reader.specs.declared.tree.Operand.TheVariants.{Named, Truth, Number, Typed}
use Rattle.il_assemble.specs.declared.fault.AsmFault.{AsmFault}
use Rattle.il_assemble.specs.declared.fault.AsmFaultKind.{AsmFaultKind}
use Rattle.il_assemble.specs.declared.fault.AsmFaultKind.TheVariants as kind
use Rattle.il_assemble.specs.declared.names.Known.{Known}
use Rattle.il_assemble.specs.declared.names.Known.TheVariants as known
use Rattle.il_assemble.specs.Names.{Scope, known_as, is_loaded, is_stored}
use Rattle.il_assemble.specs.Typing.{is_literal_of, or_dint, type_beside, whole_type, loaded_type, loaded_inner_type, type_after, type_inside, type_after_line}
use Rattle.il_assemble.specs.Written.{Written, Load, Apply, Defer, Limit, Select, Invert, Absolute, Convert, Inner, Close, Then}

-- Of several faults on one line the one with the lowest number is given.

abbrev pub number_of : AsmFaultKind → ℕ
number_of kind.UnknownName = 1
number_of kind.UnknownLabel = 2
number_of kind.BackwardJump = 3
number_of kind.LoadAndStore = 4
number_of kind.LiteralType = 5
number_of kind.TooLong = 6
number_of kind.OutOfMemory = 7
number_of kind.ForwardLoop = 8

abbrev pub lower : AsmFaultKind → AsmFaultKind → AsmFaultKind
lower a b = if nat_le (number_of a) (number_of b) then a else b

abbrev pub lowest : Option AsmFaultKind → Option AsmFaultKind → Option AsmFaultKind
lowest None b = b
lowest (Some a) None = Some a
lowest (Some a) (Some b) = Some (lower a b)

abbrev pub unless : Bool → AsmFaultKind → Option AsmFaultKind
unless holds fault = if holds then None else Some fault

-- Operands.

-- an unknown name; an external that is stored is loaded
abbrev pub load_fault : Scope → Option Known → Option AsmFaultKind
load_fault g None = Some kind.UnknownName
load_fault g (Some (known.Variable i)) = None
load_fault g (Some (known.External i)) = unless (is_loaded (slice_get g.uses i)) kind.LoadAndStore
load_fault g (Some (known.Presence i)) = unless (is_loaded (slice_get g.uses i)) kind.LoadAndStore

-- an unknown name or a presence is stored; an external that is loaded is stored
abbrev pub store_fault : Scope → Option Known → Option AsmFaultKind
store_fault g None = Some kind.UnknownName
store_fault g (Some (known.Variable i)) = None
store_fault g (Some (known.External i)) = unless (is_stored (slice_get g.uses i)) kind.LoadAndStore
store_fault g (Some (known.Presence i)) = Some kind.UnknownName

-- a number where BOOL is wanted, or one that doesn't fit
abbrev pub operand_fault : Scope → IlType → Operand → Option AsmFaultKind
operand_fault g wanted (Named name) = load_fault g (known_as g name)
operand_fault g wanted (Truth b) = None
operand_fault g wanted (Number n) = unless (is_literal_of wanted n) kind.LiteralType
operand_fault g wanted (Typed given n) = unless (is_literal_of given n) kind.LiteralType

abbrev pub first_fault : Scope → IlType → Option Operand → Option AsmFaultKind
first_fault g wanted None = None
first_fault g wanted (Some operand) = operand_fault g wanted operand

-- conversions are between two different whole-number types
abbrev pub is_conversion : IlType → IlType → Bool
is_conversion from to = not (is_bool from) && not (is_bool to) && not (nat_eq (code_of from) (code_of to))

-- Instructions.

-- a fault of a line
abbrev pub at_line : ℕ → Option AsmFaultKind → Result (Unit {0}) AsmFault
at_line line None = Ok tt
at_line line (Some fault) = Err (record { line = line; kind = fault })

abbrev mutual
  -- the first line at fault, from an instruction's own on
  pub checked_simple : Scope → ℕ → Option IlType → IlType → Written → Result (Unit {0}) AsmFault
  checked_simple g line running loaded (Load negated operand) = at_line line (operand_fault g loaded operand)
  checked_simple g line running loaded (Apply o negated operand) = at_line line (operand_fault g (or_dint running) operand)
  checked_simple g line running loaded (Defer o negated first inner) =
      at_line line (first_fault g (or_dint running) first) >>= λ _. checked_inner g (type_inside g running first) (whole_type running) inner
  checked_simple g line running loaded (Limit input most) = at_line line (lowest (operand_fault g (or_dint running) input) (operand_fault g (or_dint running) most))
  checked_simple g line running loaded (Select a b) = at_line line (lowest (operand_fault g (type_beside g b) a) (operand_fault g (type_beside g a) b))
  checked_simple g line running loaded Invert = Ok tt
  checked_simple g line running loaded Absolute = Ok tt
  checked_simple g line running loaded (Convert from to) = at_line line (unless (is_conversion from to) kind.UnknownName)

  pub checked_inner : Scope → Option IlType → IlType → Inner → Result (Unit {0}) AsmFault
  checked_inner g running else_type Close = Ok tt
  checked_inner g running else_type (Then line head tail) =
      checked_simple g line running (loaded_inner_type g else_type tail) head
      >>= λ _. checked_inner g (type_after g running (loaded_inner_type g else_type tail) head) il.Dint tail

-- Labels.

abbrev pub is_labelled_so : List ℕ → Option (List ℕ) → Bool
is_labelled_so name None = false
is_labelled_so name (Some label) = bytes_eq label name

abbrev pub is_labelled : List ℕ → Statement → Bool
is_labelled name s = is_labelled_so name s.label

-- the place of a label's line among the lines
abbrev pub label_place : Scope → List ℕ → Option ℕ
label_place g label = position (is_labelled label) g.statements

abbrev pub is_count : ℕ → Bool
is_count turns = nat_le 1 turns && nat_le turns most_turns

-- a jump from a line goes to a later one, a counted jump to its own or an earlier one, and that once at least
abbrev pub jump_fault : ℕ → Option ℕ → Option ℕ → Option AsmFaultKind
jump_fault place turns None = Some kind.UnknownLabel
jump_fault place None (Some target) = unless (nat_le (place + 1) target) kind.BackwardJump
jump_fault place (Some turns) (Some target) = lowest (unless (is_count turns) kind.LiteralType) (unless (nat_le target place) kind.ForwardLoop)

-- Lines.

abbrev pub checked_line : Scope → ℕ → Option IlType → List Statement → ℕ → Option Action → Result (Unit {0}) AsmFault
checked_line g place running rest line None = Ok tt
checked_line g place running rest line (Some (action.Compute simple)) = checked_simple g line running (loaded_type g rest) simple
checked_line g place running rest line (Some (action.Store negated name)) = at_line line (store_fault g (known_as g name))
checked_line g place running rest line (Some (action.Set value name)) = at_line line (store_fault g (known_as g name))
checked_line g place running rest line (Some (action.Jump condition label turns)) = at_line line (jump_fault place turns (label_place g label))
checked_line g place running rest line (Some (action.Return condition)) = Ok tt

-- the first line at fault, where so many lines stand before these
abbrev pub checked_lines : Scope → ℕ → Option IlType → List Statement → Result (Unit {0}) AsmFault
checked_lines g place running [] = Ok tt
checked_lines g place running (s ∷ ss) =
    checked_line g place running ss s.line s.action
    >>= λ _. checked_lines g (place + 1) (type_after_line g running ss s.action) ss
