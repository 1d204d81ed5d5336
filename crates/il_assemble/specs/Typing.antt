-- The types of literals: a literal without a type of its own takes one from the instructions around it.
-- IEC 61131-3 (edition 2), 2.2.1 numeric literals, 3.2.2 operators, modifiers and operands; the rule itself is this project's.
use Rattle.std.specs.Prelude.{Bool, true, false, ◌&&◌, not, ℤ, List, [], ◌∷◌, if◌then◌else◌, Option, Some, None, option_and_then, unwrap_or}
use Rattle.point_types.specs.declared.il_type.IlType.{IlType}
use Rattle.point_types.specs.declared.il_type.IlType.TheVariants as il
use Rattle.point_types.specs.declared.operator.Operator.{Operator}
use Rattle.point_types.specs.declared.operator.Operator.TheVariants as op
use Rattle.point_types.specs.declared.operator.Condition.{Condition}
use Rattle.point_types.specs.declared.operator.Condition.TheVariants as when
use Rattle.point_types.specs.Value.{low_of, high_of, is_within, is_bool}
use Rattle.il_reader.specs.declared.tree.Statement.{Statement}
use Rattle.il_reader.specs.declared.tree.Action.{Action}
use Rattle.il_reader.specs.declared.tree.Action.TheVariants as action
use Rattle.il_reader.specs.declared.tree.Operand.{Operand}
use Rattle.il_reader.specs.declared.tree.Operand.TheVariants.{Named, Truth, Number, Typed}
use Rattle.il_assemble.specs.Names.{Scope, named_type}
use Rattle.il_assemble.specs.Written.{Written, Load, Apply, Defer, Limit, Select, Invert, Absolute, Convert, Inner, Close, Then}

-- a number isn't BOOL
abbrev pub is_literal_of : IlType → ℤ → Bool
is_literal_of kind n = not (is_bool kind) && is_within (low_of kind) (high_of kind) n

-- the type of a known name or a typed literal
abbrev pub own_type : Scope → Operand → Option IlType
own_type g (Named name) = named_type g name
own_type g (Truth b) = None
own_type g (Number n) = None
own_type g (Typed kind n) = Some kind

-- the type of an operand, where an untyped number takes the type wanted
abbrev pub operand_type : Scope → IlType → Operand → IlType
operand_type g wanted (Named name) = unwrap_or (named_type g name) wanted
operand_type g wanted (Truth b) = il.Bool
operand_type g wanted (Number n) = wanted
operand_type g wanted (Typed kind n) = kind

abbrev pub or_dint : Option IlType → IlType
or_dint kind = unwrap_or kind il.Dint

-- the type that a literal of SEL takes from the other operand
abbrev pub type_beside : Scope → Operand → IlType
type_beside g other = or_dint (own_type g other)

-- what a literal after LD takes, where it is the first inside parentheses and no next instruction gives a type: the whole-number type of the deferred result
abbrev pub whole_type : Option IlType → IlType
whole_type None = il.Dint
whole_type (Some kind) = if is_bool kind then il.Dint else kind

abbrev pub first_operand : Written → Option Operand
first_operand (Load negated operand) = Some operand
first_operand (Apply o negated operand) = Some operand
first_operand (Defer o negated first inner) = first
first_operand (Limit input most) = Some input
first_operand (Select if_false if_true) = Some if_false
first_operand Invert = None
first_operand Absolute = None
first_operand (Convert from to) = None

-- what an instruction's first operand gives to a literal loaded before it
abbrev pub type_of_next : Scope → Written → Option IlType
type_of_next g form = option_and_then (own_type g) (first_operand form)

abbrev pub type_of_action : Scope → Action → Option IlType
type_of_action g (action.Compute simple) = type_of_next g simple
type_of_action g (action.Store negated name) = named_type g name
type_of_action g (action.Set value name) = named_type g name
type_of_action g (action.Jump condition label turns) = None
type_of_action g (action.Return condition) = None

abbrev pub type_of_line : Scope → Option IlType → Option Action → Option IlType
type_of_line g behind None = behind
type_of_line g behind (Some a) = type_of_action g a

-- the next instruction is that of the next line that isn't a label alone
abbrev pub next_type : Scope → List Statement → Option IlType
next_type g [] = None
next_type g (s ∷ ss) = type_of_line g (next_type g ss) s.action

abbrev pub next_inner_type : Scope → Inner → Option IlType
next_inner_type g Close = None
next_inner_type g (Then line head tail) = type_of_next g head

-- the type of a literal after LD
abbrev pub loaded_type : Scope → List Statement → IlType
loaded_type g rest = or_dint (next_type g rest)

-- the same inside parentheses
abbrev pub loaded_inner_type : Scope → IlType → Inner → IlType
loaded_inner_type g else_type rest = unwrap_or (next_inner_type g rest) else_type

abbrev pub is_comparison : Operator → Bool
is_comparison op.And = false
is_comparison op.Or = false
is_comparison op.Xor = false
is_comparison op.Add = false
is_comparison op.Sub = false
is_comparison op.Mul = false
is_comparison op.Div = false
is_comparison op.Mod = false
is_comparison op.Gt = true
is_comparison op.Ge = true
is_comparison op.Eq = true
is_comparison op.Ne = true
is_comparison op.Le = true
is_comparison op.Lt = true
is_comparison op.Min = false
is_comparison op.Max = false

abbrev pub type_after_operator : Option IlType → Operator → Option IlType
type_after_operator running o = if is_comparison o then Some il.Bool else running

-- the running type after an instruction, by the one before it: a load has its operand's, a comparison BOOL, also after its parentheses, SEL its first operand's, a conversion its target; all others keep it
abbrev pub type_after : Scope → Option IlType → IlType → Written → Option IlType
type_after g running loaded (Load negated operand) = Some (operand_type g loaded operand)
type_after g running loaded (Apply o negated operand) = type_after_operator running o
type_after g running loaded (Defer o negated first inner) = type_after_operator running o
type_after g running loaded (Limit input most) = running
type_after g running loaded (Select if_false if_true) = Some (operand_type g (type_beside g if_true) if_false)
type_after g running loaded Invert = running
type_after g running loaded Absolute = running
type_after g running loaded (Convert from to) = Some to

-- the running type after a parenthesis, by that before it
abbrev pub type_inside : Scope → Option IlType → Option Operand → Option IlType
type_inside g running None = None
type_inside g running (Some operand) = Some (operand_type g (or_dint running) operand)

abbrev pub unless_always : Condition → Option IlType → Option IlType
unless_always when.Always running = None
unless_always when.IfTrue running = running
unless_always when.IfFalse running = running

-- after a jump or a return that always acts there is none; after a counted jump, which may fall through, the one before
abbrev pub type_after_line : Scope → Option IlType → List Statement → Option Action → Option IlType
type_after_line g running rest None = running
type_after_line g running rest (Some (action.Compute simple)) = type_after g running (loaded_type g rest) simple
type_after_line g running rest (Some (action.Store negated name)) = running
type_after_line g running rest (Some (action.Set value name)) = running
type_after_line g running rest (Some (action.Jump condition label None)) = unless_always condition running
type_after_line g running rest (Some (action.Jump condition label (Some turns))) = running
type_after_line g running rest (Some (action.Return condition)) = unless_always condition running
