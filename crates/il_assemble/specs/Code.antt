-- The code of a resolved program. IEC 61131-3 (edition 2), 3.2 leaves the form of compiled code open; this is this project's bytecode.
-- The size of a line's code depends on its form alone, so the addresses of lines and labels are known before any code is written.
use Rattle.std.specs.Prelude.{ℕ, ◌+◌, Bool, true, false, ℤ, pos, List, [], ◌∷◌, ◌++◌, length, if◌then◌else◌, Option, Some, None}
use Rattle.point_types.specs.declared.il_type.IlType.{IlType}
use Rattle.point_types.specs.declared.il_type.IlType.TheVariants as il
use Rattle.point_types.specs.declared.operator.Operator.TheVariants as op
use Rattle.point_types.specs.declared.operator.Condition.{Condition}
use Rattle.point_types.specs.declared.operator.Condition.TheVariants as when
use Rattle.scan_code.specs.declared.op.Op.{Op}
use Rattle.scan_code.specs.declared.op.Op.TheVariants as does
use Rattle.point_types.specs.Value.{int_eq}
use Rattle.scan_code.specs.Spelling.{spelled, spelled_all}
use Rattle.il_assemble.specs.Meaning.{Program, Line, Source, Variable, Input, Presence, Constant, Simple, Load, Apply, Defer, Limit, Select, Invert, Absolute, Convert, Inner, Close, Then, Place, InVariable, InOutput, Action, Compute, Store, Set, Jump, Repeat, Return, has_label}
use Rattle.scan_code.specs.Image.{Image}

-- LD of a literal
abbrev pub constant_of : IlType → ℤ → Op
constant_of il.Bool n = does.LoadBool (int_eq n (pos 1))
constant_of il.Sint n = does.LoadNumber il.Sint n
constant_of il.Int n = does.LoadNumber il.Int n
constant_of il.Dint n = does.LoadNumber il.Dint n
constant_of il.Lint n = does.LoadNumber il.Lint n
constant_of il.Usint n = does.LoadNumber il.Usint n
constant_of il.Uint n = does.LoadNumber il.Uint n
constant_of il.Udint n = does.LoadNumber il.Udint n

-- LD of any operand
abbrev pub load_of : Source → Op
load_of (Variable i) = does.LoadVariable i
load_of (Input i) = does.LoadInput i
load_of (Presence i) = does.LoadPresence i
load_of (Constant v) = constant_of v.kind v.number

-- the N after an operator
abbrev pub not_code : Bool → List Op
not_code true = does.Not ∷ []
not_code false = []

abbrev pub start_code : Option Source → List Op
start_code None = []
start_code (Some x) = load_of x ∷ []

abbrev mutual
  pub simple_code : Simple → List Op
  simple_code (Load negated x) = load_of x ∷ not_code negated
  simple_code (Apply o negated x) = does.Push ∷ load_of x ∷ (not_code negated ++ does.Apply o ∷ [])
  simple_code (Defer o negated first inner) = does.Push ∷ (start_code first ++ (inner_code inner ++ (not_code negated ++ does.Apply o ∷ [])))
  simple_code (Limit least most) = does.Push ∷ load_of least ∷ does.Apply op.Max ∷ does.Push ∷ load_of most ∷ does.Apply op.Min ∷ []
  simple_code (Select a b) = does.Push ∷ load_of a ∷ does.Push ∷ load_of b ∷ does.Select ∷ []
  simple_code Invert = does.Not ∷ []
  simple_code Absolute = does.Absolute ∷ []
  simple_code (Convert from to) = does.Convert from to ∷ []

  pub inner_code : Inner → List Op
  inner_code Close = []
  inner_code (Then head tail) = simple_code head ++ inner_code tail

abbrev pub store_of : Place → Op
store_of (InVariable i) = does.StoreVariable i
store_of (InOutput i) = does.StoreOutput i

abbrev pub set_of : Bool → Place → Op
set_of true (InVariable i) = does.SetVariable i
set_of true (InOutput i) = does.SetOutput i
set_of false (InVariable i) = does.ResetVariable i
set_of false (InOutput i) = does.ResetOutput i

abbrev pub store_code : Bool → Place → List Op
store_code false place = store_of place ∷ []
store_code true place = does.Not ∷ store_of place ∷ does.Not ∷ []

abbrev pub return_of : Condition → Op
return_of when.Always = does.End
return_of when.IfTrue = does.Return when.IfTrue
return_of when.IfFalse = does.Return when.IfFalse

-- where each label stands is given
abbrev pub action_code : (ℕ → ℕ) → Option Action → List Op
action_code address None = []
action_code address (Some (Compute simple)) = simple_code simple
action_code address (Some (Store negated place)) = store_code negated place
action_code address (Some (Set value place)) = set_of value place ∷ []
action_code address (Some (Jump condition label)) = does.Jump condition (address label) ∷ []
action_code address (Some (Repeat condition label counter limit)) = does.Repeat condition counter limit (address label) ∷ []
action_code address (Some (Return condition)) = return_of condition ∷ []

-- after the last line the end
abbrev pub lines_code : (ℕ → ℕ) → List Line → List Op
lines_code address [] = does.End ∷ []
lines_code address (line ∷ lines) = action_code address line.action ++ lines_code address lines

-- Addresses.

-- the address after instructions that begin at an address
abbrev pub past : ℕ → List Op → ℕ
past a [] = a
past a (i ∷ is) = past (a + length (spelled i)) is

-- the address of the first line with a label, where lines begin at an address; without such a line the end's
abbrev pub label_address : List Line → ℕ → ℕ → ℕ
label_address [] a label = a
label_address (line ∷ lines) a label =
    if has_label line.label label then a else label_address lines (past a (action_code (λ l. 0) line.action)) label

abbrev pub code_of_program : Program → List Op
code_of_program p = lines_code (label_address p.body 0) p.body

-- counted jumps came with the second version
abbrev pub version_of : List ℕ → ℕ
version_of [] = 1
version_of (limit ∷ limits) = 2

abbrev pub image_of : Program → Image
image_of p = record { version = version_of p.limits; vars = p.variables; tags = p.tags; code = spelled_all (code_of_program p) }
