-- The instructions of a program, each as it stands: which there are, what each is checked by, and which come before it.
-- IEC 61131-3 (edition 2), 2.2.1 numeric literals, 3.2 instructions.
use Rattle.std.specs.Prelude.{◌≡◌, ℕ, Bool, List, [], ◌∷◌, ◌++◌, length, Option, Some, None}
use Rattle.std.specs.List.{flat_map}
use Rattle.point_types.specs.declared.il_type.IlType.{IlType}
use Rattle.point_types.specs.declared.il_type.IlType.TheVariants as il
use Rattle.point_types.specs.declared.operator.Operator.{Operator}
use Rattle.il_reader.specs.Written.{followed_by}
use Rattle.il_reader.specs.declared.tree.Statement.{Statement}
use Rattle.il_reader.specs.declared.tree.Action.{Action}
use Rattle.il_reader.specs.declared.tree.Action.TheVariants as action
use Rattle.il_reader.specs.declared.tree.Operand.{Operand}
use Rattle.il_assemble.specs.Names.{Scope}
use Rattle.il_assemble.specs.Typing.{whole_type, loaded_type, loaded_inner_type, type_after, type_inside, type_after_line}
use Rattle.il_assemble.specs.Written.{Written, Defer, Inner, Close, Then}

-- The instructions of a program in the order of its text.

abbrev mutual
  -- those inside an instruction's parentheses
  pub inside : Written → List Action
  inside (Defer o negated first inner) = inside_lines inner
  inside w = []

  pub inside_lines : Inner → List Action
  inside_lines Close = []
  inside_lines (Then line head tail) = (action.Compute head ∷ inside head) ++ inside_lines tail

abbrev pub inside_action : Action → List Action
inside_action (action.Compute w) = inside w
inside_action a = []

-- those of a line: its own, and those inside
abbrev pub of_line : Option Action → List Action
of_line None = []
of_line (Some a) = a ∷ inside_action a

abbrev pub of_lines : List Statement → List Action
of_lines = flat_map (λ s. of_line s.action)

-- The running type after lines.

-- by that before them; rest: the lines that follow
abbrev pub type_behind : Scope → Option IlType → List Statement → List Statement → Option IlType
type_behind g running [] rest = running
type_behind g running (s ∷ ss) rest = type_behind g (type_after_line g running (ss ++ rest) s.action) ss rest

-- after lines inside parentheses: the type of a literal that is loaded where no next instruction gives it one, which is given for the
-- first line, and DINT for each later one
abbrev pub else_behind : IlType → Inner → IlType
else_behind else_type Close = else_type
else_behind else_type (Then line head tail) = il.Dint

-- the running type after them
abbrev pub inner_type_behind : Scope → Option IlType → IlType → Inner → Inner → Option IlType
inner_type_behind g running else_type Close rest = running
inner_type_behind g running else_type (Then line head tail) rest = inner_type_behind g (type_after g running (loaded_inner_type g else_type (followed_by tail rest)) head) il.Dint tail rest

-- An instruction as it stands: its line, how many lines of the body are before the one that it is in, the running type before it, the
-- type that a literal takes after its LD, what it does, and the instructions before it.
pub record Standing : Type 0 where
  pub line : ℕ
  pub place : ℕ
  pub running : Option IlType
  pub loaded : IlType
  pub action : Action
  pub before : List Action

-- an instruction of the body, between the lines before and after its own
abbrev pub in_body : Scope → List Statement → Statement → List Statement → Action → Standing
in_body g front s behind a = record {
  line = s.line;
  place = length front;
  running = type_behind g None front (s ∷ behind);
  loaded = loaded_type g behind;
  action = a;
  before = of_lines front;
}

-- one inside the parentheses of x, between the lines there before and after its own; first: the operand right after the parenthesis
abbrev pub in_parentheses : Scope → Standing → Option Operand → Inner → ℕ → Written → Inner → Standing
in_parentheses g x first front line head tail = record {
  line = line;
  place = x.place;
  running = inner_type_behind g (type_inside g x.running first) (whole_type x.running) front (Then line head tail);
  loaded = loaded_inner_type g (else_behind (whole_type x.running) front) tail;
  action = action.Compute head;
  before = (x.before ++ x.action ∷ []) ++ inside_lines front;
}

-- an instruction stands in a line of the body, or inside the parentheses of one that stands
pub data StandsIn (g : Scope) : Standing → Type 0 where
  InBody : (front : List Statement) (s : Statement) (behind : List Statement) (a : Action) → g.statements ≡ front ++ s ∷ behind → s.action ≡ Some a → StandsIn g (in_body g front s behind a)
  InParentheses : (x : Standing) (o : Operator) (negated : Bool) (first : Option Operand) (front : Inner) (line : ℕ) (head : Written) (tail : Inner) → StandsIn g x → x.action ≡ action.Compute (Defer o negated first (followed_by front (Then line head tail))) → StandsIn g (in_parentheses g x first front line head tail)
