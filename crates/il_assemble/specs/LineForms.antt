-- inner: the lines of a program's instructions by the form of its statements alone, whatever its names stand for.
-- IEC 61131-3 (edition 2), 3.2 instruction list.
use Rattle.std.specs.Prelude.{ℕ, ◌+◌, Bool, true, false, List, [], ◌∷◌, ◌++◌, replicate, Option, Some, None}
use Rattle.il_reader.specs.declared.tree.Statement.{Statement}
use Rattle.il_reader.specs.declared.tree.Action.{Action}
use Rattle.il_reader.specs.declared.tree.Action.TheVariants as action
use Rattle.il_reader.specs.declared.tree.Operand.{Operand}
use Rattle.il_assemble.specs.Written.{Written, Load, Apply, Defer, Limit, Select, Invert, Absolute, Convert, Inner, Close, Then}

-- how many instructions an N makes
abbrev pub count_not : Bool → ℕ
count_not true = 1
count_not false = 0

-- how many the operand right after a parenthesis makes
abbrev pub count_first : Option Operand → ℕ
count_first None = 0
count_first (Some operand) = 1

abbrev mutual
  pub simple_lines : ℕ → Written → List ℕ
  simple_lines line (Load negated operand) = replicate (1 + count_not negated) line
  simple_lines line (Apply o negated operand) = replicate (3 + count_not negated) line
  simple_lines line (Defer o negated first inner) = replicate (1 + count_first first) line ++ (inner_lines inner ++ replicate (1 + count_not negated) line)
  simple_lines line (Limit input most) = replicate 6 line
  simple_lines line (Select a b) = replicate 5 line
  simple_lines line Invert = replicate 1 line
  simple_lines line Absolute = replicate 1 line
  simple_lines line (Convert from to) = replicate 1 line

  pub inner_lines : Inner → List ℕ
  inner_lines Close = []
  inner_lines (Then line head tail) = simple_lines line head ++ inner_lines tail

abbrev pub action_lines : ℕ → Option Action → List ℕ
action_lines line None = []
action_lines line (Some (action.Compute simple)) = simple_lines line simple
action_lines line (Some (action.Store negated name)) = replicate (1 + count_not negated + count_not negated) line
action_lines line (Some (action.Set value name)) = replicate 1 line
action_lines line (Some (action.Jump condition label turns)) = replicate 1 line
action_lines line (Some (action.Return condition)) = replicate 1 line

abbrev pub body_lines : List Statement → List ℕ
body_lines [] = []
body_lines (s ∷ ss) = action_lines s.line s.action ++ body_lines ss
