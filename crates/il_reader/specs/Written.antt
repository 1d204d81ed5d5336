-- An instruction that works on the result alone, as it is written: the lines inside parentheses are a list of their own.
-- IEC 61131-3 (edition 2), 3.2.2 operators, modifiers and operands.
use Rattle.std.specs.Prelude.{ℕ, Bool, Option}
use Rattle.point_types.specs.declared.il_type.IlType.{IlType}
use Rattle.point_types.specs.declared.operator.Operator.{Operator}
use Rattle.il_reader.specs.declared.tree.Operand.{Operand}

mutual
  pub data Written : Type 0 where
    Load : (negated : Bool) (operand : Operand) → Written
    Apply : (operator : Operator) (negated : Bool) (operand : Operand) → Written
    Defer : (operator : Operator) (negated : Bool) (first : Option Operand) (inner : Inner) → Written
    Limit : (input most : Operand) → Written
    Select : (if_false if_true : Operand) → Written
    Invert : Written
    Absolute : Written
    Convert : (from to : IlType) → Written

  -- the lines up to the parenthesis that closes
  pub data Inner : Type 0 where
    Close : Inner
    Then : (line : ℕ) (head : Written) (tail : Inner) → Inner

-- lines, and after them further ones
abbrev pub followed_by : Inner → Inner → Inner
followed_by Close rest = rest
followed_by (Then line head tail) rest = Then line head (followed_by tail rest)
