-- What an instruction of the tree is written as: the room of its lists aside.
-- IEC 61131-3 (edition 2), 3.2.2 operators, modifiers and operands.
use Rattle.std.specs.Prelude.{ℕ, List, [], ◌∷◌}
use Rattle.il_reader.specs.declared.tree.Simple.{Simple, fold-Simple}
use Rattle.il_reader.specs.declared.tree.Simple.TheOpen.{Simple-F, InnerLine-F}
use Rattle.il_reader.specs.declared.tree.Simple.TheOpen as layer
use Rattle.il_reader.specs.declared.tree.InnerLine.{InnerLine}
use Rattle.il_reader.specs.Written.{Written, Load, Apply, Defer, Limit, Select, Invert, Absolute, Convert, Inner, Close, Then}

-- a line inside parentheses
pub record InnerForm : Type 0 where
  pub line : ℕ
  pub form : Written

abbrev pub joined : List InnerForm → Inner
joined [] = Close
joined (l ∷ ls) = Then l.line l.form (joined ls)

abbrev pub written_layer : Simple-F Written InnerForm → Written
written_layer (layer.Load negated operand) = Load negated operand
written_layer (layer.Apply o negated operand) = Apply o negated operand
written_layer (layer.Defer o negated first inner) = Defer o negated first (joined inner.items)
written_layer (layer.Limit input most) = Limit input most
written_layer (layer.Select if_false if_true) = Select if_false if_true
written_layer layer.Invert = Invert
written_layer layer.Absolute = Absolute
written_layer (layer.Convert from to) = Convert from to

abbrev pub written_line : InnerLine-F Written InnerForm → InnerForm
written_line l = record { line = l.line; form = l.simple }

abbrev pub written : Simple → Written
written = fold-Simple Written InnerForm written_layer written_line

abbrev pub written_inner : List InnerLine → Inner
written_inner [] = Close
written_inner (l ∷ ls) = Then l.line (written l.simple) (written_inner ls)
