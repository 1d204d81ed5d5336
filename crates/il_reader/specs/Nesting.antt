-- Parentheses that stand open while a text is read, and what is computed inside them. A nest is their list, the inmost first.
-- IEC 61131-3 edition 2, 3.2.2 operators, modifiers and operands.
use Rattle.std.specs.Prelude.{ℕ, Bool, true, false, List, [], ◌∷◌, Option, Some, None, nat_lt}
use Rattle.point_types.specs.declared.operator.Operator.{Operator}
use Rattle.point_types.specs.declared.operator.Operator.TheVariants as op
use Rattle.il_reader.specs.declared.fault.ReadFaultKind.{ReadFaultKind}
use Rattle.il_reader.specs.declared.fault.ReadFaultKind.TheVariants as fault
use Rattle.il_reader.specs.declared.token.Keyword.{Keyword}
use Rattle.il_reader.specs.declared.token.Keyword.TheVariants as word
use Rattle.il_reader.specs.declared.tree.Operand.{Operand}
use Rattle.il_reader.specs.declared.draft.Head.{Head}
use Rattle.il_reader.specs.declared.nest.OpenParenthesis.{OpenParenthesis}
use Rattle.il_reader.specs.Limit.{most_nested}
use Rattle.il_reader.specs.Written.{Written, Defer, Inner, Close, Then, followed_by}

-- all operators but MIN and MAX take parentheses
abbrev pub takes_parentheses : Operator → Bool
takes_parentheses op.Min = false
takes_parentheses op.Max = false
takes_parentheses _ = true

-- one more parenthesis may be opened inside so many
abbrev pub has_depth : ℕ → Bool
has_depth depth = nat_lt depth most_nested

-- parentheses stand open
abbrev pub is_open : List OpenParenthesis → Bool
is_open [] = false
is_open (f ∷ nest) = true

-- inside stands an operand after the opening parenthesis, or a line
abbrev pub is_filled : Option Operand → Inner → Bool
is_filled (Some x) inner = true
is_filled None Close = false
is_filled None (Then line head tail) = true

-- parentheses that are just opened, after an operator
abbrev pub frame_of : Head → Operator → Bool → Option Operand → OpenParenthesis
frame_of h o negated first = record { head = h; operator = o; negated = negated; operand = first; inner = Close }

-- one more line inside
abbrev pub with_line : OpenParenthesis → ℕ → Written → OpenParenthesis
with_line f m x = record f { inner = followed_by f.inner (Then m x Close) }

-- one more line in the inmost parentheses
abbrev pub with_inner : List OpenParenthesis → ℕ → Written → List OpenParenthesis
with_inner [] m x = []
with_inner (f ∷ nest) m x = with_line f m x ∷ nest

-- what parentheses compute with these lines inside
abbrev pub deferred : OpenParenthesis → Inner → Written
deferred f inner = Defer f.operator f.negated f.operand inner

-- what a body has and no parentheses: stores, jumps, returns, and its end
abbrev pub is_outer : Keyword → Bool
is_outer word.EndProgram = true
is_outer (word.Store negated) = true
is_outer (word.Set value) = true
is_outer (word.Jump c) = true
is_outer (word.Return c) = true
is_outer _ = false

-- the fault of a closing parenthesis after a whole instruction: outside it closes nothing, inside it has a line of its own
abbrev pub close_fault : List OpenParenthesis → ReadFaultKind
close_fault [] = fault.Parenthesis
close_fault (f ∷ nest) = fault.Operand

-- the fault of a text that ends too soon: open parentheses, or no END_PROGRAM
abbrev pub end_fault : List OpenParenthesis → ReadFaultKind
end_fault [] = fault.Header
end_fault (f ∷ nest) = fault.Parenthesis
