-- Worked texts: what is read of them, or the line at fault; and worked values of the rules on declarations.
-- IEC 61131-3 edition 2, 2.4.3 declarations, 3.2 instruction list.
use Rattle.std.specs.Prelude.{◌≡◌, true, false, pos, [], ◌∷◌, Some, None, refl, codes}
use Rattle.point_types.specs.declared.operator.Operator.TheVariants as op
use Rattle.point_types.specs.declared.operator.Condition.TheVariants as condition
use Rattle.point_types.specs.Keyword.{is_reserved, plain_words, conversions}
use Rattle.il_reader.specs.declared.fault.ReadFaultKind.TheVariants as fault
use Rattle.il_reader.specs.declared.tree.Action.TheVariants as action
use Rattle.il_reader.specs.declared.tree.Operand.TheVariants as operand
use Rattle.il_reader.specs.Written.{Apply, Defer, Close, Then}
use Rattle.il_reader.specs.Declaration.{is_presence}
use Rattle.il_reader.specs.Tokens.{keyword}
use Rattle.il_reader.specs.Instructions.{turns_of}
use Rattle.il_reader.specs.Reading.{Reads, AtFault, TooSoon, outcome}

pub counted_jump : outcome (codes "PROGRAM p\nx: {LOOP 9} JMP x\nEND_PROGRAM") ≡ Reads (record { name = codes "p"; variables = []; externals = []; statements = (record { line = 2; label = Some (codes "x"); action = Some (action.Jump condition.Always (codes "x") (Some 9)) }) ∷ []; end_line = 3 })
unfolding keyword is_reserved plain_words conversions
counted_jump = refl

pub label_twice : outcome (codes "PROGRAM p\nx:\nx:") ≡ AtFault (record { line = 3; kind = fault.Duplicate })
unfolding keyword is_reserved plain_words conversions
label_twice = refl

pub low_end_over_high_end : outcome (codes "PROGRAM p VAR a : INT (5..\n4);") ≡ AtFault (record { line = 2; kind = fault.Declaration })
unfolding keyword is_reserved plain_words conversions
low_end_over_high_end = refl

pub external_and_presence : outcome (codes "PROGRAM p VAR p_ok : BOOL; END_VAR\nVAR_EXTERNAL p :") ≡ AtFault (record { line = 2; kind = fault.Duplicate })
unfolding keyword is_reserved plain_words conversions
external_and_presence = refl

pub instruction_that_can_grow : outcome (codes "PROGRAM p\nLD") ≡ TooSoon (record { line = 2; kind = fault.Header })
unfolding keyword is_reserved plain_words conversions
instruction_that_can_grow = refl

pub nested_parentheses : outcome (codes "PROGRAM p\nADD( 1\n\nSUB( x\n)\nMUL y\n)\nEND_PROGRAM") ≡ Reads (record { name = codes "p"; variables = []; externals = []; statements = (record { line = 2; label = None; action = Some (action.Compute (Defer op.Add false (Some (operand.Number (pos 1))) (Then 4 (Defer op.Sub false (Some (operand.Named (codes "x"))) Close) (Then 6 (Apply op.Mul false (operand.Named (codes "y"))) Close)))) }) ∷ []; end_line = 8 })
unfolding keyword is_reserved plain_words conversions
nested_parentheses = refl

pub empty_parentheses : outcome (codes "PROGRAM p\nADD(\n)") ≡ AtFault (record { line = 3; kind = fault.Operand })
unfolding keyword is_reserved plain_words conversions
empty_parentheses = refl

pub store_inside : outcome (codes "PROGRAM p\nADD( 1\nST a") ≡ AtFault (record { line = 3; kind = fault.Parenthesis })
unfolding keyword is_reserved plain_words conversions
store_inside = refl

pub no_operator_inside : outcome (codes "PROGRAM p\nADD( 1\nFOO 2\n)") ≡ AtFault (record { line = 3; kind = fault.Operator })
unfolding keyword is_reserved plain_words conversions
no_operator_inside = refl

pub label_inside : outcome (codes "PROGRAM p\nADD( 1\nfoo (* a *) :\n)") ≡ AtFault (record { line = 3; kind = fault.Parenthesis })
unfolding keyword is_reserved plain_words conversions
label_inside = refl

pub no_label_inside : outcome (codes "PROGRAM p\nADD( 1\nfoo := 2\n)") ≡ AtFault (record { line = 3; kind = fault.Operator })
unfolding keyword is_reserved plain_words conversions
no_label_inside = refl

pub open_parentheses : outcome (codes "PROGRAM p\nADD( 1\nLD") ≡ TooSoon (record { line = 3; kind = fault.Parenthesis })
unfolding keyword is_reserved plain_words conversions
open_parentheses = refl

-- the byte ends a word that can't begin a program
pub stray_byte_in_a_keyword : outcome (codes "PRO$RAM p") ≡ AtFault (record { line = 1; kind = fault.Header })
unfolding keyword is_reserved plain_words conversions
stray_byte_in_a_keyword = refl

-- the byte ends a word that may be a label
pub stray_byte_behind_a_name : outcome (codes "PROGRAM p\nx$") ≡ AtFault (record { line = 2; kind = fault.Word })
unfolding keyword is_reserved plain_words conversions
stray_byte_behind_a_name = refl

pub presence_of_a_name : is_presence (codes "p_ok") (codes "p") ≡ true
presence_of_a_name = refl

pub presence_of_another : is_presence (codes "pq_ok") (codes "p") ≡ false
presence_of_another = refl

pub most_turns : turns_of (pos 255) ≡ Some 255
most_turns = refl

pub too_many_turns : turns_of (pos 256) ≡ None
too_many_turns = refl

pub no_turns : turns_of (pos 0) ≡ None
no_turns = refl
