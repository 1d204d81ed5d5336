-- Reading the body of a program token by token: lines, labels, instructions, and parentheses over lines.
-- IEC 61131-3 edition 2, 3.2 instruction list.
use Rattle.std.specs.Prelude.{◌≡◌, ℕ, Bool, true, false, ◌&&◌, ℤ, pos, List, [], ◌∷◌, length, if◌then◌else◌, Option, Some, None, Result, Ok, Err, nat_le, bytes_eq, codes, option_map}
use Rattle.point_types.specs.declared.operator.Operator.{Operator}
use Rattle.point_types.specs.declared.operator.Condition.{Condition}
use Rattle.il_reader.specs.declared.fault.ReadFaultKind.{ReadFaultKind}
use Rattle.il_reader.specs.declared.fault.ReadFaultKind.TheVariants as fault
use Rattle.il_reader.specs.declared.token.Keyword.{Keyword}
use Rattle.il_reader.specs.declared.token.Keyword.TheVariants as word
use Rattle.il_reader.specs.declared.token.Token.{Token}
use Rattle.il_reader.specs.declared.token.Token.TheVariants as token
use Rattle.il_reader.specs.declared.tree.Action.{Action}
use Rattle.il_reader.specs.declared.tree.Action.TheVariants as action
use Rattle.il_reader.specs.declared.tree.Operand.{Operand}
use Rattle.il_reader.specs.declared.tree.Operand.TheVariants as operand
use Rattle.il_reader.specs.declared.draft.Draft.{Draft}
use Rattle.il_reader.specs.declared.draft.Head.{Head}
use Rattle.il_reader.specs.declared.nest.OpenParenthesis.{OpenParenthesis}
use Rattle.il_reader.specs.declared.stage.Pair.{Pair}
use Rattle.il_reader.specs.declared.stage.Pair.TheVariants as pair
use Rattle.il_reader.specs.declared.stage.BlockStage.TheVariants as block
use Rattle.il_reader.specs.declared.stage.PartStage.{PartStage}
use Rattle.il_reader.specs.declared.stage.PartStage.TheVariants as part
use Rattle.il_reader.specs.declared.stage.Stage.TheVariants as stage
use Rattle.il_reader.specs.declared.state.State.{State}
use Rattle.il_reader.specs.declared.state.State.TheVariants as state
use Rattle.il_reader.specs.Written.{Written}
use Rattle.il_reader.specs.Written as form
use Rattle.il_reader.specs.Limit.{most_turns}
use Rattle.il_reader.specs.Nesting.{takes_parentheses, has_depth, is_filled, frame_of, with_line, deferred, is_outer, close_fault}
use Rattle.il_reader.specs.Declaration.{among}
use Rattle.il_reader.specs.Drafting.{Move, continues, declares, goes, program_of, with_label, with_statement}

-- a name, TRUE or FALSE, or a number
abbrev pub operand_of : Token → Option Operand
operand_of (token.Name n) = Some (operand.Named n)
operand_of (token.Keyword (word.Truth b)) = Some (operand.Truth b)
operand_of (token.Decimal n) = Some (operand.Number n)
operand_of (token.Number n) = Some (operand.Number n)
operand_of (token.Typed k n) = Some (operand.Typed k n)
operand_of _ = None

-- on at a place of the instruction, where there is one
abbrev pub continues_if : List OpenParenthesis → Head → Draft → Result PartStage ReadFaultKind → Move
continues_if nest h d (Ok s) = continues nest h s d
continues_if nest h d (Err k) = Err k

-- a place to go on, or a fault, that gives this move whatever has been read: inside these parentheses, inside any
abbrev pub GoesOnInside : List OpenParenthesis → Result PartStage ReadFaultKind → (Head → Draft → Move) → Type 0
GoesOnInside nest next on = (h : Head) (d : Draft) → continues_if nest h d next ≡ on h d

abbrev pub GoesOn : Result PartStage ReadFaultKind → (List OpenParenthesis → Head → Draft → Move) → Type 0
GoesOn next on = (nest : List OpenParenthesis) → GoesOnInside nest next (on nest)

-- a whole instruction of the body
abbrev pub acted : List OpenParenthesis → Draft → Head → Action → State
acted nest d h a = state.Within (stage.BehindInstruction nest) (with_statement d h (Some a))

-- a whole instruction on the result alone: one of the body, or a line of the inmost parentheses
abbrev pub computed : List OpenParenthesis → Draft → Head → Written → State
computed [] d h x = acted [] d h (action.Compute x)
computed (f ∷ nest) d h x = state.Within (stage.BehindInstruction (with_line f h.line x ∷ nest)) d

abbrev pub simple_step : List OpenParenthesis → Draft → Head → Option Written → Move
simple_step nest d h (Some x) = Ok (computed nest d h x)
simple_step nest d h None = Err fault.Operand

-- what an operator begins that has operands
abbrev pub part_begun : Keyword → Option PartStage
part_begun (word.Load negated) = Some (part.BehindLoad negated)
part_begun (word.Store negated) = Some (part.BehindStore negated)
part_begun (word.Set value) = Some (part.BehindSet value)
part_begun (word.Jump c) = Some (part.BehindJump c None)
part_begun (word.Apply o negated) = Some (part.BehindOperator o negated)
part_begun word.Limit = Some (part.BehindPair pair.Limit)
part_begun word.Select = Some (part.BehindPair pair.Select)
part_begun _ = None

-- an instruction of one word
abbrev pub single_step : List OpenParenthesis → Draft → Head → Keyword → Move
single_step nest d h (word.Return c) = Ok (acted nest d h (action.Return c))
single_step nest d h word.Not = Ok (computed nest d h form.Invert)
single_step nest d h word.Absolute = Ok (computed nest d h form.Absolute)
single_step nest d h (word.Convert j k) = Ok (computed nest d h (form.Convert j k))
single_step nest d h _ = Err fault.Operator

abbrev pub begun_step : List OpenParenthesis → Draft → Head → Keyword → Option PartStage → Move
begun_step nest d h w (Some s) = continues nest h s d
begun_step nest d h w None = single_step nest d h w

-- an instruction's first token, after the label where there is one
abbrev pub begin_step : Draft → Head → Token → Move
begin_step d h (token.Keyword w) = begun_step [] d h w (part_begun w)
begin_step d h token.OpenBrace = continues [] h part.BehindBrace d
begin_step d h token.Close = Err fault.Parenthesis
begin_step d h _ = Err fault.Operator

-- at the beginning of a line of the body
abbrev pub line_step : Draft → Token → ℕ → Move
line_step d token.LineEnd m = goes (stage.AtLine []) d
line_step d (token.Keyword word.EndProgram) m = Ok (state.Over (program_of d m))
line_step d (token.Name n) m = if among n d.labels then Err fault.Duplicate else goes (stage.BehindLabel m n) d
line_step d t m = begin_step d (record { line = m; label = None }) t

abbrev pub behind_label_step : ℕ → List ℕ → Draft → Token → Move
behind_label_step l n d token.Colon = goes (stage.AtInstruction (record { line = l; label = Some n })) (with_label d n)
behind_label_step l n d _ = Err fault.Operator

abbrev pub at_instruction_step : Head → Draft → Token → Move
at_instruction_step h d token.LineEnd = goes (stage.AtLine []) (with_statement d h None)
at_instruction_step h d t = begin_step d h t

abbrev pub between_step : Draft → Token → ℕ → Move
between_step d token.LineEnd m = goes stage.BetweenBlocks d
between_step d (token.Keyword word.Var) m = declares (block.InBlock false) d
between_step d (token.Keyword word.VarExternal) m = declares (block.InBlock true) d
between_step d t m = line_step d t m

-- the two operands of LIMIT and of SEL
abbrev pub paired : Pair → Operand → Operand → Written
paired pair.Limit x y = form.Limit x y
paired pair.Select x y = form.Select x y

abbrev pub behind_pair_step : List OpenParenthesis → Head → Pair → Draft → Option Operand → Move
behind_pair_step nest h o d (Some x) = continues nest h (part.BehindFirst o x) d
behind_pair_step nest h o d None = Err fault.Operand

abbrev pub behind_first_step : List OpenParenthesis → Head → Pair → Operand → Draft → Token → Move
behind_first_step nest h o x d token.Comma = continues nest h (part.BehindFirstComma o x) d
behind_first_step nest h o x d _ = Err fault.Operand

abbrev pub behind_store_step : List OpenParenthesis → Head → Bool → Draft → Token → Move
behind_store_step nest h negated d (token.Name n) = Ok (acted nest d h (action.Store negated n))
behind_store_step nest h negated d _ = Err fault.Operand

abbrev pub behind_set_step : List OpenParenthesis → Head → Bool → Draft → Token → Move
behind_set_step nest h value d (token.Name n) = Ok (acted nest d h (action.Set value n))
behind_set_step nest h value d _ = Err fault.Operand

abbrev pub behind_jump_step : List OpenParenthesis → Head → Condition → Option ℕ → Draft → Token → Move
behind_jump_step nest h c turns d (token.Name n) = Ok (acted nest d h (action.Jump c n turns))
behind_jump_step nest h c turns d _ = Err fault.Label

-- Parentheses over lines.

-- after an operator and an opening parenthesis
abbrev pub enter_step : List OpenParenthesis → Head → Operator → Bool → Draft → Move
enter_step nest h o negated d =
    if takes_parentheses o then (if has_depth (length nest) then continues nest h (part.BehindParenthesis o negated) d else Err fault.TooLong) else Err fault.Operand

abbrev pub behind_operator_step : List OpenParenthesis → Head → Operator → Bool → Draft → Token → Move
behind_operator_step nest h o negated d token.Open = enter_step nest h o negated d
behind_operator_step nest h o negated d t = simple_step nest d h (option_map (form.Apply o negated) (operand_of t))

-- at the first line inside
abbrev pub opened : List OpenParenthesis → Head → Operator → Bool → Option Operand → Draft → Move
opened nest h o negated first d = goes (stage.AtLine (frame_of h o negated first ∷ nest)) d

abbrev pub entered_step : List OpenParenthesis → Head → Operator → Bool → Draft → Option Operand → Move
entered_step nest h o negated d (Some x) = continues nest h (part.BehindEntry o negated x) d
entered_step nest h o negated d None = Err fault.Operand

abbrev pub behind_parenthesis_step : List OpenParenthesis → Head → Operator → Bool → Draft → Token → Move
behind_parenthesis_step nest h o negated d token.LineEnd = opened nest h o negated None d
behind_parenthesis_step nest h o negated d t = entered_step nest h o negated d (operand_of t)

abbrev pub behind_entry_step : List OpenParenthesis → Head → Operator → Bool → Operand → Draft → Token → Move
behind_entry_step nest h o negated x d token.LineEnd = opened nest h o negated (Some x) d
behind_entry_step nest h o negated x d _ = Err fault.Operand

-- the closing parenthesis
abbrev pub close_step : OpenParenthesis → List OpenParenthesis → Draft → Move
close_step f nest d = if is_filled f.operand f.inner then Ok (computed nest d f.head (deferred f f.inner)) else Err fault.Operand

abbrev pub inner_step : OpenParenthesis → List OpenParenthesis → Draft → Keyword → ℕ → Move
inner_step f nest d w m = if is_outer w then Err fault.Parenthesis else begun_step (f ∷ nest) d (record { line = m; label = None }) w (part_begun w)

-- at the beginning of a line inside parentheses
abbrev pub inside_step : OpenParenthesis → List OpenParenthesis → Draft → Token → ℕ → Move
inside_step f nest d token.LineEnd m = goes (stage.AtLine (f ∷ nest)) d
inside_step f nest d token.Close m = close_step f nest d
inside_step f nest d (token.Keyword w) m = inner_step f nest d w m
inside_step f nest d _ m = Err fault.Operator

abbrev pub at_line_step : List OpenParenthesis → Draft → Token → ℕ → Move
at_line_step [] d t m = line_step d t m
at_line_step (f ∷ nest) d t m = inside_step f nest d t m

-- The pragma {LOOP n} before a jump.

abbrev pub is_loop : List ℕ → Bool
is_loop w = bytes_eq w (codes "loop")

-- how often a counted jump is taken: once at least
abbrev pub turns_of : ℤ → Option ℕ
turns_of (pos n) = if nat_le 1 n && nat_le n most_turns then Some n else None
turns_of _ = None

abbrev pub behind_brace_step : List OpenParenthesis → Head → Draft → Token → Move
behind_brace_step nest h d (token.Name w) = if is_loop w then continues nest h part.BehindLoop d else Err fault.Word
behind_brace_step nest h d _ = Err fault.Word

abbrev pub turns_step : List OpenParenthesis → Head → Draft → Option ℕ → Move
turns_step nest h d (Some turns) = continues nest h (part.BehindTurns turns) d
turns_step nest h d None = Err fault.Literal

abbrev pub behind_loop_step : List OpenParenthesis → Head → Draft → Token → Move
behind_loop_step nest h d (token.Decimal n) = turns_step nest h d (turns_of n)
behind_loop_step nest h d _ = Err fault.Literal

abbrev pub behind_turns_step : List OpenParenthesis → Head → ℕ → Draft → Token → Move
behind_turns_step nest h turns d token.CloseBrace = continues nest h (part.BehindPragma turns) d
behind_turns_step nest h turns d _ = Err fault.Word

abbrev pub behind_pragma_step : List OpenParenthesis → Head → ℕ → Draft → Token → Move
behind_pragma_step nest h turns d (token.Keyword (word.Jump c)) = continues nest h (part.BehindJump c (Some turns)) d
behind_pragma_step nest h turns d _ = Err fault.Operator

-- on at the next line unless there is a fault
abbrev pub goes_unless : List OpenParenthesis → Draft → Option ReadFaultKind → Move
goes_unless nest d None = goes (stage.AtLine nest) d
goes_unless nest d (Some k) = Err k

-- a fault, or none, that gives this move whatever has been read
abbrev pub StopsOn : List OpenParenthesis → Option ReadFaultKind → (Draft → Move) → Type 0
StopsOn nest k on = (d : Draft) → goes_unless nest d k ≡ on d

-- after a whole instruction
abbrev pub whole_step : List OpenParenthesis → Draft → Token → Move
whole_step nest d token.LineEnd = goes (stage.AtLine nest) d
whole_step nest d token.Close = Err (close_fault nest)
whole_step nest d _ = Err fault.Operand

abbrev pub part_step : List OpenParenthesis → Head → PartStage → Draft → Token → Move
part_step nest h (part.BehindLoad negated) d t = simple_step nest d h (option_map (form.Load negated) (operand_of t))
part_step nest h (part.BehindOperator o negated) d t = behind_operator_step nest h o negated d t
part_step nest h (part.BehindParenthesis o negated) d t = behind_parenthesis_step nest h o negated d t
part_step nest h (part.BehindEntry o negated x) d t = behind_entry_step nest h o negated x d t
part_step nest h (part.BehindPair o) d t = behind_pair_step nest h o d (operand_of t)
part_step nest h (part.BehindFirst o x) d t = behind_first_step nest h o x d t
part_step nest h (part.BehindFirstComma o x) d t = simple_step nest d h (option_map (paired o x) (operand_of t))
part_step nest h (part.BehindStore negated) d t = behind_store_step nest h negated d t
part_step nest h (part.BehindSet value) d t = behind_set_step nest h value d t
part_step nest h (part.BehindJump c turns) d t = behind_jump_step nest h c turns d t
part_step nest h part.BehindBrace d t = behind_brace_step nest h d t
part_step nest h part.BehindLoop d t = behind_loop_step nest h d t
part_step nest h (part.BehindTurns turns) d t = behind_turns_step nest h turns d t
part_step nest h (part.BehindPragma turns) d t = behind_pragma_step nest h turns d t
