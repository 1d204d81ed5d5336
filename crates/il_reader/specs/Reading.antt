-- Reading a text: an acceptor that is fed byte by byte, and token by token.
-- IEC 61131-3 edition 2, 2.4.3 declarations, 2.5.3 programs, 3.2 instruction list.
use Rattle.std.specs.Prelude.{◌≡◌, ◌≤◌, ℕ, Bool, true, false, ◌&&◌, List, [], ◌∷◌, length, if◌then◌else◌, Option, Some, None, Result, Ok, Err, ◌⊎◌, nat_lt}
use Rattle.point_types.specs.declared.il_type.IlType.{IlType}
use Rattle.point_types.specs.Value.{is_bool}
use Rattle.il_reader.specs.declared.fault.ReadFault.{ReadFault}
use Rattle.il_reader.specs.declared.fault.ReadFaultKind.{ReadFaultKind}
use Rattle.il_reader.specs.declared.fault.ReadFaultKind.TheVariants as fault
use Rattle.il_reader.specs.declared.token.Keyword.TheVariants as word
use Rattle.il_reader.specs.declared.token.Token.{Token}
use Rattle.il_reader.specs.declared.token.Token.TheVariants as token
use Rattle.il_reader.specs.declared.tree.Program.{Program}
use Rattle.il_reader.specs.declared.typing.Typing.{Typing}
use Rattle.il_reader.specs.declared.lexer.Mode.TheVariants as mode
use Rattle.il_reader.specs.declared.lexer.ByteFault.{ByteFault}
use Rattle.il_reader.specs.declared.lexer.Lexed.{Lexed}
use Rattle.il_reader.specs.declared.draft.Draft.{Draft}
use Rattle.il_reader.specs.declared.nest.OpenParenthesis.{OpenParenthesis}
use Rattle.il_reader.specs.declared.stage.BlockStage.{BlockStage}
use Rattle.il_reader.specs.declared.stage.BlockStage.TheVariants as block
use Rattle.il_reader.specs.declared.stage.PartStage.{PartStage}
use Rattle.il_reader.specs.declared.stage.PartStage.TheVariants as part
use Rattle.il_reader.specs.declared.stage.Stage.{Stage}
use Rattle.il_reader.specs.declared.stage.Stage.TheVariants as stage
use Rattle.il_reader.specs.declared.state.State.{State}
use Rattle.il_reader.specs.declared.state.State.TheVariants as state
use Rattle.il_reader.specs.declared.reader.Reader.{Reader}
use Rattle.il_reader.specs.Nesting.{end_fault, is_open}
use Rattle.il_reader.specs.Declaration.{is_taken, has_room, value_of, whole, begun, bounded, started, made}
use Rattle.il_reader.specs.Limit.{most_bytes}
use Rattle.il_reader.specs.Tokens.{lexed, at_end, is_none, colon_comes, line_behind}
use Rattle.il_reader.specs.Drafting.{Move, declares, goes, titled_draft, with_entry, with_externals, with_variables}
use Rattle.il_reader.specs.Instructions.{at_instruction_step, at_line_step, behind_label_step, between_step, part_step, whole_step}

-- One token: the state after it, or its fault.

abbrev pub start_step : Token → Move
start_step token.LineEnd = Ok state.Start
start_step (token.Keyword word.Program) = Ok state.Titled
start_step _ = Err fault.Header

abbrev pub titled_step : Token → Move
titled_step token.LineEnd = Ok state.Titled
titled_step (token.Name n) = goes stage.BetweenBlocks (titled_draft n)
titled_step _ = Err fault.Header

abbrev pub over_step : Program → Token → Move
over_step p token.LineEnd = Ok (state.Over p)
over_step p _ = Err fault.Header

-- Declarations. The Bool of a stage tells whether it is in a block of externals.

-- on at a place of the block, where there is one
abbrev pub declares_if : Draft → Result BlockStage ReadFaultKind → Move
declares_if d (Ok s) = declares s d
declares_if d (Err k) = Err k

-- a place to go on, or a fault, that gives this move whatever has been read
abbrev pub LeadsOn : Result BlockStage ReadFaultKind → (Draft → Move) → Type 0
LeadsOn next on = (d : Draft) → declares_if d next ≡ on d

-- one more name, which has to be free
abbrev pub declare_step : Bool → Draft → List ℕ → ℕ → Move
declare_step x d n m = if has_room x d.scope then (if is_taken x n d.scope then Err fault.Duplicate else declares (block.BehindName x) (with_entry x d m n)) else Err fault.TooLong

abbrev pub in_block_step : Bool → Draft → Token → ℕ → Move
in_block_step x d token.LineEnd m = declares (block.InBlock x) d
in_block_step x d (token.Keyword word.EndVar) m = goes stage.BetweenBlocks d
in_block_step x d (token.Name n) m = declare_step x d n m
in_block_step x d _ m = Err fault.Declaration

abbrev pub behind_name_step : Bool → Draft → Token → Move
behind_name_step x d token.LineEnd = declares (block.BehindName x) d
behind_name_step x d token.Comma = if has_room x d.scope then declares (block.BehindComma x) d else Err fault.TooLong
behind_name_step x d token.Colon = declares (block.BehindColon x) d
behind_name_step x d _ = Err fault.Declaration

abbrev pub behind_comma_step : Bool → Draft → Token → ℕ → Move
behind_comma_step x d token.LineEnd m = declares (block.BehindComma x) d
behind_comma_step x d (token.Name n) m = declare_step x d n m
behind_comma_step x d _ m = Err fault.Declaration

-- on with a range, where there is one
abbrev pub ranged_step : Draft → (Typing → BlockStage) → Option Typing → Move
ranged_step d s (Some y) = declares (s y) d
ranged_step d s None = Err fault.Declaration

abbrev pub typed_step : Bool → Draft → IlType → Move
typed_step true d k = declares (block.BehindExternal k) d
typed_step false d k = ranged_step d block.BehindType (whole k)

abbrev pub behind_colon_step : Bool → Draft → Token → Move
behind_colon_step x d token.LineEnd = declares (block.BehindColon x) d
behind_colon_step x d (token.Keyword (word.Type k)) = typed_step x d k
behind_colon_step x d _ = Err fault.Declaration

abbrev pub behind_external_step : IlType → Draft → Token → Move
behind_external_step k d token.LineEnd = declares (block.BehindExternal k) d
behind_external_step k d token.Semicolon = declares (block.InBlock true) (with_externals d k)
behind_external_step k d _ = Err fault.Declaration

-- after a range: a start value, or the end of the declaration
abbrev pub behind_range_step : Typing → Draft → Token → Move
behind_range_step y d token.LineEnd = declares (block.BehindRange y) d
behind_range_step y d token.Assign = declares (block.BehindAssign y) d
behind_range_step y d token.Semicolon = declares (block.InBlock false) (with_variables d y)
behind_range_step y d _ = Err fault.Declaration

-- a BOOL has no subrange
abbrev pub behind_type_step : Typing → Draft → Token → Move
behind_type_step y d token.LineEnd = declares (block.BehindType y) d
behind_type_step y d token.Open = if is_bool y.kind then Err fault.Declaration else declares (block.BehindOpen y.kind) d
behind_type_step y d t = behind_range_step y d t

abbrev pub behind_open_step : IlType → Draft → Token → Move
behind_open_step k d token.LineEnd = declares (block.BehindOpen k) d
behind_open_step k d t = ranged_step d block.BehindLow (made (begun k) (value_of k t))

abbrev pub behind_low_step : Typing → Draft → Token → Move
behind_low_step y d token.LineEnd = declares (block.BehindLow y) d
behind_low_step y d token.Dots = declares (block.BehindDots y) d
behind_low_step y d _ = Err fault.Declaration

abbrev pub behind_dots_step : Typing → Draft → Token → Move
behind_dots_step y d token.LineEnd = declares (block.BehindDots y) d
behind_dots_step y d t = ranged_step d block.BehindHigh (made (bounded y) (value_of y.kind t))

abbrev pub behind_high_step : Typing → Draft → Token → Move
behind_high_step y d token.LineEnd = declares (block.BehindHigh y) d
behind_high_step y d token.Close = declares (block.BehindRange y) d
behind_high_step y d _ = Err fault.Declaration

abbrev pub behind_assign_step : Typing → Draft → Token → Move
behind_assign_step y d token.LineEnd = declares (block.BehindAssign y) d
behind_assign_step y d t = ranged_step d block.BehindStart (made (started y) (value_of y.kind t))

abbrev pub behind_start_step : Typing → Draft → Token → Move
behind_start_step y d token.LineEnd = declares (block.BehindStart y) d
behind_start_step y d token.Semicolon = declares (block.InBlock false) (with_variables d y)
behind_start_step y d _ = Err fault.Declaration

abbrev pub block_step : BlockStage → Draft → Token → ℕ → Move
block_step (block.InBlock x) d t m = in_block_step x d t m
block_step (block.BehindName x) d t m = behind_name_step x d t
block_step (block.BehindComma x) d t m = behind_comma_step x d t m
block_step (block.BehindColon x) d t m = behind_colon_step x d t
block_step (block.BehindExternal k) d t m = behind_external_step k d t
block_step (block.BehindType y) d t m = behind_type_step y d t
block_step (block.BehindOpen k) d t m = behind_open_step k d t
block_step (block.BehindLow y) d t m = behind_low_step y d t
block_step (block.BehindDots y) d t m = behind_dots_step y d t
block_step (block.BehindHigh y) d t m = behind_high_step y d t
block_step (block.BehindRange y) d t m = behind_range_step y d t
block_step (block.BehindAssign y) d t m = behind_assign_step y d t
block_step (block.BehindStart y) d t m = behind_start_step y d t

abbrev pub within_step : Stage → Draft → Token → ℕ → Move
within_step stage.BetweenBlocks d t m = between_step d t m
within_step (stage.Block s) d t m = block_step s d t m
within_step (stage.AtLine nest) d t m = at_line_step nest d t m
within_step (stage.BehindLabel l n) d t m = behind_label_step l n d t
within_step (stage.AtInstruction h) d t m = at_instruction_step h d t
within_step (stage.Part nest h s) d t m = part_step nest h s d t
within_step (stage.BehindInstruction nest) d t m = whole_step nest d t

abbrev pub state_step : State → Token → ℕ → Move
state_step state.Start t m = start_step t
state_step state.Titled t m = titled_step t
state_step (state.Within s d) t m = within_step s d t m
state_step (state.Over p) t m = over_step p t

-- a brace that can't follow is no word of the language
abbrev pub is_brace : Token → Bool
is_brace token.OpenBrace = true
is_brace token.CloseBrace = true
is_brace _ = false

abbrev pub braced : Bool → ReadFaultKind → ReadFaultKind
braced true k = fault.Word
braced false k = k

abbrev pub with_fault : Token → Move → Move
with_fault t (Ok s) = Ok s
with_fault t (Err k) = Err (braced (is_brace t) k)

abbrev pub step : State → Token → ℕ → Move
step s t m = with_fault t (state_step s t m)

-- no token, or one
abbrev pub stepped : State → Option Token → ℕ → Move
stepped s None m = Ok s
stepped s (Some t) m = step s t m

abbrev pub onward : Move → (State → Move) → Move
onward (Ok s) on = on s
onward (Err k) on = Err k

-- the token that a byte ends, then the one that is whole with it
abbrev pub taken : State → Lexed → ℕ → Move
taken s x m = onward (stepped s x.ended m) (λ s'. stepped s' x.own m)

-- A name at the beginning of a line inside parentheses is no operator; where its colon comes next it is a label, which
-- isn't allowed there. So the kind of this fault hangs on the bytes after it.

abbrev pub is_inner_line : Stage → Bool
is_inner_line (stage.AtLine nest) = is_open nest
is_inner_line _ = false

abbrev pub is_at_inner_line : State → Bool
is_at_inner_line (state.Within s d) = is_inner_line s
is_at_inner_line _ = false

abbrev pub is_name_token : Option Token → Bool
is_name_token (Some (token.Name n)) = true
is_name_token _ = false

-- the byte has ended a name whose colon comes next
abbrev pub is_label : Lexed → List ℕ → Bool
is_label x behind = is_name_token x.ended && is_none x.own && colon_comes x.mode behind

-- the kind of a fault; the first tells whether it is such a label
abbrev pub told : Bool → ReadFaultKind → ReadFaultKind
told true k = fault.Parenthesis
told false k = k

-- One byte, with the bytes after it.

abbrev pub state_read : Reader → ℕ → List ℕ → Lexed → Move → Result Reader ReadFault
state_read r b behind x (Ok s) = Ok (record { line = line_behind b r.line; last = r.line; mode = x.mode; state = s })
state_read r b behind x (Err k) = Err (record { line = r.line; kind = told (is_at_inner_line r.state && is_label x behind) k })

-- of two faults that of the token before the byte, where that can't stand
abbrev pub leftmost : Move → ReadFaultKind → ReadFaultKind
leftmost (Ok s) k = k
leftmost (Err j) k = j

abbrev pub byte_read : Reader → ℕ → List ℕ → Result Lexed ByteFault → Result Reader ReadFault
byte_read r b behind (Ok x) = state_read r b behind x (taken r.state x r.line)
byte_read r b behind (Err f) = Err (record { line = r.line; kind = leftmost (stepped r.state f.ended r.line) f.kind })

abbrev pub byte_fed : Reader → ℕ → List ℕ → Result Reader ReadFault
byte_fed r b behind = byte_read r b behind (lexed r.mode b)

abbrev pub fed_on : Result Reader ReadFault → (Reader → Result Reader ReadFault) → Result Reader ReadFault
fed_on (Ok r) on = on r
fed_on (Err f) on = Err f

-- bytes in turn: how the reader stands after them, or the first line at fault
abbrev pub fed : Reader → List ℕ → Result Reader ReadFault
fed r [] = Ok r
fed r (b ∷ bs) = fed_on (byte_fed r b bs) (λ r'. fed r' bs)

abbrev pub opening : Reader
opening = record { line = 1; last = 1; mode = mode.Clear; state = state.Start }

-- A whole text: its program, or the line at fault, or that it ends too soon, in the line of its last byte.

pub data Outcome : Type 0 where
  Reads : Program → Outcome
  AtFault : ReadFault → Outcome
  TooSoon : ReadFault → Outcome

-- why a text that ends in a state has ended too soon: parentheses stand open, or END_PROGRAM is missing
abbrev pub part_early : List OpenParenthesis → PartStage → ReadFaultKind
part_early nest (part.BehindParenthesis o negated) = fault.Parenthesis
part_early nest (part.BehindEntry o negated x) = fault.Parenthesis
part_early nest _ = end_fault nest

abbrev pub stage_early : Stage → ReadFaultKind
stage_early (stage.AtLine nest) = end_fault nest
stage_early (stage.Part nest h s) = part_early nest s
stage_early (stage.BehindInstruction nest) = end_fault nest
stage_early _ = fault.Header

abbrev pub early : State → ReadFaultKind
early (state.Within s d) = stage_early s
early _ = fault.Header

-- in an open comment, or in a token that isn't whole
abbrev pub half_fault : ReadFaultKind → ReadFaultKind → ReadFaultKind
half_fault fault.Word k = fault.Word
half_fault _ k = k

-- after the last token; k: why the text has ended too soon where that token can't follow, since it could still grow
abbrev pub end_reached : ℕ → ReadFaultKind → Move → Outcome
end_reached l k (Ok (state.Over p)) = Reads p
end_reached l k (Ok s) = TooSoon (record { line = l; kind = early s })
end_reached l k (Err _) = TooSoon (record { line = l; kind = k })

abbrev pub end_read : Reader → Result (Option Token) ReadFaultKind → Outcome
end_read r (Ok t) = end_reached r.last (early r.state) (stepped r.state t r.line)
end_read r (Err k) = TooSoon (record { line = r.last; kind = half_fault k (early r.state) })

abbrev pub judged : Result Reader ReadFault → Outcome
judged (Ok r) = end_read r (at_end r.mode)
judged (Err f) = AtFault f

abbrev pub outcome : List ℕ → Outcome
outcome text = judged (fed opening text)

abbrev pub answered : Outcome → Result Program ReadFault
answered (Reads p) = Ok p
answered (AtFault f) = Err f
answered (TooSoon f) = Err f

-- the answer to a text: the limit on its size comes first
abbrev pub reading : List ℕ → Result Program ReadFault
reading text = if nat_lt most_bytes (length text) then Err (record { line = 1; kind = fault.TooLong }) else answered (outcome text)

-- memory was refused, which it never is for a text over its size
abbrev pub IsOutOfMemory : List ℕ → ReadFault → Type 0
IsOutOfMemory text f = (length text ≤ most_bytes) × (f ≡ record { line = 0; kind = fault.OutOfMemory })

-- an answer is that of the definition, want of memory aside
abbrev pub IsAnswer : List ℕ → Result Program ReadFault → Type 0
IsAnswer text (Ok p) = reading text ≡ Ok p
IsAnswer text (Err f) = IsOutOfMemory text f ⊎ (reading text ≡ Err f)
