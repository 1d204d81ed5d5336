-- What the states that are reached keep: after a comma there is room for one more name.
use Rattle.std.proofs.Common.{◌≡◌, ℕ, Bool, true, false, List, [], ◌∷◌, length, Option, Some, None, Result, Ok, Err, refl, subst, if◌then◌else◌, option_map}
use Rattle.point_types.specs.declared.il_type.IlType.{IlType}
use Rattle.point_types.specs.declared.operator.Condition.{Condition}
use Rattle.point_types.specs.declared.operator.Operator.{Operator}
use Rattle.point_types.specs.Value.{is_bool}
use Rattle.il_reader.specs.declared.fault.ReadFault.{ReadFault}
use Rattle.il_reader.specs.declared.fault.ReadFaultKind.TheVariants as fault
use Rattle.il_reader.specs.declared.token.Keyword.{Keyword}
use Rattle.il_reader.specs.declared.token.Keyword.TheVariants as word
use Rattle.il_reader.specs.declared.token.Token.{Token}
use Rattle.il_reader.specs.declared.token.Token.TheVariants as token
use Rattle.il_reader.specs.declared.tree.Operand.{Operand}
use Rattle.il_reader.specs.declared.tree.Program.{Program}
use Rattle.il_reader.specs.declared.typing.Typing.{Typing}
use Rattle.il_reader.specs.declared.draft.Draft.{Draft}
use Rattle.il_reader.specs.declared.draft.Head.{Head}
use Rattle.il_reader.specs.declared.nest.OpenParenthesis.{OpenParenthesis}
use Rattle.il_reader.specs.declared.lexer.ByteFault.{ByteFault}
use Rattle.il_reader.specs.declared.lexer.Lexed.{Lexed}
use Rattle.il_reader.specs.declared.reader.Reader.{Reader}
use Rattle.il_reader.specs.declared.stage.BlockStage.{BlockStage}
use Rattle.il_reader.specs.declared.stage.BlockStage.TheVariants as block
use Rattle.il_reader.specs.declared.stage.PartStage.{PartStage}
use Rattle.il_reader.specs.declared.stage.PartStage.TheVariants as part
use Rattle.il_reader.specs.declared.stage.Pair.{Pair}
use Rattle.il_reader.specs.declared.stage.Stage.{Stage}
use Rattle.il_reader.specs.declared.stage.Stage.TheVariants as stage
use Rattle.il_reader.specs.declared.state.State.{State}
use Rattle.il_reader.specs.declared.state.State.TheVariants as state
use Rattle.il_reader.specs.Written.{Written}
use Rattle.il_reader.specs.Written as form
use Rattle.il_reader.specs.Nesting.{takes_parentheses, has_depth, is_filled, deferred, is_outer}
use Rattle.il_reader.specs.Declaration.{among, is_taken, has_room, value_of, whole, begun, bounded, started, made}
use Rattle.il_reader.specs.Tokens.{lexed}
use Rattle.il_reader.specs.Drafting.{Move, goes, declares, continues, with_entry}
use Rattle.il_reader.specs.Instructions.{operand_of, computed, simple_step, begun_step, single_step, part_begun, begin_step, line_step, at_line_step, inner_step, close_step, enter_step, behind_operator_step, entered_step, behind_parenthesis_step, behind_entry_step, behind_label_step, at_instruction_step, between_step, paired, behind_pair_step, behind_first_step, behind_store_step, behind_set_step, behind_jump_step, is_loop, turns_of, behind_brace_step, turns_step, behind_loop_step, behind_turns_step, behind_pragma_step, whole_step, part_step}
use Rattle.il_reader.specs.Reading.{start_step, titled_step, over_step, declare_step, in_block_step, behind_name_step, behind_comma_step, ranged_step, typed_step, behind_colon_step, behind_external_step, behind_range_step, behind_type_step, behind_open_step, behind_low_step, behind_dots_step, behind_high_step, behind_assign_step, behind_start_step, block_step, within_step, state_step, with_fault, step, stepped, onward, taken, state_read, byte_read, byte_fed, fed_on, fed}

abbrev pub IsLive : State → Type 0
IsLive (state.Within (stage.Block (block.BehindComma x)) d) = has_room x d.scope ≡ true
IsLive _ = Unit {0}

abbrev LiveMove : Move → Type 0
LiveMove (Ok s) = IsLive s
LiveMove (Err k) = Unit {0}

live_start : (t : Token) → LiveMove (start_step t)
live_start token.LineEnd = tt
live_start (token.Keyword word.Program) = tt
live_start (token.Keyword _) = tt
live_start _ = tt

live_titled : (t : Token) → LiveMove (titled_step t)
live_titled token.LineEnd = tt
live_titled (token.Name n) = tt
live_titled _ = tt

live_over : (p : Program) (t : Token) → LiveMove (over_step p t)
live_over p token.LineEnd = tt
live_over p _ = tt

live_declare : (x : Bool) (d : Draft) (n : List ℕ) (m : ℕ) → LiveMove (declare_step x d n m)
live_declare x d n m = either (has_room x d.scope) (is_taken x n d.scope)
  where
    either : (r a : Bool) → LiveMove (if r then (if a then Err fault.Duplicate else declares (block.BehindName x) (with_entry x d m n)) else Err fault.TooLong)
    either true true = tt
    either true false = tt
    either false a = tt

live_in_block : (x : Bool) (d : Draft) (t : Token) (m : ℕ) → LiveMove (in_block_step x d t m)
live_in_block x d token.LineEnd m = tt
live_in_block x d (token.Keyword word.EndVar) m = tt
live_in_block x d (token.Name n) m = live_declare x d n m
live_in_block x d (token.Keyword _) m = tt
live_in_block x d _ m = tt

live_behind_name : (x : Bool) (d : Draft) (t : Token) → LiveMove (behind_name_step x d t)
live_behind_name x d token.Comma = either (has_room x d.scope) refl
  where
    either : (r : Bool) → has_room x d.scope ≡ r → LiveMove (if r then declares (block.BehindComma x) d else Err fault.TooLong)
    either true e = e
    either false e = tt
live_behind_name x d token.LineEnd = tt
live_behind_name x d token.Colon = tt
live_behind_name x d _ = tt

live_behind_comma : (x : Bool) (d : Draft) (t : Token) (m : ℕ) → has_room x d.scope ≡ true → LiveMove (behind_comma_step x d t m)
live_behind_comma x d token.LineEnd m h = h
live_behind_comma x d (token.Name n) m h = live_declare x d n m
live_behind_comma x d _ m h = tt

-- a stage that asks nothing of the states before it
abbrev IsEasy : (Typing → BlockStage) → Type 0
IsEasy s = (y : Typing) (d : Draft) → IsLive (state.Within (stage.Block (s y)) d)

live_ranged : (d : Draft) (s : Typing → BlockStage) (o : Option Typing) → IsEasy s → LiveMove (ranged_step d s o)
live_ranged d s (Some y) easy = easy y d
live_ranged d s None easy = tt

live_typed : (x : Bool) (d : Draft) (k : IlType) → LiveMove (typed_step x d k)
live_typed true d k = tt
live_typed false d k = live_ranged d block.BehindType (whole k) (λ y e. tt)

live_behind_colon : (x : Bool) (d : Draft) (t : Token) → LiveMove (behind_colon_step x d t)
live_behind_colon x d token.LineEnd = tt
live_behind_colon x d (token.Keyword (word.Type k)) = live_typed x d k
live_behind_colon x d (token.Keyword _) = tt
live_behind_colon x d _ = tt

live_behind_external : (k : IlType) (d : Draft) (t : Token) → LiveMove (behind_external_step k d t)
live_behind_external k d token.LineEnd = tt
live_behind_external k d token.Semicolon = tt
live_behind_external k d _ = tt

live_behind_range : (y : Typing) (d : Draft) (t : Token) → LiveMove (behind_range_step y d t)
live_behind_range y d token.LineEnd = tt
live_behind_range y d token.Assign = tt
live_behind_range y d token.Semicolon = tt
live_behind_range y d _ = tt

live_behind_type : (y : Typing) (d : Draft) (t : Token) → LiveMove (behind_type_step y d t)
live_behind_type y d token.LineEnd = tt
live_behind_type y d token.Open = either (is_bool y.kind)
  where
    either : (r : Bool) → LiveMove (if r then Err fault.Declaration else declares (block.BehindOpen y.kind) d)
    either true = tt
    either false = tt
live_behind_type y d t = live_behind_range y d t

live_behind_open : (k : IlType) (d : Draft) (t : Token) → LiveMove (behind_open_step k d t)
live_behind_open k d token.LineEnd = tt
live_behind_open k d t = live_ranged d block.BehindLow (made (begun k) (value_of k t)) (λ y e. tt)

live_behind_low : (y : Typing) (d : Draft) (t : Token) → LiveMove (behind_low_step y d t)
live_behind_low y d token.LineEnd = tt
live_behind_low y d token.Dots = tt
live_behind_low y d _ = tt

live_behind_dots : (y : Typing) (d : Draft) (t : Token) → LiveMove (behind_dots_step y d t)
live_behind_dots y d token.LineEnd = tt
live_behind_dots y d t = live_ranged d block.BehindHigh (made (bounded y) (value_of y.kind t)) (λ y e. tt)

live_behind_high : (y : Typing) (d : Draft) (t : Token) → LiveMove (behind_high_step y d t)
live_behind_high y d token.LineEnd = tt
live_behind_high y d token.Close = tt
live_behind_high y d _ = tt

live_behind_assign : (y : Typing) (d : Draft) (t : Token) → LiveMove (behind_assign_step y d t)
live_behind_assign y d token.LineEnd = tt
live_behind_assign y d t = live_ranged d block.BehindStart (made (started y) (value_of y.kind t)) (λ y e. tt)

live_behind_start : (y : Typing) (d : Draft) (t : Token) → LiveMove (behind_start_step y d t)
live_behind_start y d token.LineEnd = tt
live_behind_start y d token.Semicolon = tt
live_behind_start y d _ = tt

live_block : (s : BlockStage) (d : Draft) (t : Token) (m : ℕ) → IsLive (state.Within (stage.Block s) d) → LiveMove (block_step s d t m)
live_block (block.InBlock x) d t m h = live_in_block x d t m
live_block (block.BehindName x) d t m h = live_behind_name x d t
live_block (block.BehindComma x) d t m h = live_behind_comma x d t m h
live_block (block.BehindColon x) d t m h = live_behind_colon x d t
live_block (block.BehindExternal k) d t m h = live_behind_external k d t
live_block (block.BehindType y) d t m h = live_behind_type y d t
live_block (block.BehindOpen k) d t m h = live_behind_open k d t
live_block (block.BehindLow y) d t m h = live_behind_low y d t
live_block (block.BehindDots y) d t m h = live_behind_dots y d t
live_block (block.BehindHigh y) d t m h = live_behind_high y d t
live_block (block.BehindRange y) d t m h = live_behind_range y d t
live_block (block.BehindAssign y) d t m h = live_behind_assign y d t
live_block (block.BehindStart y) d t m h = live_behind_start y d t

-- where no declaration is open nothing is asked
live_computed : (nest : List OpenParenthesis) (d : Draft) (h : Head) (x : Written) → IsLive (computed nest d h x)
live_computed [] d h x = tt
live_computed (f ∷ nest) d h x = tt

live_simple : (nest : List OpenParenthesis) (d : Draft) (h : Head) (x : Option Written) → LiveMove (simple_step nest d h x)
live_simple nest d h (Some x) = live_computed nest d h x
live_simple nest d h None = tt

live_pair : (nest : List OpenParenthesis) (d : Draft) (h : Head) (o : Pair) (x : Option Operand) → LiveMove (behind_pair_step nest h o d x)
live_pair nest d h o (Some x) = tt
live_pair nest d h o None = tt

live_first : (nest : List OpenParenthesis) (d : Draft) (h : Head) (o : Pair) (x : Operand) (t : Token) → LiveMove (behind_first_step nest h o x d t)
live_first nest d h o x token.Comma = tt
live_first nest d h o x _ = tt

live_store : (nest : List OpenParenthesis) (d : Draft) (h : Head) (b : Bool) (t : Token) → LiveMove (behind_store_step nest h b d t)
live_store nest d h b (token.Name n) = tt
live_store nest d h b _ = tt

live_set : (nest : List OpenParenthesis) (d : Draft) (h : Head) (b : Bool) (t : Token) → LiveMove (behind_set_step nest h b d t)
live_set nest d h b (token.Name n) = tt
live_set nest d h b _ = tt

live_jump : (nest : List OpenParenthesis) (d : Draft) (h : Head) (c : Condition) (turns : Option ℕ) (t : Token) → LiveMove (behind_jump_step nest h c turns d t)
live_jump nest d h c turns (token.Name n) = tt
live_jump nest d h c turns _ = tt

live_brace : (nest : List OpenParenthesis) (d : Draft) (h : Head) (t : Token) → LiveMove (behind_brace_step nest h d t)
live_brace nest d h (token.Name w) = either (is_loop w)
  where
    either : (b : Bool) → LiveMove (if b then continues nest h part.BehindLoop d else Err fault.Word)
    either true = tt
    either false = tt
live_brace nest d h _ = tt

live_counted : (nest : List OpenParenthesis) (d : Draft) (h : Head) (o : Option ℕ) → LiveMove (turns_step nest h d o)
live_counted nest d h (Some n) = tt
live_counted nest d h None = tt

live_loop : (nest : List OpenParenthesis) (d : Draft) (h : Head) (t : Token) → LiveMove (behind_loop_step nest h d t)
live_loop nest d h (token.Decimal n) = live_counted nest d h (turns_of n)
live_loop nest d h _ = tt

live_turns : (nest : List OpenParenthesis) (d : Draft) (h : Head) (turns : ℕ) (t : Token) → LiveMove (behind_turns_step nest h turns d t)
live_turns nest d h turns token.CloseBrace = tt
live_turns nest d h turns _ = tt

live_pragma : (nest : List OpenParenthesis) (d : Draft) (h : Head) (turns : ℕ) (t : Token) → LiveMove (behind_pragma_step nest h turns d t)
live_pragma nest d h turns (token.Keyword (word.Jump c)) = tt
live_pragma nest d h turns (token.Keyword _) = tt
live_pragma nest d h turns _ = tt

live_enter : (nest : List OpenParenthesis) (d : Draft) (h : Head) (o : Operator) (negated : Bool) → LiveMove (enter_step nest h o negated d)
live_enter nest d h o negated = either (takes_parentheses o) (has_depth (length nest))
  where
    either : (a b : Bool) → LiveMove (if a then (if b then continues nest h (part.BehindParenthesis o negated) d else Err fault.TooLong) else Err fault.Operand)
    either true true = tt
    either true false = tt
    either false b = tt

live_operator : (nest : List OpenParenthesis) (d : Draft) (h : Head) (o : Operator) (negated : Bool) (t : Token) → LiveMove (behind_operator_step nest h o negated d t)
live_operator nest d h o negated token.Open = live_enter nest d h o negated
live_operator nest d h o negated t = live_simple nest d h (option_map (form.Apply o negated) (operand_of t))

live_entered : (nest : List OpenParenthesis) (d : Draft) (h : Head) (o : Operator) (negated : Bool) (x : Option Operand) → LiveMove (entered_step nest h o negated d x)
live_entered nest d h o negated (Some x) = tt
live_entered nest d h o negated None = tt

live_parenthesis : (nest : List OpenParenthesis) (d : Draft) (h : Head) (o : Operator) (negated : Bool) (t : Token) → LiveMove (behind_parenthesis_step nest h o negated d t)
live_parenthesis nest d h o negated token.LineEnd = tt
live_parenthesis nest d h o negated t = live_entered nest d h o negated (operand_of t)

live_entry : (nest : List OpenParenthesis) (d : Draft) (h : Head) (o : Operator) (negated : Bool) (x : Operand) (t : Token) → LiveMove (behind_entry_step nest h o negated x d t)
live_entry nest d h o negated x token.LineEnd = tt
live_entry nest d h o negated x _ = tt

live_part : (s : PartStage) (nest : List OpenParenthesis) (d : Draft) (h : Head) (t : Token) → LiveMove (part_step nest h s d t)
live_part (part.BehindLoad negated) nest d h t = live_simple nest d h (option_map (form.Load negated) (operand_of t))
live_part (part.BehindOperator o negated) nest d h t = live_operator nest d h o negated t
live_part (part.BehindParenthesis o negated) nest d h t = live_parenthesis nest d h o negated t
live_part (part.BehindEntry o negated x) nest d h t = live_entry nest d h o negated x t
live_part (part.BehindPair o) nest d h t = live_pair nest d h o (operand_of t)
live_part (part.BehindFirst o x) nest d h t = live_first nest d h o x t
live_part (part.BehindFirstComma o x) nest d h t = live_simple nest d h (option_map (paired o x) (operand_of t))
live_part (part.BehindStore negated) nest d h t = live_store nest d h negated t
live_part (part.BehindSet value) nest d h t = live_set nest d h value t
live_part (part.BehindJump c turns) nest d h t = live_jump nest d h c turns t
live_part part.BehindBrace nest d h t = live_brace nest d h t
live_part part.BehindLoop nest d h t = live_loop nest d h t
live_part (part.BehindTurns turns) nest d h t = live_turns nest d h turns t
live_part (part.BehindPragma turns) nest d h t = live_pragma nest d h turns t

live_single : (nest : List OpenParenthesis) (d : Draft) (h : Head) (w : Keyword) → LiveMove (single_step nest d h w)
live_single nest d h (word.Return c) = tt
live_single nest d h word.Not = live_computed nest d h form.Invert
live_single nest d h word.Absolute = live_computed nest d h form.Absolute
live_single nest d h (word.Convert j k) = live_computed nest d h (form.Convert j k)
live_single nest d h _ = tt

live_begun : (nest : List OpenParenthesis) (d : Draft) (h : Head) (w : Keyword) (s : Option PartStage) → LiveMove (begun_step nest d h w s)
live_begun nest d h w (Some s) = tt
live_begun nest d h w None = live_single nest d h w

live_begin : (d : Draft) (h : Head) (t : Token) → LiveMove (begin_step d h t)
live_begin d h (token.Keyword w) = live_begun [] d h w (part_begun w)
live_begin d h token.OpenBrace = tt
live_begin d h token.Close = tt
live_begin d h _ = tt

live_line : (d : Draft) (t : Token) (m : ℕ) → LiveMove (line_step d t m)
live_line d token.LineEnd m = tt
live_line d (token.Keyword word.EndProgram) m = tt
live_line d (token.Name n) m = either (among n d.labels)
  where
    either : (b : Bool) → LiveMove (if b then Err fault.Duplicate else goes (stage.BehindLabel m n) d)
    either true = tt
    either false = tt
live_line d (token.Keyword k) m = live_begin d (record { line = m; label = None }) (token.Keyword k)
live_line d t m = live_begin d (record { line = m; label = None }) t

live_close : (f : OpenParenthesis) (nest : List OpenParenthesis) (d : Draft) → LiveMove (close_step f nest d)
live_close f nest d = either (is_filled f.operand f.inner)
  where
    either : (b : Bool) → LiveMove (if b then Ok (computed nest d f.head (deferred f f.inner)) else Err fault.Operand)
    either true = live_computed nest d f.head (deferred f f.inner)
    either false = tt

live_inner : (f : OpenParenthesis) (nest : List OpenParenthesis) (d : Draft) (w : Keyword) (m : ℕ) → LiveMove (inner_step f nest d w m)
live_inner f nest d w m = either (is_outer w)
  where
    either : (b : Bool) → LiveMove (if b then Err fault.Parenthesis else begun_step (f ∷ nest) d (record { line = m; label = None }) w (part_begun w))
    either true = tt
    either false = live_begun (f ∷ nest) d (record { line = m; label = None }) w (part_begun w)

live_at_line : (nest : List OpenParenthesis) (d : Draft) (t : Token) (m : ℕ) → LiveMove (at_line_step nest d t m)
live_at_line [] d t m = live_line d t m
live_at_line (f ∷ nest) d token.LineEnd m = tt
live_at_line (f ∷ nest) d token.Close m = live_close f nest d
live_at_line (f ∷ nest) d (token.Keyword w) m = live_inner f nest d w m
live_at_line (f ∷ nest) d _ m = tt

live_between : (d : Draft) (t : Token) (m : ℕ) → LiveMove (between_step d t m)
live_between d token.LineEnd m = tt
live_between d (token.Keyword word.Var) m = tt
live_between d (token.Keyword word.VarExternal) m = tt
live_between d (token.Keyword k) m = live_line d (token.Keyword k) m
live_between d t m = live_line d t m

live_label : (l : ℕ) (n : List ℕ) (d : Draft) (t : Token) → LiveMove (behind_label_step l n d t)
live_label l n d token.Colon = tt
live_label l n d _ = tt

live_instruction : (h : Head) (d : Draft) (t : Token) → LiveMove (at_instruction_step h d t)
live_instruction h d token.LineEnd = tt
live_instruction h d t = live_begin d h t

live_whole : (nest : List OpenParenthesis) (d : Draft) (t : Token) → LiveMove (whole_step nest d t)
live_whole nest d token.LineEnd = tt
live_whole nest d _ = tt

live_within : (s : Stage) (d : Draft) (t : Token) (m : ℕ) → IsLive (state.Within s d) → LiveMove (within_step s d t m)
live_within stage.BetweenBlocks d t m h = live_between d t m
live_within (stage.Block s) d t m h = live_block s d t m h
live_within (stage.AtLine nest) d t m h = live_at_line nest d t m
live_within (stage.BehindLabel l n) d t m h = live_label l n d t
live_within (stage.AtInstruction g) d t m h = live_instruction g d t
live_within (stage.Part nest g s) d t m h = live_part s nest d g t
live_within (stage.BehindInstruction nest) d t m h = live_whole nest d t

live_state : (s : State) (t : Token) (m : ℕ) → IsLive s → LiveMove (state_step s t m)
live_state state.Start t m h = live_start t
live_state state.Titled t m h = live_titled t
live_state (state.Within s d) t m h = live_within s d t m h
live_state (state.Over p) t m h = live_over p t

live_fault : (t : Token) (m : Move) → LiveMove m → LiveMove (with_fault t m)
live_fault t (Ok s) h = h
live_fault t (Err k) h = tt

live_step : (s : State) (t : Token) (m : ℕ) → IsLive s → LiveMove (step s t m)
live_step s t m h = live_fault t (state_step s t m) (live_state s t m h)

live_stepped : (s : State) (t : Option Token) (m : ℕ) → IsLive s → LiveMove (stepped s t m)
live_stepped s None m h = h
live_stepped s (Some t) m h = live_step s t m h

live_onward : (x : Move) (t : Option Token) (m : ℕ) → LiveMove x → LiveMove (onward x (λ s'. stepped s' t m))
live_onward (Ok s) t m h = live_stepped s t m h
live_onward (Err k) t m h = tt

live_taken : (s : State) (x : Lexed) (m : ℕ) → IsLive s → LiveMove (taken s x m)
live_taken s x m h = live_onward (stepped s x.ended m) x.own m (live_stepped s x.ended m h)

abbrev LiveReader : Result Reader ReadFault → Type 0
LiveReader (Ok r) = IsLive r.state
LiveReader (Err f) = Unit {0}

live_moved : (r : Reader) (b : ℕ) (bs : List ℕ) (x : Lexed) (m : Move) → LiveMove m → LiveReader (state_read r b bs x m)
live_moved r b bs x (Ok s) h = h
live_moved r b bs x (Err k) h = tt

live_read : (r : Reader) (b : ℕ) (bs : List ℕ) (x : Result Lexed ByteFault) → IsLive r.state → LiveReader (byte_read r b bs x)
live_read r b bs (Ok x) h = live_moved r b bs x (taken r.state x r.line) (live_taken r.state x r.line h)
live_read r b bs (Err k) h = tt

pub live_fed : (text : List ℕ) (r q : Reader) → fed r text ≡ Ok q → IsLive r.state → IsLive q.state
live_fed [] r q e h = let same : r ≡ q = cc in subst (λ z. IsLive z.state) same h
live_fed (b ∷ bs) r q e h = go (λ r' e h. live_fed bs r' q e h) (byte_fed r b bs) e (live_read r b bs (lexed r.mode b) h)
  where
    go : ((r' : Reader) → fed r' bs ≡ Ok q → IsLive r'.state → IsLive q.state) → (x : Result Reader ReadFault) → fed_on x (λ r'. fed r' bs) ≡ Ok q → LiveReader x → IsLive q.state
    go on (Ok r') e h = on r' e h
    go on (Err f) e h = absurd (no e)
      where
        no : Err f ≡ Ok q → ⊥
        no e = cc
