-- What remains to be read of a text, for each state.
use Rattle.std.proofs.Common.{◌≡◌, ◌⊎◌, ℕ, suc, Bool, true, false, ℤ, List, [], ◌∷◌, length, Option, Some, Ok, Err}
use Rattle.point_types.specs.declared.il_type.IlType.{IlType}
use Rattle.point_types.specs.declared.operator.Condition.{Condition}
use Rattle.point_types.specs.declared.operator.Operator.{Operator}
use Rattle.il_reader.specs.declared.token.Keyword.TheVariants as word
use Rattle.il_reader.specs.declared.token.Token.{Token}
use Rattle.il_reader.specs.declared.token.Token.TheVariants as token
use Rattle.il_reader.specs.declared.tree.Action.{Action}
use Rattle.il_reader.specs.declared.tree.Action.TheVariants as action
use Rattle.il_reader.specs.declared.tree.Operand.{Operand}
use Rattle.il_reader.specs.declared.tree.Program.{Program}
use Rattle.il_reader.specs.declared.tree.Statement.{Statement}
use Rattle.il_reader.specs.declared.typing.Entry.{Entry}
use Rattle.il_reader.specs.declared.typing.Typing.{Typing}
use Rattle.il_reader.specs.declared.draft.Draft.{Draft}
use Rattle.il_reader.specs.declared.draft.Head.{Head}
use Rattle.il_reader.specs.declared.nest.OpenParenthesis.{OpenParenthesis}
use Rattle.il_reader.specs.declared.stage.BlockStage.{BlockStage}
use Rattle.il_reader.specs.declared.stage.BlockStage.TheVariants as block
use Rattle.il_reader.specs.declared.stage.PartStage.{PartStage}
use Rattle.il_reader.specs.declared.stage.PartStage.TheVariants as part
use Rattle.il_reader.specs.declared.stage.Stage.{Stage}
use Rattle.il_reader.specs.declared.stage.Stage.TheVariants as stage
use Rattle.il_reader.specs.declared.state.State.{State}
use Rattle.il_reader.specs.declared.state.State.TheVariants as state
use Rattle.il_reader.specs.Written.{Written, Inner, followed_by}
use Rattle.il_reader.specs.Written as form
use Rattle.il_reader.specs.Nesting.{takes_parentheses, has_depth, is_filled, frame_of, with_line, deferred}
use Rattle.il_reader.specs.Declaration.{value_of, begun, bounded, started, made}
use Rattle.il_reader.specs.Drafting.{Move, with_entry, with_variables, with_externals, with_label, with_statement, titled_draft}
use Rattle.il_reader.specs.Instructions.{operand_of, paired, is_loop, turns_of}
use Rattle.il_reader.specs.Reading.{step, onward}
use Rattle.il_reader.specs.Grammar.{past, IsNext, IsEnd, IsEntry, IsSimple, IsInner, IsAction, IsLabelled, IsBody, Nature, Declaration, Block, IsFree, AreOthers, IsRange, IsStart, IsNature, IsTyped, AreDeclarations, AreBlocks, IsProgram}
use Rattle.il_reader.specs.Lexemes.{Placed, placed}
use Rattle.il_reader.proofs.Drafts.{listed, closed, after, after_blocks, finished}

-- tokens in turn
abbrev pub run : State → List Placed → Move
run s [] = Ok s
run s (placed t m ∷ ts) = onward (step s t m) (λ s'. run s' ts)

-- The body.

abbrev pub RestBody : Draft → List Placed → Program → Type 0
RestBody d ts p = (body : List Statement) × (e : ℕ) × IsBody d.labels body e ts × (p ≡ finished d body e)

-- at the beginning of a line inside parentheses: first those of the inmost, up to the line after the closing one
abbrev pub RestInside : OpenParenthesis → List OpenParenthesis → Draft → List Placed → Program → Type 0
RestInside f [] d ts p =
    (rest : Inner) × (a b : List Placed) × IsInner 1 rest ts a × (is_filled f.operand (followed_by f.inner rest) ≡ true) × IsEnd a b × RestBody (with_statement d f.head (Some (action.Compute (deferred f (followed_by f.inner rest))))) b p
RestInside f (g ∷ nest) d ts p =
    (rest : Inner) × (a b : List Placed) × IsInner (suc (suc (length nest))) rest ts a × (is_filled f.operand (followed_by f.inner rest) ≡ true) × IsEnd a b × RestInside (with_line g f.head.line (deferred f (followed_by f.inner rest))) nest d b p

abbrev pub RestLines : List OpenParenthesis → Draft → List Placed → Program → Type 0
RestLines [] d ts p = RestBody d ts p
RestLines (f ∷ nest) d ts p = RestInside f nest d ts p

abbrev pub RestWhole : List OpenParenthesis → Draft → List Placed → Program → Type 0
RestWhole nest d ts p = (b : List Placed) × IsEnd ts b × RestLines nest d b p

-- after an instruction on the result alone
abbrev pub RestComputed : List OpenParenthesis → Draft → Head → Written → List Placed → Program → Type 0
RestComputed [] d h x ts p = RestWhole [] (with_statement d h (Some (action.Compute x))) ts p
RestComputed (f ∷ nest) d h x ts p = RestWhole (with_line f h.line x ∷ nest) d ts p

-- an instruction of the body whose first token stands in line m
abbrev pub RestAction : Draft → Head → ℕ → List Placed → Program → Type 0
RestAction d h m ts p = (x : Action) × (a : List Placed) × IsAction m x ts a × RestWhole [] (with_statement d h (Some x)) a p

-- an instruction on the result alone whose first token stands in line m
abbrev pub RestSimple : List OpenParenthesis → Draft → Head → ℕ → List Placed → Program → Type 0
RestSimple nest d h m ts p = (x : Written) × (a : List Placed) × IsSimple (length nest) m x ts a × RestComputed nest d h x a p

abbrev pub RestLabelled : Draft → Head → List Placed → Program → Type 0
RestLabelled d h ts p = (x : Option Action) × (a : List Placed) × IsLabelled x ts a × RestWhole [] (with_statement d h x) a p

abbrev pub RestOperand : List OpenParenthesis → Draft → Head → (Operand → Written) → List Placed → Program → Type 0
RestOperand nest d h f ts p =
    (t : Token) × (x : Operand) × (m : ℕ) × (a : List Placed) × (operand_of t ≡ Some x) × (ts ≡ placed t m ∷ a) × RestComputed nest d h (f x) a p

abbrev pub RestName : List OpenParenthesis → Draft → Head → (List ℕ → Action) → List Placed → Program → Type 0
RestName nest d h f ts p = (n : List ℕ) × (m : ℕ) × (a : List Placed) × (ts ≡ placed (token.Name n) m ∷ a) × RestWhole nest (with_statement d h (Some (f n))) a p

-- after an operator and an opening parenthesis
abbrev pub RestEntry : List OpenParenthesis → Draft → Head → Operator → Bool → List Placed → Program → Type 0
RestEntry nest d h o negated ts p = (first : Option Operand) × (a : List Placed) × IsEntry first ts a × RestInside (frame_of h o negated first) nest d a p

abbrev pub RestOpening : List OpenParenthesis → Draft → Head → Operator → Bool → List Placed → Program → Type 0
RestOpening nest d h o negated ts p =
    (m : ℕ) × (a : List Placed) × (takes_parentheses o ≡ true) × (has_depth (length nest) ≡ true) × (ts ≡ placed token.Open m ∷ a) × RestEntry nest d h o negated a p

abbrev pub RestPart : PartStage → List OpenParenthesis → Draft → Head → List Placed → Program → Type 0
RestPart (part.BehindLoad negated) nest d h ts p = RestOperand nest d h (form.Load negated) ts p
RestPart (part.BehindOperator o negated) nest d h ts p = RestOperand nest d h (form.Apply o negated) ts p ⊎ RestOpening nest d h o negated ts p
RestPart (part.BehindParenthesis o negated) nest d h ts p = RestEntry nest d h o negated ts p
RestPart (part.BehindEntry o negated x) nest d h ts p = (a : List Placed) × IsEnd ts a × RestInside (frame_of h o negated (Some x)) nest d a p
RestPart (part.BehindPair o) nest d h ts p =
    (t u : Token) × (x y : Operand) × (m i n : ℕ) × (a : List Placed) × (operand_of t ≡ Some x) × (operand_of u ≡ Some y) × (ts ≡ placed t m ∷ placed token.Comma i ∷ placed u n ∷ a) × RestComputed nest d h (paired o x y) a p
RestPart (part.BehindFirst o x) nest d h ts p =
    (u : Token) × (y : Operand) × (i n : ℕ) × (a : List Placed) × (operand_of u ≡ Some y) × (ts ≡ placed token.Comma i ∷ placed u n ∷ a) × RestComputed nest d h (paired o x y) a p
RestPart (part.BehindFirstComma o x) nest d h ts p = RestOperand nest d h (paired o x) ts p
RestPart (part.BehindStore negated) nest d h ts p = RestName nest d h (action.Store negated) ts p
RestPart (part.BehindSet value) nest d h ts p = RestName nest d h (action.Set value) ts p
RestPart (part.BehindJump c turns) nest d h ts p = RestName nest d h (λ n. action.Jump c n turns) ts p
RestPart part.BehindBrace nest d h ts p =
    (w n : List ℕ) × (v : ℤ) × (turns : ℕ) × (c : Condition) × (g i j k m : ℕ) × (a : List Placed) × (is_loop w ≡ true) × (turns_of v ≡ Some turns) × (ts ≡ placed (token.Name w) g ∷ placed (token.Decimal v) i ∷ placed token.CloseBrace j ∷ placed (token.Keyword (word.Jump c)) k ∷ placed (token.Name n) m ∷ a) × RestWhole nest (with_statement d h (Some (action.Jump c n (Some turns)))) a p
RestPart part.BehindLoop nest d h ts p =
    (n : List ℕ) × (v : ℤ) × (turns : ℕ) × (c : Condition) × (i j k m : ℕ) × (a : List Placed) × (turns_of v ≡ Some turns) × (ts ≡ placed (token.Decimal v) i ∷ placed token.CloseBrace j ∷ placed (token.Keyword (word.Jump c)) k ∷ placed (token.Name n) m ∷ a) × RestWhole nest (with_statement d h (Some (action.Jump c n (Some turns)))) a p
RestPart (part.BehindTurns turns) nest d h ts p =
    (n : List ℕ) × (c : Condition) × (j k m : ℕ) × (a : List Placed) × (ts ≡ placed token.CloseBrace j ∷ placed (token.Keyword (word.Jump c)) k ∷ placed (token.Name n) m ∷ a) × RestWhole nest (with_statement d h (Some (action.Jump c n (Some turns)))) a p
RestPart (part.BehindPragma turns) nest d h ts p =
    (n : List ℕ) × (c : Condition) × (k m : ℕ) × (a : List Placed) × (ts ≡ placed (token.Keyword (word.Jump c)) k ∷ placed (token.Name n) m ∷ a) × RestWhole nest (with_statement d h (Some (action.Jump c n (Some turns)))) a p

-- Declarations.

abbrev pub RestTop : Draft → List Placed → Program → Type 0
RestTop d ts p = (bs : List Block) × (body : List Statement) × (e : ℕ) × (c : List Placed) × AreBlocks d.scope bs ts c × IsBody d.labels body e c × (p ≡ finished (after_blocks d bs) body e)

abbrev pub RestIn : Bool → Draft → List Placed → Program → Type 0
RestIn x d ts p = (ys : List Declaration) × (b : List Placed) × AreDeclarations x d.scope ys ts b × RestTop (after x d ys) b p

abbrev pub RestNamed : Bool → Draft → List Placed → Program → Type 0
RestNamed x d ts p = (es : List Entry) × (n : Nature) × (a f : List Placed) × AreOthers x d.scope es ts a × IsTyped x n a f × RestIn x (closed (listed x d es) n) f p

abbrev pub RestClosed : Typing → Draft → List Placed → Program → Type 0
RestClosed z d ts p = (l : ℕ) × (b : List Placed) × IsNext token.Semicolon l ts b × RestIn false (with_variables d z) b p

abbrev pub RestRange : Typing → Draft → List Placed → Program → Type 0
RestRange y d ts p = (z : Typing) × (f : List Placed) × IsStart y z ts f × RestIn false (with_variables d z) f p

abbrev pub RestHigh : Typing → Draft → List Placed → Program → Type 0
RestHigh y d ts p = (l : ℕ) × (g : List Placed) × IsNext token.Close l ts g × RestRange y d g p

abbrev pub RestDots : Typing → Draft → List Placed → Program → Type 0
RestDots z d ts p = (u : Token) × (y : Typing) × (j : ℕ) × (e : List Placed) × IsNext u j ts e × (made (bounded z) (value_of z.kind u) ≡ Some y) × RestHigh y d e p

abbrev pub RestLow : Typing → Draft → List Placed → Program → Type 0
RestLow z d ts p = (i : ℕ) × (c : List Placed) × IsNext token.Dots i ts c × RestDots z d c p

abbrev pub RestOpen : IlType → Draft → List Placed → Program → Type 0
RestOpen k d ts p = (t : Token) × (z : Typing) × (h : ℕ) × (b : List Placed) × IsNext t h ts b × (made (begun k) (value_of k t) ≡ Some z) × RestLow z d b p

abbrev pub RestBlock : BlockStage → Draft → List Placed → Program → Type 0
RestBlock (block.InBlock x) d ts p = RestIn x d ts p
RestBlock (block.BehindName x) d ts p = RestNamed x d ts p
RestBlock (block.BehindComma x) d ts p =
    (e : Entry) × (a : List Placed) × IsFree x d.scope e.name × IsNext (token.Name e.name) e.line ts a × RestNamed x (with_entry x d e.line e.name) a p
RestBlock (block.BehindColon x) d ts p = (n : Nature) × (f : List Placed) × IsNature x n ts f × RestIn x (closed d n) f p
RestBlock (block.BehindExternal k) d ts p = (l : ℕ) × (b : List Placed) × IsNext token.Semicolon l ts b × RestIn true (with_externals d k) b p
RestBlock (block.BehindType w) d ts p = (y : Typing) × (b : List Placed) × IsRange w y ts b × RestRange y d b p
RestBlock (block.BehindOpen k) d ts p = RestOpen k d ts p
RestBlock (block.BehindLow z) d ts p = RestLow z d ts p
RestBlock (block.BehindDots z) d ts p = RestDots z d ts p
RestBlock (block.BehindHigh y) d ts p = RestHigh y d ts p
RestBlock (block.BehindRange y) d ts p = RestRange y d ts p
RestBlock (block.BehindAssign y) d ts p = (t : Token) × (z : Typing) × (j : ℕ) × (b : List Placed) × IsNext t j ts b × (made (started y) (value_of y.kind t) ≡ Some z) × RestClosed z d b p
RestBlock (block.BehindStart z) d ts p = RestClosed z d ts p

abbrev pub RestWithin : Stage → Draft → List Placed → Program → Type 0
RestWithin stage.BetweenBlocks d ts p = RestTop d ts p
RestWithin (stage.Block s) d ts p = RestBlock s d ts p
RestWithin (stage.AtLine nest) d ts p = RestLines nest d ts p
RestWithin (stage.BehindLabel l n) d ts p =
    (m : ℕ) × (a : List Placed) × (ts ≡ placed token.Colon m ∷ a) × RestLabelled (with_label d n) (record { line = l; label = Some n }) a p
RestWithin (stage.AtInstruction h) d ts p = RestLabelled d h ts p
RestWithin (stage.Part nest h s) d ts p = RestPart s nest d h ts p
RestWithin (stage.BehindInstruction nest) d ts p = RestWhole nest d ts p

abbrev pub Rest : State → List Placed → Program → Type 0
Rest state.Start ts p = IsProgram ts p
Rest state.Titled ts p = (n : List ℕ) × (j : ℕ) × (b : List Placed) × IsNext (token.Name n) j ts b × RestTop (titled_draft n) b p
Rest (state.Within s d) ts p = RestWithin s d ts p
Rest (state.Over q) ts p = (past ts ≡ []) × (p ≡ q)

abbrev pub Back : Move → List Placed → Program → Type 0
Back (Ok s) ts p = Rest s ts p
Back (Err k) ts p = ⊥
