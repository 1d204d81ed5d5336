-- From the grammar to reading: what spells a program is read to that program.
use Rattle.std.proofs.Common.{◌≡◌, ℕ, suc, length, Bool, true, false, ℤ, List, [], ◌∷◌, ◌++◌, Option, Some, None, Ok, Err, inl, inr, refl, sym, ap, ◌∙◌, subst, append_assoc, if◌then◌else◌, option_map}
use Rattle.std.proofs.lemmas.List.{append-nil}
use Rattle.point_types.specs.declared.il_type.IlType.{IlType}
use Rattle.point_types.specs.declared.operator.Condition.{Condition}
use Rattle.point_types.specs.declared.operator.Operator.{Operator}
use Rattle.point_types.specs.Value.{is_bool}
use Rattle.il_reader.specs.declared.fault.ReadFaultKind.TheVariants as fault
use Rattle.il_reader.specs.declared.token.Keyword.{Keyword}
use Rattle.il_reader.specs.declared.token.Keyword.TheVariants as word
use Rattle.il_reader.specs.declared.token.Token.{Token}
use Rattle.il_reader.specs.declared.token.Token.TheVariants as token
use Rattle.il_reader.specs.declared.tree.Action.{Action}
use Rattle.il_reader.specs.declared.tree.Action.TheVariants as action
use Rattle.il_reader.specs.declared.tree.Operand.{Operand}
use Rattle.il_reader.specs.declared.tree.Program.{Program}
use Rattle.il_reader.specs.declared.tree.Statement.{Statement}
use Rattle.il_reader.specs.declared.typing.Entry.{Entry}
use Rattle.il_reader.specs.declared.typing.Typing.{Typing}
use Rattle.il_reader.specs.declared.draft.Draft.{Draft}
use Rattle.il_reader.specs.declared.draft.Head.{Head}
use Rattle.il_reader.specs.declared.nest.OpenParenthesis.{OpenParenthesis}
use Rattle.il_reader.specs.declared.stage.BlockStage.{BlockStage}
use Rattle.il_reader.specs.declared.stage.BlockStage.TheVariants as block
use Rattle.il_reader.specs.declared.stage.PartStage.{PartStage}
use Rattle.il_reader.specs.declared.stage.PartStage.TheVariants as part
use Rattle.il_reader.specs.declared.stage.Pair.{Pair}
use Rattle.il_reader.specs.declared.stage.Pair.TheVariants as pair
use Rattle.il_reader.specs.declared.stage.Stage.{Stage}
use Rattle.il_reader.specs.declared.stage.Stage.TheVariants as stage
use Rattle.il_reader.specs.declared.state.State.{State}
use Rattle.il_reader.specs.declared.state.State.TheVariants as state
use Rattle.il_reader.specs.Written.{Written, Inner, followed_by}
use Rattle.il_reader.specs.Written as form
use Rattle.il_reader.specs.Nesting.{takes_parentheses, has_depth, is_filled, frame_of, with_line, deferred, is_outer}
use Rattle.il_reader.specs.Declaration.{is_taken, has_room, value_of, begun, bounded, started, made}
use Rattle.il_reader.specs.Drafting.{Move, goes, declares, continues, with_entry, with_variables, with_label, with_statement, titled_draft, program_of}
use Rattle.il_reader.specs.Instructions.{operand_of, computed, simple_step, begun_step, part_begun, enter_step, behind_operator_step, entered_step, behind_parenthesis_step, close_step, begin_step, line_step, between_step, paired, behind_pair_step, turns_step}
use Rattle.il_reader.specs.Reading.{ranged_step, behind_open_step, behind_dots_step, behind_assign_step, with_fault, step, onward}
use Rattle.il_reader.specs.Grammar.{past, IsNext, IsEnd, IsEntry, IsSimple, IsInner, IsJump, IsAction, IsLabelled, IsLine, labels_with, IsBody, Nature, OfVariable, OfExternal, Declaration, Block, IsFree, AreOthers, IsSubrange, IsRange, IsStart, IsNature, IsTyped, IsDeclaration, AreDeclarations, block_token, AreBlocks, externals_of, IsProgram}
use Rattle.il_reader.specs.Lexemes.{Placed, placed}
use Rattle.il_reader.proofs.Drafts.{listed, closed, after_one, after, after_blocks, finished, scope_one, scope_after, labels_after, finished_is}
use Rattle.il_reader.proofs.Rest.{run}
use Rattle.il_reader.proofs.Instructed.{follow_none, follow_one}

-- Line ends that are blanks.

run_past : (s : State) → ((m : ℕ) → step s token.LineEnd m ≡ Ok s) → (ts : List Placed) → run s ts ≡ run s (past ts)
run_past s skips [] = refl
run_past s skips (placed token.LineEnd m ∷ ts) = ap (λ z. onward z (λ s'. run s' ts)) (skips m) ∙ run_past s skips ts
run_past s skips (t ∷ ts) = refl

run_next : (s : State) → ((m : ℕ) → step s token.LineEnd m ≡ Ok s) → (t : Token) (l : ℕ) (from to : List Placed) → IsNext t l from to → run s from ≡ onward (step s t l) (λ s'. run s' to)
run_next s skips t l from to h = run_past s skips from ∙ ap (run s) h

abbrev at : Stage → Draft → State
at s d = state.Within s d

abbrev in_block : BlockStage → Draft → State
in_block s d = state.Within (stage.Block s) d

abbrev in_part : PartStage → List OpenParenthesis → Draft → Head → State
in_part s nest d h = state.Within (stage.Part nest h s) d

-- what a token does that is followed by others
moved : (s next : State) (t : Token) (m : ℕ) (from to : List Placed) → from ≡ placed t m ∷ to → step s t m ≡ Ok next → run s from ≡ run next to
moved s next t m from to e h = ap (run s) e ∙ ap (λ z. onward z (λ s'. run s' to)) h

-- Instructions.

abbrev done : Draft → Head → Action → State
done d h x = at (stage.BehindInstruction []) (with_statement d h (Some x))

operand_run : (nest : List OpenParenthesis) (d : Draft) (h : Head) (f : Operand → Written) (t : Token) (x : Operand) (to : List Placed) → operand_of t ≡ Some x → onward (with_fault t (simple_step nest d h (option_map f (operand_of t)))) (λ s'. run s' to) ≡ run (computed nest d h (f x)) to
operand_run nest d h f t x to e = ap (λ z. onward (with_fault t (simple_step nest d h (option_map f z))) (λ s'. run s' to)) e

pair_run : (nest : List OpenParenthesis) (d : Draft) (h : Head) (o : Pair) (t u : Token) (x y : Operand) (m i n : ℕ) (to : List Placed) → operand_of t ≡ Some x → operand_of u ≡ Some y → run (in_part (part.BehindPair o) nest d h) (placed t m ∷ placed token.Comma i ∷ placed u n ∷ to) ≡ run (computed nest d h (paired o x y)) to
pair_run nest d h o t u x y m i n to e f =
    ap (λ z. onward (with_fault t (behind_pair_step nest h o d z)) (λ s'. run s' (placed token.Comma i ∷ placed u n ∷ to))) e ∙ operand_run nest d h (paired o x) u y to f

-- an operand is neither an opening parenthesis nor a line's end
operator_same : (nest : List OpenParenthesis) (d : Draft) (h : Head) (o : Operator) (negated : Bool) (t : Token) (x : Operand) → operand_of t ≡ Some x → behind_operator_step nest h o negated d t ≡ simple_step nest d h (option_map (form.Apply o negated) (operand_of t))
operator_same nest d h o negated token.Open x e = absurd (no e)
  where
    no : None ≡ Some x → ⊥
    no e = cc
operator_same nest d h o negated _ x e = refl

parenthesis_same : (nest : List OpenParenthesis) (d : Draft) (h : Head) (o : Operator) (negated : Bool) (t : Token) (x : Operand) → operand_of t ≡ Some x → behind_parenthesis_step nest h o negated d t ≡ entered_step nest h o negated d (operand_of t)
parenthesis_same nest d h o negated token.LineEnd x e = absurd (no e)
  where
    no : None ≡ Some x → ⊥
    no e = cc
parenthesis_same nest d h o negated _ x e = refl

ended_run : (nest : List OpenParenthesis) (d : Draft) (a b : List Placed) → IsEnd a b → run (at (stage.BehindInstruction nest) d) a ≡ run (at (stage.AtLine nest) d) b
ended_run nest d a b (k, e) = ap (run (at (stage.BehindInstruction nest) d)) e

-- Parentheses.

-- an opening one, after an operator
enter_run : (nest : List OpenParenthesis) (d : Draft) (h : Head) (o : Operator) (negated : Bool) (to : List Placed) → takes_parentheses o ≡ true → has_depth (length nest) ≡ true → onward (with_fault token.Open (enter_step nest h o negated d)) (λ s'. run s' to) ≡ run (in_part (part.BehindParenthesis o negated) nest d h) to
enter_run nest d h o negated to takes deep =
    ap (λ z. onward (with_fault token.Open (if z then (if has_depth (length nest) then continues nest h (part.BehindParenthesis o negated) d else Err fault.TooLong) else Err fault.Operand)) (λ s'. run s' to)) takes ∙ ap (λ z. onward (with_fault token.Open (if z then continues nest h (part.BehindParenthesis o negated) d else Err fault.TooLong)) (λ s'. run s' to)) deep

entry_run : (nest : List OpenParenthesis) (d : Draft) (h : Head) (o : Operator) (negated : Bool) (first : Option Operand) (from to : List Placed) → IsEntry first from to → run (in_part (part.BehindParenthesis o negated) nest d h) from ≡ run (at (stage.AtLine (frame_of h o negated first ∷ nest)) d) to
entry_run nest d h o negated None from to (k, e) = ap (run (in_part (part.BehindParenthesis o negated) nest d h)) e
entry_run nest d h o negated (Some x) from to (t, m, a, e, g, (k, q)) =
    ap (run (in_part (part.BehindParenthesis o negated) nest d h)) g ∙ ap (λ z. onward (with_fault t z) (λ s'. run s' a)) (parenthesis_same nest d h o negated t x e) ∙ ap (λ z. onward (with_fault t (entered_step nest h o negated d z)) (λ s'. run s' a)) e ∙ ap (run (in_part (part.BehindEntry o negated x) nest d h)) q

-- the closing one
close_run : (f : OpenParenthesis) (nest : List OpenParenthesis) (d : Draft) (to : List Placed) → is_filled f.operand f.inner ≡ true → onward (with_fault token.Close (close_step f nest d)) (λ s'. run s' to) ≡ run (computed nest d f.head (deferred f f.inner)) to
close_run f nest d to e = ap (λ z. onward (with_fault token.Close (if z then Ok (computed nest d f.head (deferred f f.inner)) else Err fault.Operand)) (λ s'. run s' to)) e

-- a state that begins an instruction on the result alone as the beginning of a line does
abbrev BeginsSimple : State → List OpenParenthesis → Draft → Head → ℕ → Type 0
BeginsSimple s nest d h m = (k : Keyword) → is_outer k ≡ false → step s (token.Keyword k) m ≡ with_fault (token.Keyword k) (begun_step nest d h k (part_begun k))

inside_begins : (f : OpenParenthesis) (nest : List OpenParenthesis) (d : Draft) (m : ℕ) → BeginsSimple (at (stage.AtLine (f ∷ nest)) d) (f ∷ nest) d (record { line = m; label = None }) m
inside_begins f nest d m k e = ap (λ z. with_fault (token.Keyword k) (if z then Err fault.Parenthesis else begun_step (f ∷ nest) d (record { line = m; label = None }) k (part_begun k))) e

mutual
  simple_run : (x : Written) (s : State) (nest : List OpenParenthesis) (d : Draft) (h : Head) (m : ℕ) → BeginsSimple s nest d h m → (from to : List Placed) → IsSimple (length nest) m x from to → run s from ≡ run (computed nest d h x) to
  simple_run (form.Load negated x) s nest d h m b from to (t, n, e, g) =
      moved s (in_part (part.BehindLoad negated) nest d h) (token.Keyword (word.Load negated)) m from (placed t n ∷ to) g (b (word.Load negated) refl) ∙ operand_run nest d h (form.Load negated) t x to e
  simple_run (form.Apply o negated x) s nest d h m b from to (t, n, e, g) =
      moved s (in_part (part.BehindOperator o negated) nest d h) (token.Keyword (word.Apply o negated)) m from (placed t n ∷ to) g (b (word.Apply o negated) refl) ∙ ap (λ z. onward (with_fault t z) (λ s'. run s' to)) (operator_same nest d h o negated t x e) ∙ operand_run nest d h (form.Apply o negated) t x to e
  simple_run (form.Defer o negated first inner) s nest d h m b from to (k, a, c, takes, deep, filled, g, entry, i) =
      moved s (in_part (part.BehindOperator o negated) nest d h) (token.Keyword (word.Apply o negated)) m from (placed token.Open k ∷ a) g (b (word.Apply o negated) refl) ∙ enter_run nest d h o negated a takes deep ∙ entry_run nest d h o negated first a c entry ∙ inner_run inner (frame_of h o negated first) nest d c to filled i
  simple_run (form.Limit x y) s nest d h m b from to (t, u, k, i, n, e, f, g) =
      moved s (in_part (part.BehindPair pair.Limit) nest d h) (token.Keyword word.Limit) m from (placed t k ∷ placed token.Comma i ∷ placed u n ∷ to) g (b word.Limit refl) ∙ pair_run nest d h pair.Limit t u x y k i n to e f
  simple_run (form.Select x y) s nest d h m b from to (t, u, k, i, n, e, f, g) =
      moved s (in_part (part.BehindPair pair.Select) nest d h) (token.Keyword word.Select) m from (placed t k ∷ placed token.Comma i ∷ placed u n ∷ to) g (b word.Select refl) ∙ pair_run nest d h pair.Select t u x y k i n to e f
  simple_run form.Invert s nest d h m b from to g = moved s (computed nest d h form.Invert) (token.Keyword word.Not) m from to g (b word.Not refl)
  simple_run form.Absolute s nest d h m b from to g = moved s (computed nest d h form.Absolute) (token.Keyword word.Absolute) m from to g (b word.Absolute refl)
  simple_run (form.Convert j k) s nest d h m b from to g = moved s (computed nest d h (form.Convert j k)) (token.Keyword (word.Convert j k)) m from to g (b (word.Convert j k) refl)

  -- the lines inside, and the closing one
  inner_run : (inner : Inner) (f : OpenParenthesis) (nest : List OpenParenthesis) (d : Draft) (from to : List Placed) → is_filled f.operand (followed_by f.inner inner) ≡ true → IsInner (suc (length nest)) inner from to → run (at (stage.AtLine (f ∷ nest)) d) from ≡ run (computed nest d f.head (deferred f (followed_by f.inner inner))) to
  inner_run form.Close f nest d from to filled (k, h) =
      let none : followed_by f.inner form.Close ≡ f.inner = follow_none f.inner in
      run_next (at (stage.AtLine (f ∷ nest)) d) (λ j. refl) token.Close k from to h ∙ close_run f nest d to (subst (λ z. is_filled f.operand z ≡ true) none filled) ∙ ap (λ z. run (computed nest d f.head (deferred f z)) to) (sym none)
  inner_run (form.Then k x rest) f nest d from to filled (a, b, i, q, r) =
      let one : followed_by (followed_by f.inner (form.Then k x form.Close)) rest ≡ followed_by f.inner (form.Then k x rest) = follow_one f.inner k x rest in
      run_past (at (stage.AtLine (f ∷ nest)) d) (λ j. refl) from ∙ simple_run x (at (stage.AtLine (f ∷ nest)) d) (f ∷ nest) d (record { line = k; label = None }) k (inside_begins f nest d k) (past from) a i ∙ ended_run (with_line f k x ∷ nest) d a b q ∙ inner_run rest (with_line f k x) nest d b to (subst (λ z. is_filled f.operand z ≡ true) (sym one) filled) r ∙ ap (λ z. run (computed nest d f.head (deferred f z)) to) one

-- Instructions of the body.

-- a state that begins an instruction as the line's beginning and the place after a label do
abbrev Begins : State → Draft → Head → ℕ → Type 0
Begins s d h m = ((k : Keyword) → (k ≡ word.EndProgram → ⊥) → step s (token.Keyword k) m ≡ with_fault (token.Keyword k) (begin_step d h (token.Keyword k))) × (step s token.OpenBrace m ≡ with_fault token.OpenBrace (begin_step d h token.OpenBrace))

begins_simple : (s : State) (d : Draft) (h : Head) (m : ℕ) → Begins s d h m → BeginsSimple s [] d h m
begins_simple s d h m (b, c) k o = b k (λ e. no (sym o ∙ ap is_outer e))
  where
    no : false ≡ true → ⊥
    no h = cc

jump_run : (s : State) (d : Draft) (h : Head) (m : ℕ) → Begins s d h m → (c : Condition) (n : List ℕ) (turns : Option ℕ) (from to : List Placed) → IsJump m c n turns from to → run s from ≡ run (done d h (action.Jump c n turns)) to
jump_run s d h m (b, o) c n None from to (k, g) =
    moved s (in_part (part.BehindJump c None) [] d h) (token.Keyword (word.Jump c)) m from (placed (token.Name n) k ∷ to) g (b (word.Jump c) (λ h. cc))
jump_run s d h m (b, o) c n (Some turns) from to (w, v, g, i, j, k, q, e, f, r) =
    moved s (in_part part.BehindBrace [] d h) token.OpenBrace m from (placed (token.Name w) g ∷ placed (token.Decimal v) i ∷ placed token.CloseBrace j ∷ placed (token.Keyword (word.Jump c)) k ∷ placed (token.Name n) q ∷ to) r o ∙ ap (λ z. onward (with_fault (token.Name w) (if z then continues [] h part.BehindLoop d else Err fault.Word)) (λ s'. run s' (placed (token.Decimal v) i ∷ placed token.CloseBrace j ∷ placed (token.Keyword (word.Jump c)) k ∷ placed (token.Name n) q ∷ to))) e ∙ ap (λ z. onward (with_fault (token.Decimal v) (turns_step [] h d z)) (λ s'. run s' (placed token.CloseBrace j ∷ placed (token.Keyword (word.Jump c)) k ∷ placed (token.Name n) q ∷ to))) f

action_run : (s : State) (d : Draft) (h : Head) (m : ℕ) → Begins s d h m → (x : Action) (from to : List Placed) → IsAction m x from to → run s from ≡ run (done d h x) to
action_run s d h m b (action.Compute x) from to i = simple_run x s [] d h m (begins_simple s d h m b) from to i
action_run s d h m (b, c) (action.Store negated n) from to (k, g) = moved s (in_part (part.BehindStore negated) [] d h) (token.Keyword (word.Store negated)) m from (placed (token.Name n) k ∷ to) g (b (word.Store negated) (λ h. cc))
action_run s d h m (b, c) (action.Set value n) from to (k, g) = moved s (in_part (part.BehindSet value) [] d h) (token.Keyword (word.Set value)) m from (placed (token.Name n) k ∷ to) g (b (word.Set value) (λ h. cc))
action_run s d h m b (action.Jump c n turns) from to i = jump_run s d h m b c n turns from to i
action_run s d h m (b, c) (action.Return o) from to g = moved s (done d h (action.Return o)) (token.Keyword (word.Return o)) m from to g (b (word.Return o) (λ h. cc))

line_begins : (d : Draft) (m : ℕ) → Begins (at (stage.AtLine []) d) d (record { line = m; label = None }) m
line_begins d m = (go, refl)
  where
    go : (k : Keyword) → (k ≡ word.EndProgram → ⊥) → step (at (stage.AtLine []) d) (token.Keyword k) m ≡ with_fault (token.Keyword k) (begin_step d (record { line = m; label = None }) (token.Keyword k))
    go word.EndProgram h = absurd (h refl)
    go _ h = refl

instruction_begins : (d : Draft) (h : Head) (m : ℕ) → Begins (at (stage.AtInstruction h) d) d h m
instruction_begins d h m = ((λ k n. refl), refl)

labelled_run : (d : Draft) (h : Head) (x : Option Action) (from a to : List Placed) → IsLabelled x from a → IsEnd a to → run (at (stage.AtInstruction h) d) from ≡ run (at (stage.AtLine []) (with_statement d h x)) to
labelled_run d h None from a to e (k, q) = ap (run (at (stage.AtInstruction h) d)) (e ∙ q)
labelled_run d h (Some x) from a to (m, i) q = action_run (at (stage.AtInstruction h) d) d h m (instruction_begins d h m) x from a i ∙ ended_run [] (with_statement d h (Some x)) a to q

-- the draft after a line
abbrev behind_line : Draft → ℕ → Option (List ℕ) → Option Action → Draft
behind_line d l None x = with_statement d (record { line = l; label = None }) x
behind_line d l (Some n) x = with_statement (with_label d n) (record { line = l; label = Some n }) x

line_run : (d : Draft) (l : ℕ) (label : Option (List ℕ)) (x : Option Action) (from a to : List Placed) → IsLine d.labels l label x from a → IsEnd a to → run (at (stage.AtLine []) d) from ≡ run (at (stage.AtLine []) (behind_line d l label x)) to
line_run d l None None from a to h q = absurd h
line_run d l None (Some x) from a to h q =
    action_run (at (stage.AtLine []) d) d (record { line = l; label = None }) l (line_begins d l) x from a h ∙ ended_run [] (with_statement d (record { line = l; label = None }) (Some x)) a to q
line_run d l (Some n) x from a to (m, b, fresh, e, h) q =
    moved (at (stage.AtLine []) d) (at (stage.BehindLabel l n) d) (token.Name n) l from (placed token.Colon m ∷ b) e (ap (λ z. with_fault (token.Name n) (if z then Err fault.Duplicate else goes (stage.BehindLabel l n) d)) fresh) ∙ labelled_run (with_label d n) (record { line = l; label = Some n }) x b a to h q

abbrev over : Draft → List Statement → ℕ → Move
over d ss e = Ok (state.Over (record { name = d.name; variables = d.variables; externals = d.externals; statements = ss; end_line = e }))

body_run : (body : List Statement) (d : Draft) (e : ℕ) (from : List Placed) → IsBody d.labels body e from → run (at (stage.AtLine []) d) from ≡ over d (d.statements ++ body) e
body_run [] d e from (a, h, q) =
    run_next (at (stage.AtLine []) d) (λ j. refl) (token.Keyword word.EndProgram) e from a h ∙ run_past (state.Over (program_of d e)) (λ j. refl) a ∙ ap (run (state.Over (program_of d e))) q ∙ ap (λ z. over d z e) (sym (append-nil d.statements))
body_run (s ∷ body) d e from (a, b, h, q, r) =
    run_past (at (stage.AtLine []) d) (λ j. refl) from ∙ line_run d s.line s.label s.action (past from) a b h q ∙ behind (λ d' h. body_run body d' e b h) s.label r
  where
    behind : ((d' : Draft) → IsBody d'.labels body e b → run (at (stage.AtLine []) d') b ≡ over d' (d'.statements ++ body) e) → (label : Option (List ℕ)) → IsBody (labels_with d.labels label) body e b → run (at (stage.AtLine []) (behind_line d s.line label s.action)) b ≡ over d (d.statements ++ (record { line = s.line; label = label; action = s.action }) ∷ body) e
    behind on None r =
        on (with_statement d (record { line = s.line; label = None }) s.action) r ∙ ap (λ z. over d z e) (append_assoc d.statements ((record { line = s.line; label = None; action = s.action }) ∷ []) body)
    behind on (Some n) r =
        on (with_statement (with_label d n) (record { line = s.line; label = Some n }) s.action) r ∙ ap (λ z. over d z e) (append_assoc d.statements ((record { line = s.line; label = Some n; action = s.action }) ∷ []) body)

-- The body begins where no block does.

abbrev BeginsBody : Token → Type 0
BeginsBody token.LineEnd = ⊥
BeginsBody (token.Keyword word.Var) = ⊥
BeginsBody (token.Keyword word.VarExternal) = ⊥
BeginsBody _ = Unit {0}

abbrev HasHead : List Placed → Type 0
HasHead ts = (t : Token) × (m : ℕ) × (a : List Placed) × (ts ≡ placed t m ∷ a) × BeginsBody t

simple_head : (l : ℕ) (x : Written) (from to : List Placed) → IsSimple 0 l x from to → HasHead from
simple_head l (form.Load negated x) from to (t, m, e, g) = (_, l, _, g, tt)
simple_head l (form.Apply o negated x) from to (t, m, e, g) = (_, l, _, g, tt)
simple_head l (form.Defer o negated first inner) from to (m, a, b, takes, deep, filled, g, entry, i) = (_, l, _, g, tt)
simple_head l (form.Limit x y) from to (t, u, m, i, n, e, f, g) = (_, l, _, g, tt)
simple_head l (form.Select x y) from to (t, u, m, i, n, e, f, g) = (_, l, _, g, tt)
simple_head l form.Invert from to g = (_, l, _, g, tt)
simple_head l form.Absolute from to g = (_, l, _, g, tt)
simple_head l (form.Convert j k) from to g = (_, l, _, g, tt)

action_head : (l : ℕ) (x : Action) (from to : List Placed) → IsAction l x from to → HasHead from
action_head l (action.Compute x) from to h = simple_head l x from to h
action_head l (action.Store negated n) from to (m, g) = (_, l, _, g, tt)
action_head l (action.Set value n) from to (m, g) = (_, l, _, g, tt)
action_head l (action.Jump c n None) from to (m, g) = (_, l, _, g, tt)
action_head l (action.Jump c n (Some turns)) from to (w, v, a, i, j, k, q, e, f, g) = (_, l, _, g, tt)
action_head l (action.Return c) from to g = (_, l, _, g, tt)

line_head : (labels : List (List ℕ)) (l : ℕ) (label : Option (List ℕ)) (x : Option Action) (from to : List Placed) → IsLine labels l label x from to → HasHead from
line_head labels l None None from to h = absurd h
line_head labels l None (Some x) from to h = action_head l x from to h
line_head labels l (Some n) x from to (m, a, fresh, g, h) = (_, l, _, g, tt)

body_head : (labels : List (List ℕ)) (body : List Statement) (e : ℕ) (from : List Placed) → IsBody labels body e from → HasHead (past from)
body_head labels [] e from (a, h, q) = (token.Keyword word.EndProgram, e, a, h, tt)
body_head labels (s ∷ body) e from (a, b, h, q, r) = line_head labels s.line s.label s.action (past from) a h

between_same : (d : Draft) (t : Token) (m : ℕ) → BeginsBody t → between_step d t m ≡ line_step d t m
between_same d token.LineEnd m h = absurd h
between_same d (token.Keyword word.Var) m h = absurd h
between_same d (token.Keyword word.VarExternal) m h = absurd h
between_same d (token.Keyword _) m h = refl
between_same d _ m h = refl

between_run : (d : Draft) (from : List Placed) → HasHead (past from) → run (at stage.BetweenBlocks d) from ≡ run (at (stage.AtLine []) d) from
between_run d from (t, m, a, e, h) =
    run_next (at stage.BetweenBlocks d) (λ j. refl) t m from a e ∙ ap (λ z. onward (with_fault t z) (λ s'. run s' a)) (between_same d t m h) ∙ sym (run_next (at (stage.AtLine []) d) (λ j. refl) t m from a e)

-- Declarations.

declared_run : (x : Bool) (d : Draft) (n : List ℕ) (m : ℕ) (to : List Placed) → IsFree x d.scope n → onward (with_fault (token.Name n) (if has_room x d.scope then (if is_taken x n d.scope then Err fault.Duplicate else declares (block.BehindName x) (with_entry x d m n)) else Err fault.TooLong)) (λ s'. run s' to) ≡ run (in_block (block.BehindName x) (with_entry x d m n)) to
declared_run x d n m to (fresh, free) =
    ap (λ z. onward (with_fault (token.Name n) (if z then (if is_taken x n d.scope then Err fault.Duplicate else declares (block.BehindName x) (with_entry x d m n)) else Err fault.TooLong)) (λ s'. run s' to)) free ∙ ap (λ z. onward (with_fault (token.Name n) (if z then Err fault.Duplicate else declares (block.BehindName x) (with_entry x d m n))) (λ s'. run s' to)) fresh

others_run : (x : Bool) (es : List Entry) (d : Draft) (from to : List Placed) → AreOthers x d.scope es from to → run (in_block (block.BehindName x) d) from ≡ run (in_block (block.BehindName x) (listed x d es)) to
others_run x [] d from to h = ap (run (in_block (block.BehindName x) d)) h
others_run x (e ∷ es) d from to (i, a, b, (fresh, free), h, g, more) =
    run_next (in_block (block.BehindName x) d) (λ j. refl) token.Comma i from a h ∙ ap (λ z. onward (with_fault token.Comma (if z then declares (block.BehindComma x) d else Err fault.TooLong)) (λ s'. run s' a)) free ∙ run_next (in_block (block.BehindComma x) d) (λ j. refl) (token.Name e.name) e.line a b g ∙ declared_run x d e.name e.line b (fresh, free) ∙ others_run x es (with_entry x d e.line e.name) b to more

-- a literal that makes a range isn't a line's end, and doesn't begin a subrange
abbrev pub IsLiteral : Token → Type 0
IsLiteral token.LineEnd = ⊥
IsLiteral _ = Unit {0}

pub literal : (k : IlType) (t : Token) (make : ℤ → Option Typing) (z : Typing) → made make (value_of k t) ≡ Some z → IsLiteral t
literal k token.LineEnd make z e = go (is_bool k) e
  where
    go : (b : Bool) → made make (if b then None else None) ≡ Some z → ⊥
    go true e = absurd (no e)
      where
        no : None ≡ Some z → ⊥
        no e = cc
    go false e = absurd (no e)
      where
        no : None ≡ Some z → ⊥
        no e = cc
literal k _ make z e = tt

open_same : (k : IlType) (d : Draft) (t : Token) → IsLiteral t → behind_open_step k d t ≡ ranged_step d block.BehindLow (made (begun k) (value_of k t))
open_same k d token.LineEnd h = absurd h
open_same k d _ h = refl

pub dots_same : (y : Typing) (d : Draft) (t : Token) → IsLiteral t → behind_dots_step y d t ≡ ranged_step d block.BehindHigh (made (bounded y) (value_of y.kind t))
dots_same y d token.LineEnd h = absurd h
dots_same y d _ h = refl

pub assign_same : (y : Typing) (d : Draft) (t : Token) → IsLiteral t → behind_assign_step y d t ≡ ranged_step d block.BehindStart (made (started y) (value_of y.kind t))
assign_same y d token.LineEnd h = absurd h
assign_same y d _ h = refl

literal_run : (s : State) (d : Draft) (next : Typing → BlockStage) (k : IlType) (make : ℤ → Option Typing) (t : Token) (z : Typing) (l : ℕ) (from to : List Placed) → ((m : ℕ) → step s token.LineEnd m ≡ Ok s) → ((h : IsLiteral t) → step s t l ≡ with_fault t (ranged_step d next (made make (value_of k t)))) → IsNext t l from to → made make (value_of k t) ≡ Some z → run s from ≡ run (in_block (next z) d) to
literal_run s d next k make t z l from to skips same h e =
    run_next s skips t l from to h ∙ ap (λ w. onward w (λ s'. run s' to)) (same (literal k t make z e)) ∙ ap (λ w. onward (with_fault t (ranged_step d next w)) (λ s'. run s' to)) e

range_run : (w y : Typing) (d : Draft) (from to : List Placed) → IsSubrange w.kind y from to → run (in_block (block.BehindType w) d) from ≡ run (in_block (block.BehindRange y) d) to
range_run w y d from to (t, u, z, g, h, i, j, l, a, b, c, e, number, opens, low, begins, dots, high, ends, close) =
    run_next (in_block (block.BehindType w) d) (λ m. refl) token.Open g from a opens ∙ ap (λ q. onward (with_fault token.Open (if q then Err fault.Declaration else declares (block.BehindOpen w.kind) d)) (λ s'. run s' a)) number ∙ literal_run (in_block (block.BehindOpen w.kind) d) d block.BehindLow w.kind (begun w.kind) t z h a b (λ m. refl) (λ q. ap (with_fault t) (open_same w.kind d t q)) low begins ∙ run_next (in_block (block.BehindLow z) d) (λ m. refl) token.Dots i b c dots ∙ literal_run (in_block (block.BehindDots z) d) d block.BehindHigh z.kind (bounded z) u y j c e (λ m. refl) (λ q. ap (with_fault u) (dots_same z d u q)) high ends ∙ run_next (in_block (block.BehindHigh y) d) (λ m. refl) token.Close l e to close

start_run : (s : State) (y z : Typing) (d : Draft) (from to : List Placed) → ((m : ℕ) → step s token.LineEnd m ≡ Ok s) → ((m : ℕ) → step s token.Assign m ≡ declares (block.BehindAssign y) d) → ((m : ℕ) → step s token.Semicolon m ≡ declares (block.InBlock false) (with_variables d y)) → IsStart y z from to → run s from ≡ run (in_block (block.InBlock false) (with_variables d z)) to
start_run s y z d from to skips assigns ends (inl (i, e, h)) =
    run_next s skips token.Semicolon i from to h ∙ ap (λ w. onward w (λ s'. run s' to)) (ends i) ∙ ap (λ w. run (in_block (block.InBlock false) (with_variables d w)) to) e
start_run s y z d from to skips assigns ends (inr (t, i, j, l, a, b, h, g, e, q)) =
    run_next s skips token.Assign i from a h ∙ ap (λ w. onward w (λ s'. run s' a)) (assigns i) ∙ literal_run (in_block (block.BehindAssign y) d) d block.BehindStart y.kind (started y) t z j a b (λ m. refl) (λ w. ap (with_fault t) (assign_same y d t w)) g e ∙ run_next (in_block (block.BehindStart z) d) (λ m. refl) token.Semicolon l b to q

type_run : (w y z : Typing) (d : Draft) (from b to : List Placed) → IsRange w y from b → IsStart y z b to → run (in_block (block.BehindType w) d) from ≡ run (in_block (block.InBlock false) (with_variables d z)) to
type_run w y z d from b to (inl (e, q)) h =
    start_run (in_block (block.BehindType w) d) w z d from to (λ m. refl) (λ m. refl) (λ m. refl) (subst (λ v. IsStart w z v to) (sym q) (subst (λ v. IsStart v z b to) (sym e) h))
type_run w y z d from b to (inr r) h = range_run w y d from b r ∙ start_run (in_block (block.BehindRange y) d) y z d b to (λ m. refl) (λ m. refl) (λ m. refl) h

nature_run : (x : Bool) (n : Nature) (d : Draft) (from to : List Placed) → IsNature x n from to → run (in_block (block.BehindColon x) d) from ≡ run (in_block (block.InBlock x) (closed d n)) to
nature_run false (OfVariable z) d from to (k, w, y, j, a, b, h, e, r, s) =
    run_next (in_block (block.BehindColon false) d) (λ m. refl) (token.Keyword (word.Type k)) j from a h ∙ ap (λ v. onward (with_fault (token.Keyword (word.Type k)) (ranged_step d block.BehindType v)) (λ s'. run s' a)) e ∙ type_run w y z d a b to r s
nature_run true (OfExternal k) d from to (j, l, a, h, g) =
    run_next (in_block (block.BehindColon true) d) (λ m. refl) (token.Keyword (word.Type k)) j from a h ∙ run_next (in_block (block.BehindExternal k) d) (λ m. refl) token.Semicolon l a to g
nature_run true (OfVariable y) d from to h = absurd h
nature_run false (OfExternal k) d from to h = absurd h

typed_run : (x : Bool) (n : Nature) (d : Draft) (from to : List Placed) → IsTyped x n from to → run (in_block (block.BehindName x) d) from ≡ run (in_block (block.InBlock x) (closed d n)) to
typed_run x n d from to (i, a, h, r) = run_next (in_block (block.BehindName x) d) (λ m. refl) token.Colon i from a h ∙ nature_run x n d a to r

declaration_run : (x : Bool) (y : Declaration) (d : Draft) (from to : List Placed) → IsDeclaration x d.scope y from to → run (in_block (block.InBlock x) d) from ≡ run (in_block (block.InBlock x) (after_one x d y)) to
declaration_run x y d from to (a, b, free, h, others, typed) =
    run_next (in_block (block.InBlock x) d) (λ m. refl) (token.Name y.first.name) y.first.line from a h ∙ declared_run x d y.first.name y.first.line a free ∙ others_run x y.others (with_entry x d y.first.line y.first.name) a b others ∙ typed_run x y.nature (listed x (with_entry x d y.first.line y.first.name) y.others) b to typed

declarations_run : (x : Bool) (ys : List Declaration) (d : Draft) (from to : List Placed) → AreDeclarations x d.scope ys from to → run (in_block (block.InBlock x) d) from ≡ run (at stage.BetweenBlocks (after x d ys)) to
declarations_run x [] d from to (l, h) = run_next (in_block (block.InBlock x) d) (λ m. refl) (token.Keyword word.EndVar) l from to h
declarations_run x (y ∷ ys) d from to (a, h, more) =
    declaration_run x y d from a h ∙ declarations_run x ys (after_one x d y) a to (subst (λ z. AreDeclarations x z ys a to) (sym (scope_one x d y)) more)

block_run : (x : Bool) (d : Draft) (l : ℕ) (from to : List Placed) → IsNext (block_token x) l from to → run (at stage.BetweenBlocks d) from ≡ run (in_block (block.InBlock x) d) to
block_run false d l from to h = run_next (at stage.BetweenBlocks d) (λ m. refl) (token.Keyword word.Var) l from to h
block_run true d l from to h = run_next (at stage.BetweenBlocks d) (λ m. refl) (token.Keyword word.VarExternal) l from to h

blocks_run : (bs : List Block) (d : Draft) (from to : List Placed) (body : List Statement) (e : ℕ) → AreBlocks d.scope bs from to → IsBody d.labels body e to → run (at stage.BetweenBlocks d) from ≡ Ok (state.Over (finished (after_blocks d bs) body e))
blocks_run [] d from to body e q h = ap (run (at stage.BetweenBlocks d)) q ∙ between_run d to (body_head d.labels body e to h) ∙ body_run body d e to h
blocks_run (x ∷ bs) d from to body e (l, a, b, h, g, more) w =
    block_run x.external d l from a h ∙ declarations_run x.external x.declarations d a b g ∙ blocks_run bs (after x.external d x.declarations) b to body e (subst (λ z. AreBlocks z bs b to) (sym (scope_after x.external x.declarations d)) more) (subst (λ z. IsBody z body e to) (sym (labels_after x.external x.declarations d)) w)

pub run_forth : (ts : List Placed) (p : Program) → IsProgram ts p → run state.Start ts ≡ Ok (state.Over p)
run_forth ts p (i, j, a, b, c, bs, h, g, q, w, v, u) =
    run_next state.Start (λ m. refl) (token.Keyword word.Program) i ts a h ∙ run_next state.Titled (λ m. refl) (token.Name p.name) j a b g ∙ blocks_run bs (titled_draft p.name) b c p.statements p.end_line q w ∙ ap (λ z. Ok (state.Over z)) (finished_is p.name bs p.statements p.end_line ∙ ap (λ z. record { name = p.name; variables = z; externals = externals_of bs; statements = p.statements; end_line = p.end_line }) (sym v) ∙ ap (λ z. record { name = p.name; variables = p.variables; externals = z; statements = p.statements; end_line = p.end_line }) (sym u))
