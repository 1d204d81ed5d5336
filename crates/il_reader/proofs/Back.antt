-- From reading to the grammar: what a token and what remains after it are for the state before it.
use Rattle.std.proofs.Common.{◌≡◌, ℕ, Bool, true, false, List, [], ◌∷◌, Option, Some, None, Ok, Err, inl, inr, refl, sym, ap, ◌∙◌, subst, append_assoc, if◌then◌else◌}
use Rattle.std.proofs.lemmas.List.{append-nil}
use Rattle.point_types.specs.declared.il_type.IlType.{IlType}
use Rattle.point_types.specs.Value.{is_bool}
use Rattle.il_reader.specs.declared.fault.ReadFaultKind.TheVariants as fault
use Rattle.il_reader.specs.declared.token.Keyword.TheVariants as word
use Rattle.il_reader.specs.declared.token.Token.{Token}
use Rattle.il_reader.specs.declared.token.Token.TheVariants as token
use Rattle.il_reader.specs.declared.tree.Program.{Program}
use Rattle.il_reader.specs.declared.tree.Statement.{Statement}
use Rattle.il_reader.specs.declared.typing.Typing.{Typing}
use Rattle.il_reader.specs.declared.draft.Draft.{Draft}
use Rattle.il_reader.specs.declared.draft.Head.{Head}
use Rattle.il_reader.specs.declared.nest.OpenParenthesis.{OpenParenthesis}
use Rattle.il_reader.specs.declared.stage.BlockStage.{BlockStage}
use Rattle.il_reader.specs.declared.stage.BlockStage.TheVariants as block
use Rattle.il_reader.specs.declared.stage.Stage.{Stage}
use Rattle.il_reader.specs.declared.stage.Stage.TheVariants as stage
use Rattle.il_reader.specs.declared.state.State.{State}
use Rattle.il_reader.specs.declared.state.State.TheVariants as state
use Rattle.il_reader.specs.Declaration.{among, is_taken, has_room, value_of, whole, begun, bounded, started, made}
use Rattle.il_reader.specs.Drafting.{Move, goes, declares, with_entry}
use Rattle.il_reader.specs.Instructions.{line_step, behind_label_step, at_instruction_step, between_step, whole_step, at_line_step}
use Rattle.il_reader.specs.Reading.{start_step, titled_step, over_step, declare_step, in_block_step, behind_name_step, behind_comma_step, ranged_step, typed_step, behind_colon_step, behind_external_step, behind_range_step, behind_type_step, behind_open_step, behind_low_step, behind_dots_step, behind_high_step, behind_assign_step, behind_start_step, block_step, within_step, state_step, with_fault, step, onward}
use Rattle.il_reader.specs.Grammar.{past, IsNext, IsAction, IsBody, Nature, OfVariable, OfExternal, Declaration, IsFree, IsStart, IsNature, IsTyped, AreDeclarations, block_token, AreBlocks, IsProgram}
use Rattle.il_reader.specs.Lexemes.{Placed, placed}
use Rattle.il_reader.proofs.Drafts.{scope_one, scope_after, labels_after, finished_is}
use Rattle.il_reader.proofs.Rest.{run, RestBody, RestLines, RestWhole, RestAction, RestLabelled, RestTop, RestIn, RestNamed, RestClosed, RestRange, RestHigh, RestDots, RestLow, RestOpen, RestBlock, RestWithin, Rest, Back}
use Rattle.il_reader.proofs.Instructed.{back_begin, back_inside, back_part}

-- Line ends that are blanks.

body_past : (labels : List (List ℕ)) (body : List Statement) (e m : ℕ) (ts : List Placed) → IsBody labels body e ts → IsBody labels body e (placed token.LineEnd m ∷ ts)
body_past labels [] e m ts h = h
body_past labels (s ∷ body) e m ts h = h

declarations_past : (x : Bool) (d : Draft) (ys : List Declaration) (m : ℕ) (ts b : List Placed) → AreDeclarations x d.scope ys ts b → AreDeclarations x d.scope ys (placed token.LineEnd m ∷ ts) b
declarations_past x d [] m ts b h = h
declarations_past x d (y ∷ ys) m ts b h = h

top_past : (d : Draft) (m : ℕ) (ts : List Placed) (p : Program) → RestTop d ts p → RestTop d (placed token.LineEnd m ∷ ts) p
top_past d m ts p ([], body, e, c, q, h, w) = ([], body, e, placed token.LineEnd m ∷ ts, refl, body_past d.labels body e m ts (subst (λ z. IsBody d.labels body e z) (sym q) h), w)
top_past d m ts p (x ∷ bs, body, e, c, q, h, w) = (x ∷ bs, body, e, c, q, h, w)

in_past : (x : Bool) (d : Draft) (m : ℕ) (ts : List Placed) (p : Program) → RestIn x d ts p → RestIn x d (placed token.LineEnd m ∷ ts) p
in_past x d m ts p (ys, b, h, w) = (ys, b, declarations_past x d ys m ts b h, w)

typed_past : (x : Bool) (n : Nature) (m : ℕ) (ts f : List Placed) → IsTyped x n ts f → IsTyped x n (placed token.LineEnd m ∷ ts) f
typed_past x n m ts f h = h

named_past : (x : Bool) (d : Draft) (m : ℕ) (ts : List Placed) (p : Program) → RestNamed x d ts p → RestNamed x d (placed token.LineEnd m ∷ ts) p
named_past x d m ts p ([], n, a, f, q, h, w) = ([], n, placed token.LineEnd m ∷ ts, f, refl, typed_past x n m ts f (subst (λ z. IsTyped x n z f) (sym q) h), w)
named_past x d m ts p (e ∷ es, n, a, f, q, h, w) = (e ∷ es, n, a, f, q, h, w)

nature_past : (x : Bool) (n : Nature) (m : ℕ) (ts f : List Placed) → IsNature x n ts f → IsNature x n (placed token.LineEnd m ∷ ts) f
nature_past false (OfVariable y) m ts f h = h
nature_past true (OfExternal k) m ts f h = h
nature_past true (OfVariable y) m ts f h = absurd h
nature_past false (OfExternal k) m ts f h = absurd h

start_past : (y z : Typing) (m : ℕ) (ts f : List Placed) → IsStart y z ts f → IsStart y z (placed token.LineEnd m ∷ ts) f
start_past y z m ts f (inl h) = inl h
start_past y z m ts f (inr h) = inr h

range_past : (y : Typing) (d : Draft) (m : ℕ) (ts : List Placed) (p : Program) → RestRange y d ts p → RestRange y d (placed token.LineEnd m ∷ ts) p
range_past y d m ts p (z, f, h, w) = (z, f, start_past y z m ts f h, w)

type_past : (w : Typing) (d : Draft) (m : ℕ) (ts : List Placed) (p : Program) → RestBlock (block.BehindType w) d ts p → RestBlock (block.BehindType w) d (placed token.LineEnd m ∷ ts) p
type_past w d m ts p (y, b, inl (e, q), r) = (y, placed token.LineEnd m ∷ ts, inl (e, refl), range_past y d m ts p (subst (λ z. RestRange y d z p) (sym q) r))
type_past w d m ts p (y, b, inr h, r) = (y, b, inr h, r)

body_line : (d : Draft) (m : ℕ) (ts : List Placed) (p : Program) → RestBody d ts p → RestBody d (placed token.LineEnd m ∷ ts) p
body_line d m ts p (body, e, h, w) = (body, e, body_past d.labels body e m ts h, w)

-- The head.

back_start : (t : Token) (m : ℕ) (ts : List Placed) (p : Program) → Back (start_step t) ts p → Rest state.Start (placed t m ∷ ts) p
back_start token.LineEnd m ts p h = h
back_start (token.Keyword word.Program) m ts p (n, j, b, h, (bs, body, e, c, q, i, w)) =
    subst (λ z. IsProgram (placed (token.Keyword word.Program) m ∷ ts) z) (sym (w ∙ finished_is n bs body e)) (m, j, ts, b, c, bs, refl, h, q, i, refl, refl)
back_start (token.Keyword _) m ts p h = absurd h
back_start _ m ts p h = absurd h

back_titled : (t : Token) (m : ℕ) (ts : List Placed) (p : Program) → Back (titled_step t) ts p → Rest state.Titled (placed t m ∷ ts) p
back_titled token.LineEnd m ts p h = h
back_titled (token.Name n) m ts p h = (n, m, ts, refl, h)
back_titled _ m ts p h = absurd h

back_over : (q : Program) (t : Token) (m : ℕ) (ts : List Placed) (p : Program) → Back (over_step q t) ts p → Rest (state.Over q) (placed t m ∷ ts) p
back_over q token.LineEnd m ts p h = h
back_over q _ m ts p h = absurd h

-- Declarations.

-- one more name, free and with room
abbrev Declared : Bool → Draft → List ℕ → ℕ → List Placed → Program → Type 0
Declared x d n m ts p = IsFree x d.scope n × RestNamed x (with_entry x d m n) ts p

back_declare : (x : Bool) (d : Draft) (n : List ℕ) (m : ℕ) (ts : List Placed) (p : Program) → Back (declare_step x d n m) ts p → Declared x d n m ts p
back_declare x d n m ts p h = go (has_room x d.scope) (is_taken x n d.scope) refl refl h
  where
    go : (r a : Bool) → has_room x d.scope ≡ r → is_taken x n d.scope ≡ a → Back (if r then (if a then Err fault.Duplicate else declares (block.BehindName x) (with_entry x d m n)) else Err fault.TooLong) ts p → Declared x d n m ts p
    go true false e f h = ((f, e), h)
    go true true e f h = absurd h
    go false a e f h = absurd h

declared_in : (x : Bool) (d : Draft) (n : List ℕ) (m : ℕ) (ts : List Placed) (p : Program) → Declared x d n m ts p → RestIn x d (placed (token.Name n) m ∷ ts) p
declared_in x d n m ts p (free, (es, nature, a, f, others, typed, (ys, b, more, w))) =
    (y ∷ ys, b, (f, (ts, a, free, refl, others, typed), subst (λ z. AreDeclarations x z ys f b) (scope_one x d y) more), w)
  where
    y : Declaration
    y = record { first = record { line = m; name = n }; others = es; nature = nature }

back_in_block : (x : Bool) (d : Draft) (t : Token) (m : ℕ) (ts : List Placed) (p : Program) → Back (in_block_step x d t m) ts p → RestIn x d (placed t m ∷ ts) p
back_in_block x d token.LineEnd m ts p h = in_past x d m ts p h
back_in_block x d (token.Keyword word.EndVar) m ts p h = ([], ts, (m, refl), h)
back_in_block x d (token.Name n) m ts p h = declared_in x d n m ts p (back_declare x d n m ts p h)
back_in_block x d (token.Keyword _) m ts p h = absurd h
back_in_block x d _ m ts p h = absurd h

back_behind_name : (x : Bool) (d : Draft) (t : Token) (m : ℕ) (ts : List Placed) (p : Program) → Back (behind_name_step x d t) ts p → RestNamed x d (placed t m ∷ ts) p
back_behind_name x d token.LineEnd m ts p h = named_past x d m ts p h
back_behind_name x d token.Comma m ts p h = go (has_room x d.scope) h
  where
    go : (r : Bool) → Back (if r then declares (block.BehindComma x) d else Err fault.TooLong) ts p → RestNamed x d (placed token.Comma m ∷ ts) p
    go true (e, a, free, next, (es, n, b, f, others, typed, w)) = (e ∷ es, n, b, f, (m, ts, a, free, refl, next, others), typed, w)
    go false h = absurd h
back_behind_name x d token.Colon m ts p (n, f, h, w) = ([], n, placed token.Colon m ∷ ts, f, refl, (m, ts, refl, h), w)
back_behind_name x d _ m ts p h = absurd h

back_behind_comma : (x : Bool) (d : Draft) (t : Token) (m : ℕ) (ts : List Placed) (p : Program) → Back (behind_comma_step x d t m) ts p → RestBlock (block.BehindComma x) d (placed t m ∷ ts) p
back_behind_comma x d token.LineEnd m ts p h = h
back_behind_comma x d (token.Name n) m ts p h = go (back_declare x d n m ts p h)
  where
    go : Declared x d n m ts p → RestBlock (block.BehindComma x) d (placed (token.Name n) m ∷ ts) p
    go (free, w) = (record { line = m; name = n }, ts, free, refl, w)
back_behind_comma x d _ m ts p h = absurd h

back_typed : (x : Bool) (d : Draft) (k : IlType) (m : ℕ) (ts : List Placed) (p : Program) → Back (typed_step x d k) ts p → RestBlock (block.BehindColon x) d (placed (token.Keyword (word.Type k)) m ∷ ts) p
back_typed true d k m ts p (l, b, h, w) = (OfExternal k, b, (m, l, ts, refl, h), w)
back_typed false d k m ts p h = go (whole k) refl h
  where
    go : (o : Option Typing) → whole k ≡ o → Back (ranged_step d block.BehindType o) ts p → RestBlock (block.BehindColon false) d (placed (token.Keyword (word.Type k)) m ∷ ts) p
    go (Some w) e (y, b, r, (z, f, s, q)) = (OfVariable z, f, (k, w, y, m, ts, b, refl, e, r, s), q)
    go None e h = absurd h

back_behind_colon : (x : Bool) (d : Draft) (t : Token) (m : ℕ) (ts : List Placed) (p : Program) → Back (behind_colon_step x d t) ts p → RestBlock (block.BehindColon x) d (placed t m ∷ ts) p
back_behind_colon x d token.LineEnd m ts p (n, f, h, w) = (n, f, nature_past x n m ts f h, w)
back_behind_colon x d (token.Keyword (word.Type k)) m ts p h = back_typed x d k m ts p h
back_behind_colon x d (token.Keyword _) m ts p h = absurd h
back_behind_colon x d _ m ts p h = absurd h

back_behind_external : (k : IlType) (d : Draft) (t : Token) (m : ℕ) (ts : List Placed) (p : Program) → Back (behind_external_step k d t) ts p → RestBlock (block.BehindExternal k) d (placed t m ∷ ts) p
back_behind_external k d token.LineEnd m ts p h = h
back_behind_external k d token.Semicolon m ts p h = (m, ts, refl, h)
back_behind_external k d _ m ts p h = absurd h

back_behind_range : (y : Typing) (d : Draft) (t : Token) (m : ℕ) (ts : List Placed) (p : Program) → Back (behind_range_step y d t) ts p → RestRange y d (placed t m ∷ ts) p
back_behind_range y d token.LineEnd m ts p h = range_past y d m ts p h
back_behind_range y d token.Assign m ts p (t, z, j, b, h, e, (l, f, i, w)) = (z, f, inr (t, m, j, l, ts, b, refl, h, e, i), w)
back_behind_range y d token.Semicolon m ts p h = (y, ts, inl (m, refl, refl), h)
back_behind_range y d _ m ts p h = absurd h

-- no subrange
range_type : (w : Typing) (d : Draft) (ts : List Placed) (p : Program) → RestRange w d ts p → RestBlock (block.BehindType w) d ts p
range_type w d ts p h = (w, ts, inl (refl, refl), h)

back_behind_type : (w : Typing) (d : Draft) (t : Token) (m : ℕ) (ts : List Placed) (p : Program) → Back (behind_type_step w d t) ts p → RestBlock (block.BehindType w) d (placed t m ∷ ts) p
back_behind_type w d token.LineEnd m ts p h = type_past w d m ts p h
back_behind_type w d token.Open m ts p h = go (is_bool w.kind) refl h
  where
    go : (c : Bool) → is_bool w.kind ≡ c → Back (if c then Err fault.Declaration else declares (block.BehindOpen w.kind) d) ts p → RestBlock (block.BehindType w) d (placed token.Open m ∷ ts) p
    go true e h = absurd h
    go false e (t, z, n, b, h, f, (i, c, k, (u, y, j, g, q, r, (l, o, s, v)))) = (y, o, inr (t, u, z, m, n, i, j, l, ts, b, c, g, e, refl, h, f, k, q, r, s), v)
back_behind_type w d t m ts p h = range_type w d (placed t m ∷ ts) p (back_behind_range w d t m ts p h)

back_behind_open : (k : IlType) (d : Draft) (t : Token) (m : ℕ) (ts : List Placed) (p : Program) → Back (behind_open_step k d t) ts p → RestOpen k d (placed t m ∷ ts) p
back_behind_open k d token.LineEnd m ts p h = h
back_behind_open k d t m ts p h = go (made (begun k) (value_of k t)) refl h
  where
    go : (o : Option Typing) → made (begun k) (value_of k t) ≡ o → Back (ranged_step d block.BehindLow o) ts p → RestOpen k d (placed t m ∷ ts) p
    go (Some z) e h = (t, z, m, ts, refl, e, h)
    go None e h = absurd h

back_behind_low : (z : Typing) (d : Draft) (t : Token) (m : ℕ) (ts : List Placed) (p : Program) → Back (behind_low_step z d t) ts p → RestLow z d (placed t m ∷ ts) p
back_behind_low z d token.LineEnd m ts p h = h
back_behind_low z d token.Dots m ts p h = (m, ts, refl, h)
back_behind_low z d _ m ts p h = absurd h

back_behind_dots : (z : Typing) (d : Draft) (t : Token) (m : ℕ) (ts : List Placed) (p : Program) → Back (behind_dots_step z d t) ts p → RestDots z d (placed t m ∷ ts) p
back_behind_dots z d token.LineEnd m ts p h = h
back_behind_dots z d t m ts p h = go (made (bounded z) (value_of z.kind t)) refl h
  where
    go : (o : Option Typing) → made (bounded z) (value_of z.kind t) ≡ o → Back (ranged_step d block.BehindHigh o) ts p → RestDots z d (placed t m ∷ ts) p
    go (Some y) e h = (t, y, m, ts, refl, e, h)
    go None e h = absurd h

back_behind_high : (y : Typing) (d : Draft) (t : Token) (m : ℕ) (ts : List Placed) (p : Program) → Back (behind_high_step y d t) ts p → RestHigh y d (placed t m ∷ ts) p
back_behind_high y d token.LineEnd m ts p h = h
back_behind_high y d token.Close m ts p h = (m, ts, refl, h)
back_behind_high y d _ m ts p h = absurd h

back_behind_assign : (y : Typing) (d : Draft) (t : Token) (m : ℕ) (ts : List Placed) (p : Program) → Back (behind_assign_step y d t) ts p → RestBlock (block.BehindAssign y) d (placed t m ∷ ts) p
back_behind_assign y d token.LineEnd m ts p h = h
back_behind_assign y d t m ts p h = go (made (started y) (value_of y.kind t)) refl h
  where
    go : (o : Option Typing) → made (started y) (value_of y.kind t) ≡ o → Back (ranged_step d block.BehindStart o) ts p → RestBlock (block.BehindAssign y) d (placed t m ∷ ts) p
    go (Some z) e h = (t, z, m, ts, refl, e, h)
    go None e h = absurd h

back_behind_start : (z : Typing) (d : Draft) (t : Token) (m : ℕ) (ts : List Placed) (p : Program) → Back (behind_start_step z d t) ts p → RestClosed z d (placed t m ∷ ts) p
back_behind_start z d token.LineEnd m ts p h = h
back_behind_start z d token.Semicolon m ts p h = (m, ts, refl, h)
back_behind_start z d _ m ts p h = absurd h

back_block : (s : BlockStage) (d : Draft) (t : Token) (m : ℕ) (ts : List Placed) (p : Program) → Back (block_step s d t m) ts p → RestBlock s d (placed t m ∷ ts) p
back_block (block.InBlock x) d t m ts p h = back_in_block x d t m ts p h
back_block (block.BehindName x) d t m ts p h = back_behind_name x d t m ts p h
back_block (block.BehindComma x) d t m ts p h = back_behind_comma x d t m ts p h
back_block (block.BehindColon x) d t m ts p h = back_behind_colon x d t m ts p h
back_block (block.BehindExternal k) d t m ts p h = back_behind_external k d t m ts p h
back_block (block.BehindType w) d t m ts p h = back_behind_type w d t m ts p h
back_block (block.BehindOpen k) d t m ts p h = back_behind_open k d t m ts p h
back_block (block.BehindLow z) d t m ts p h = back_behind_low z d t m ts p h
back_block (block.BehindDots z) d t m ts p h = back_behind_dots z d t m ts p h
back_block (block.BehindHigh y) d t m ts p h = back_behind_high y d t m ts p h
back_block (block.BehindRange y) d t m ts p h = back_behind_range y d t m ts p h
back_block (block.BehindAssign y) d t m ts p h = back_behind_assign y d t m ts p h
back_block (block.BehindStart z) d t m ts p h = back_behind_start z d t m ts p h

-- Lines.

-- a line without a label, and the lines after it
action_body : (d : Draft) (m : ℕ) (ts : List Placed) (p : Program) → past ts ≡ ts → RestAction d (record { line = m; label = None }) m ts p → RestBody d ts p
action_body d m ts p e (x, a, h, (b, q, (body, end, i, w))) =
    (s ∷ body, end, (a, b, subst (λ z. IsAction m x z a) (sym e) h, q, i), w ∙ ap (λ z. record { name = d.name; variables = d.variables; externals = d.externals; statements = z; end_line = end }) (append_assoc d.statements (s ∷ []) body))
  where
    s : Statement
    s = record { line = m; label = None; action = Some x }

-- a line with a label
labelled_body : (d : Draft) (n : List ℕ) (m : ℕ) (ts : List Placed) (p : Program) → among n d.labels ≡ false → RestWithin (stage.BehindLabel m n) d ts p → RestBody d (placed (token.Name n) m ∷ ts) p
labelled_body d n m ts p fresh (k, c, e, (x, a, h, (b, q, (body, end, i, w)))) =
    (s ∷ body, end, (a, b, (k, c, fresh, ap (λ z. placed (token.Name n) m ∷ z) e, h), q, i), w ∙ ap (λ z. record { name = d.name; variables = d.variables; externals = d.externals; statements = z; end_line = end }) (append_assoc d.statements (s ∷ []) body))
  where
    s : Statement
    s = record { line = m; label = Some n; action = x }

back_line : (d : Draft) (t : Token) (m : ℕ) (ts : List Placed) (p : Program) → Back (line_step d t m) ts p → RestBody d (placed t m ∷ ts) p
back_line d token.LineEnd m ts p h = body_line d m ts p h
back_line d (token.Keyword word.EndProgram) m ts p (q, w) =
    ([], m, (ts, refl, q), w ∙ ap (λ z. record { name = d.name; variables = d.variables; externals = d.externals; statements = z; end_line = m }) (sym (append-nil d.statements)))
back_line d (token.Name n) m ts p h = go (among n d.labels) refl h
  where
    go : (b : Bool) → among n d.labels ≡ b → Back (if b then Err fault.Duplicate else goes (stage.BehindLabel m n) d) ts p → RestBody d (placed (token.Name n) m ∷ ts) p
    go true e h = absurd h
    go false e h = labelled_body d n m ts p e h
back_line d (token.Keyword k) m ts p h = action_body d m (placed (token.Keyword k) m ∷ ts) p refl (back_begin d (record { line = m; label = None }) (token.Keyword k) m ts p h)
back_line d t m ts p h = action_body d m (placed t m ∷ ts) p refl (back_begin d (record { line = m; label = None }) t m ts p h)

body_top : (d : Draft) (ts : List Placed) (p : Program) → RestBody d ts p → RestTop d ts p
body_top d ts p (body, e, h, w) = ([], body, e, ts, refl, h, w)

block_next : (x : Bool) (m : ℕ) (ts : List Placed) → IsNext (block_token x) m (placed (block_token x) m ∷ ts) ts
block_next false m ts = refl
block_next true m ts = refl

back_blocks : (x : Bool) (d : Draft) (m : ℕ) (ts : List Placed) (p : Program) → RestIn x d ts p → RestTop d (placed (block_token x) m ∷ ts) p
back_blocks x d m ts p (ys, b, h, (bs, body, e, c, q, i, w)) =
    (record { external = x; declarations = ys } ∷ bs, body, e, c, (m, ts, b, block_next x m ts, h, subst (λ z. AreBlocks z bs b c) (scope_after x ys d) q), subst (λ z. IsBody z body e c) (labels_after x ys d) i, w)

back_between : (d : Draft) (t : Token) (m : ℕ) (ts : List Placed) (p : Program) → Back (between_step d t m) ts p → RestTop d (placed t m ∷ ts) p
back_between d token.LineEnd m ts p h = top_past d m ts p h
back_between d (token.Keyword word.Var) m ts p h = back_blocks false d m ts p h
back_between d (token.Keyword word.VarExternal) m ts p h = back_blocks true d m ts p h
back_between d (token.Keyword k) m ts p h = body_top d (placed (token.Keyword k) m ∷ ts) p (back_line d (token.Keyword k) m ts p h)
back_between d t m ts p h = body_top d (placed t m ∷ ts) p (back_line d t m ts p h)

back_label : (l : ℕ) (n : List ℕ) (d : Draft) (t : Token) (m : ℕ) (ts : List Placed) (p : Program) → Back (behind_label_step l n d t) ts p → RestWithin (stage.BehindLabel l n) d (placed t m ∷ ts) p
back_label l n d token.Colon m ts p h = (m, ts, refl, h)
back_label l n d _ m ts p h = absurd h

action_labelled : (d : Draft) (h : Head) (m : ℕ) (ts : List Placed) (p : Program) → RestAction d h m ts p → RestLabelled d h ts p
action_labelled d h m ts p (x, a, i, w) = (Some x, a, (m, i), w)

back_instruction : (h : Head) (d : Draft) (t : Token) (m : ℕ) (ts : List Placed) (p : Program) → Back (at_instruction_step h d t) ts p → RestLabelled d h (placed t m ∷ ts) p
back_instruction h d token.LineEnd m ts p w = (None, placed token.LineEnd m ∷ ts, refl, (ts, (m, refl), w))
back_instruction h d t m ts p w = action_labelled d h m (placed t m ∷ ts) p (back_begin d h t m ts p w)

back_at_line : (nest : List OpenParenthesis) (d : Draft) (t : Token) (m : ℕ) (ts : List Placed) (p : Program) → Back (at_line_step nest d t m) ts p → RestLines nest d (placed t m ∷ ts) p
back_at_line [] d t m ts p h = back_line d t m ts p h
back_at_line (f ∷ nest) d t m ts p h = back_inside f nest d t m ts p h

back_whole : (nest : List OpenParenthesis) (d : Draft) (t : Token) (m : ℕ) (ts : List Placed) (p : Program) → Back (whole_step nest d t) ts p → RestWhole nest d (placed t m ∷ ts) p
back_whole nest d token.LineEnd m ts p h = (ts, (m, refl), h)
back_whole nest d _ m ts p h = absurd h

back_within : (s : Stage) (d : Draft) (t : Token) (m : ℕ) (ts : List Placed) (p : Program) → Back (within_step s d t m) ts p → RestWithin s d (placed t m ∷ ts) p
back_within stage.BetweenBlocks d t m ts p h = back_between d t m ts p h
back_within (stage.Block s) d t m ts p h = back_block s d t m ts p h
back_within (stage.AtLine nest) d t m ts p h = back_at_line nest d t m ts p h
back_within (stage.BehindLabel l n) d t m ts p h = back_label l n d t m ts p h
back_within (stage.AtInstruction g) d t m ts p h = back_instruction g d t m ts p h
back_within (stage.Part nest g s) d t m ts p h = back_part s nest d g t m ts p h
back_within (stage.BehindInstruction nest) d t m ts p h = back_whole nest d t m ts p h

back_state : (s : State) (t : Token) (m : ℕ) (ts : List Placed) (p : Program) → Back (state_step s t m) ts p → Rest s (placed t m ∷ ts) p
back_state state.Start t m ts p h = back_start t m ts p h
back_state state.Titled t m ts p h = back_titled t m ts p h
back_state (state.Within s d) t m ts p h = back_within s d t m ts p h
back_state (state.Over q) t m ts p h = back_over q t m ts p h

without_fault : (t : Token) (move : Move) (ts : List Placed) (p : Program) → Back (with_fault t move) ts p → Back move ts p
without_fault t (Ok s) ts p h = h
without_fault t (Err k) ts p h = absurd h

back : (s : State) (t : Token) (m : ℕ) (ts : List Placed) (p : Program) → Back (step s t m) ts p → Rest s (placed t m ∷ ts) p
back s t m ts p h = back_state s t m ts p (without_fault t (state_step s t m) ts p h)

-- The tokens that a state reads to a program are what remains for it.
pub run_back : (s : State) (ts : List Placed) (p : Program) → run s ts ≡ Ok (state.Over p) → Rest s ts p
run_back s [] p h = let e : s ≡ state.Over p = cc in subst (λ z. Rest z [] p) (sym e) (refl, refl)
run_back s (placed t m ∷ ts) p h = back s t m ts p (go (λ s' e. run_back s' ts p e) (step s t m) h)
  where
    go : ((s' : State) → run s' ts ≡ Ok (state.Over p) → Rest s' ts p) → (move : Move) → onward move (λ s'. run s' ts) ≡ Ok (state.Over p) → Back move ts p
    go on (Ok s') h = on s' h
    go on (Err k) h = absurd (no h)
      where
        no : Err k ≡ Ok (state.Over p) → ⊥
        no h = cc
