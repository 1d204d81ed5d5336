-- From reading to the grammar: the tokens of instructions, and of the lines inside parentheses.
use Rattle.std.proofs.Common.{◌≡◌, ℕ, suc, Bool, true, false, List, [], ◌∷◌, length, Option, Some, None, Ok, Err, inl, inr, refl, sym, ap, subst, if◌then◌else◌, option_map}
use Rattle.point_types.specs.declared.operator.Condition.{Condition}
use Rattle.point_types.specs.declared.operator.Operator.{Operator}
use Rattle.il_reader.specs.declared.fault.ReadFaultKind.TheVariants as fault
use Rattle.il_reader.specs.declared.token.Keyword.{Keyword}
use Rattle.il_reader.specs.declared.token.Keyword.TheVariants as word
use Rattle.il_reader.specs.declared.token.Token.{Token}
use Rattle.il_reader.specs.declared.token.Token.TheVariants as token
use Rattle.il_reader.specs.declared.tree.Action.TheVariants as action
use Rattle.il_reader.specs.declared.tree.Operand.{Operand}
use Rattle.il_reader.specs.declared.tree.Program.{Program}
use Rattle.il_reader.specs.declared.draft.Draft.{Draft}
use Rattle.il_reader.specs.declared.draft.Head.{Head}
use Rattle.il_reader.specs.declared.nest.OpenParenthesis.{OpenParenthesis}
use Rattle.il_reader.specs.declared.stage.PartStage.{PartStage}
use Rattle.il_reader.specs.declared.stage.PartStage.TheVariants as part
use Rattle.il_reader.specs.declared.stage.Pair.{Pair}
use Rattle.il_reader.specs.Written.{Written, Inner, followed_by}
use Rattle.il_reader.specs.Written as form
use Rattle.il_reader.specs.Nesting.{takes_parentheses, has_depth, is_filled, frame_of, with_line, deferred, is_outer}
use Rattle.il_reader.specs.Drafting.{continues}
use Rattle.il_reader.specs.Instructions.{computed, simple_step, begun_step, part_begun, begin_step, operand_of, paired, behind_pair_step, behind_first_step, behind_store_step, behind_set_step, behind_jump_step, is_loop, turns_of, behind_brace_step, turns_step, behind_loop_step, behind_turns_step, behind_pragma_step, behind_operator_step, entered_step, behind_parenthesis_step, behind_entry_step, inside_step, part_step}
use Rattle.il_reader.specs.Grammar.{past, IsSimple, IsInner}
use Rattle.il_reader.specs.Lexemes.{Placed, placed}
use Rattle.il_reader.proofs.Rest.{RestInside, RestComputed, RestAction, RestSimple, RestOperand, RestName, RestEntry, RestPart, Rest, Back}

-- Lines after lines.

pub follow_none : (i : Inner) → followed_by i form.Close ≡ i
follow_none form.Close = refl
follow_none (form.Then l x rest) = ap (form.Then l x) (follow_none rest)

pub follow_one : (i : Inner) (l : ℕ) (x : Written) (rest : Inner) → followed_by (followed_by i (form.Then l x form.Close)) rest ≡ followed_by i (form.Then l x rest)
follow_one form.Close l x rest = refl
follow_one (form.Then k y i) l x rest = ap (form.Then k y) (follow_one i l x rest)

-- What remains inside parentheses: lines, the closing one, and what is after it.

abbrev RestClose : OpenParenthesis → List OpenParenthesis → Draft → List Placed → Program → Type 0
RestClose f nest d ts p =
    (rest : Inner) × (a : List Placed) × IsInner (suc (length nest)) rest ts a × (is_filled f.operand (followed_by f.inner rest) ≡ true) × RestComputed nest d f.head (deferred f (followed_by f.inner rest)) a p

inside_to : (f : OpenParenthesis) (nest : List OpenParenthesis) (d : Draft) (ts : List Placed) (p : Program) → RestInside f nest d ts p → RestClose f nest d ts p
inside_to f [] d ts p (rest, a, b, i, filled, e, r) = (rest, a, i, filled, (b, e, r))
inside_to f (g ∷ nest) d ts p (rest, a, b, i, filled, e, r) = (rest, a, i, filled, (b, e, r))

inside_from : (f : OpenParenthesis) (nest : List OpenParenthesis) (d : Draft) (ts : List Placed) (p : Program) → RestClose f nest d ts p → RestInside f nest d ts p
inside_from f [] d ts p (rest, a, i, filled, (b, e, r)) = (rest, a, b, i, filled, e, r)
inside_from f (g ∷ nest) d ts p (rest, a, i, filled, (b, e, r)) = (rest, a, b, i, filled, e, r)

computed_rest : (nest : List OpenParenthesis) (d : Draft) (h : Head) (x : Written) (ts : List Placed) (p : Program) → Rest (computed nest d h x) ts p → RestComputed nest d h x ts p
computed_rest [] d h x ts p r = r
computed_rest (f ∷ nest) d h x ts p r = r

-- After an instruction's first token.

back_operand : (nest : List OpenParenthesis) (d : Draft) (h : Head) (f : Operand → Written) (t : Token) (m : ℕ) (ts : List Placed) (p : Program) → Back (simple_step nest d h (option_map f (operand_of t))) ts p → RestOperand nest d h f (placed t m ∷ ts) p
back_operand nest d h f t m ts p w = go (operand_of t) refl w
  where
    go : (o : Option Operand) → operand_of t ≡ o → Back (simple_step nest d h (option_map f o)) ts p → RestOperand nest d h f (placed t m ∷ ts) p
    go (Some x) e w = (t, x, m, ts, e, refl, computed_rest nest d h (f x) ts p w)
    go None e w = absurd w

back_pair : (nest : List OpenParenthesis) (d : Draft) (h : Head) (o : Pair) (t : Token) (m : ℕ) (ts : List Placed) (p : Program) → Back (behind_pair_step nest h o d (operand_of t)) ts p → RestPart (part.BehindPair o) nest d h (placed t m ∷ ts) p
back_pair nest d h o t m ts p w = go (operand_of t) refl w
  where
    go : (q : Option Operand) → operand_of t ≡ q → Back (behind_pair_step nest h o d q) ts p → RestPart (part.BehindPair o) nest d h (placed t m ∷ ts) p
    go (Some x) e (u, y, i, n, a, f, g, w) = (t, u, x, y, m, i, n, a, e, f, ap (λ z. placed t m ∷ z) g, w)
    go None e w = absurd w

back_first : (nest : List OpenParenthesis) (d : Draft) (h : Head) (o : Pair) (x : Operand) (t : Token) (m : ℕ) (ts : List Placed) (p : Program) → Back (behind_first_step nest h o x d t) ts p → RestPart (part.BehindFirst o x) nest d h (placed t m ∷ ts) p
back_first nest d h o x token.Comma m ts p (u, y, n, a, e, g, w) = (u, y, m, n, a, e, ap (λ z. placed token.Comma m ∷ z) g, w)
back_first nest d h o x _ m ts p w = absurd w

back_store : (nest : List OpenParenthesis) (d : Draft) (h : Head) (negated : Bool) (t : Token) (m : ℕ) (ts : List Placed) (p : Program) → Back (behind_store_step nest h negated d t) ts p → RestName nest d h (action.Store negated) (placed t m ∷ ts) p
back_store nest d h negated (token.Name n) m ts p w = (n, m, ts, refl, w)
back_store nest d h negated _ m ts p w = absurd w

back_set : (nest : List OpenParenthesis) (d : Draft) (h : Head) (value : Bool) (t : Token) (m : ℕ) (ts : List Placed) (p : Program) → Back (behind_set_step nest h value d t) ts p → RestName nest d h (action.Set value) (placed t m ∷ ts) p
back_set nest d h value (token.Name n) m ts p w = (n, m, ts, refl, w)
back_set nest d h value _ m ts p w = absurd w

back_jump : (nest : List OpenParenthesis) (d : Draft) (h : Head) (c : Condition) (turns : Option ℕ) (t : Token) (m : ℕ) (ts : List Placed) (p : Program) → Back (behind_jump_step nest h c turns d t) ts p → RestName nest d h (λ n. action.Jump c n turns) (placed t m ∷ ts) p
back_jump nest d h c turns (token.Name n) m ts p w = (n, m, ts, refl, w)
back_jump nest d h c turns _ m ts p w = absurd w

back_brace : (nest : List OpenParenthesis) (d : Draft) (h : Head) (t : Token) (m : ℕ) (ts : List Placed) (p : Program) → Back (behind_brace_step nest h d t) ts p → RestPart part.BehindBrace nest d h (placed t m ∷ ts) p
back_brace nest d h (token.Name w) m ts p r = go (is_loop w) refl r
  where
    go : (b : Bool) → is_loop w ≡ b → Back (if b then continues nest h part.BehindLoop d else Err fault.Word) ts p → RestPart part.BehindBrace nest d h (placed (token.Name w) m ∷ ts) p
    go true e (n, v, turns, c, i, j, k, q, a, f, g, r) = (w, n, v, turns, c, m, i, j, k, q, a, e, f, ap (λ z. placed (token.Name w) m ∷ z) g, r)
    go false e r = absurd r
back_brace nest d h _ m ts p r = absurd r

back_loop : (nest : List OpenParenthesis) (d : Draft) (h : Head) (t : Token) (m : ℕ) (ts : List Placed) (p : Program) → Back (behind_loop_step nest h d t) ts p → RestPart part.BehindLoop nest d h (placed t m ∷ ts) p
back_loop nest d h (token.Decimal v) m ts p r = go (turns_of v) refl r
  where
    go : (o : Option ℕ) → turns_of v ≡ o → Back (turns_step nest h d o) ts p → RestPart part.BehindLoop nest d h (placed (token.Decimal v) m ∷ ts) p
    go (Some turns) e (n, c, j, k, q, a, g, r) = (n, v, turns, c, m, j, k, q, a, e, ap (λ z. placed (token.Decimal v) m ∷ z) g, r)
    go None e r = absurd r
back_loop nest d h _ m ts p r = absurd r

back_turns : (nest : List OpenParenthesis) (d : Draft) (h : Head) (turns : ℕ) (t : Token) (m : ℕ) (ts : List Placed) (p : Program) → Back (behind_turns_step nest h turns d t) ts p → RestPart (part.BehindTurns turns) nest d h (placed t m ∷ ts) p
back_turns nest d h turns token.CloseBrace m ts p (n, c, k, q, a, g, r) = (n, c, m, k, q, a, ap (λ z. placed token.CloseBrace m ∷ z) g, r)
back_turns nest d h turns _ m ts p r = absurd r

back_pragma : (nest : List OpenParenthesis) (d : Draft) (h : Head) (turns : ℕ) (t : Token) (m : ℕ) (ts : List Placed) (p : Program) → Back (behind_pragma_step nest h turns d t) ts p → RestPart (part.BehindPragma turns) nest d h (placed t m ∷ ts) p
back_pragma nest d h turns (token.Keyword (word.Jump c)) m ts p (n, q, a, g, r) = (n, c, m, q, a, ap (λ z. placed (token.Keyword (word.Jump c)) m ∷ z) g, r)
back_pragma nest d h turns (token.Keyword _) m ts p r = absurd r
back_pragma nest d h turns _ m ts p r = absurd r

-- After an operator: an operand, or parentheses.

back_operator : (nest : List OpenParenthesis) (d : Draft) (h : Head) (o : Operator) (negated : Bool) (t : Token) (m : ℕ) (ts : List Placed) (p : Program) → Back (behind_operator_step nest h o negated d t) ts p → RestPart (part.BehindOperator o negated) nest d h (placed t m ∷ ts) p
back_operator nest d h o negated token.Open m ts p w = go (takes_parentheses o) (has_depth (length nest)) refl refl w
  where
    go : (a b : Bool) → takes_parentheses o ≡ a → has_depth (length nest) ≡ b → Back (if a then (if b then continues nest h (part.BehindParenthesis o negated) d else Err fault.TooLong) else Err fault.Operand) ts p → RestPart (part.BehindOperator o negated) nest d h (placed token.Open m ∷ ts) p
    go true true e g w = inr (m, ts, e, g, refl, w)
    go true false e g w = absurd w
    go false b e g w = absurd w
back_operator nest d h o negated t m ts p w = inl (back_operand nest d h (form.Apply o negated) t m ts p w)

entered : (nest : List OpenParenthesis) (d : Draft) (h : Head) (o : Operator) (negated : Bool) (t : Token) (m : ℕ) (ts : List Placed) (p : Program) → Back (entered_step nest h o negated d (operand_of t)) ts p → RestEntry nest d h o negated (placed t m ∷ ts) p
entered nest d h o negated t m ts p w = go (operand_of t) refl w
  where
    go : (q : Option Operand) → operand_of t ≡ q → Back (entered_step nest h o negated d q) ts p → RestEntry nest d h o negated (placed t m ∷ ts) p
    go (Some x) e (a, i, r) = (Some x, a, (t, m, ts, e, refl, i), r)
    go None e w = absurd w

back_parenthesis : (nest : List OpenParenthesis) (d : Draft) (h : Head) (o : Operator) (negated : Bool) (t : Token) (m : ℕ) (ts : List Placed) (p : Program) → Back (behind_parenthesis_step nest h o negated d t) ts p → RestEntry nest d h o negated (placed t m ∷ ts) p
back_parenthesis nest d h o negated token.LineEnd m ts p w = (None, ts, (m, refl), w)
back_parenthesis nest d h o negated t m ts p w = entered nest d h o negated t m ts p w

back_entry : (nest : List OpenParenthesis) (d : Draft) (h : Head) (o : Operator) (negated : Bool) (x : Operand) (t : Token) (m : ℕ) (ts : List Placed) (p : Program) → Back (behind_entry_step nest h o negated x d t) ts p → RestPart (part.BehindEntry o negated x) nest d h (placed t m ∷ ts) p
back_entry nest d h o negated x token.LineEnd m ts p w = (ts, (m, refl), w)
back_entry nest d h o negated x _ m ts p w = absurd w

pub back_part : (s : PartStage) (nest : List OpenParenthesis) (d : Draft) (h : Head) (t : Token) (m : ℕ) (ts : List Placed) (p : Program) → Back (part_step nest h s d t) ts p → RestPart s nest d h (placed t m ∷ ts) p
back_part (part.BehindLoad negated) nest d h t m ts p w = back_operand nest d h (form.Load negated) t m ts p w
back_part (part.BehindOperator o negated) nest d h t m ts p w = back_operator nest d h o negated t m ts p w
back_part (part.BehindParenthesis o negated) nest d h t m ts p w = back_parenthesis nest d h o negated t m ts p w
back_part (part.BehindEntry o negated x) nest d h t m ts p w = back_entry nest d h o negated x t m ts p w
back_part (part.BehindPair o) nest d h t m ts p w = back_pair nest d h o t m ts p w
back_part (part.BehindFirst o x) nest d h t m ts p w = back_first nest d h o x t m ts p w
back_part (part.BehindFirstComma o x) nest d h t m ts p w = back_operand nest d h (paired o x) t m ts p w
back_part (part.BehindStore negated) nest d h t m ts p w = back_store nest d h negated t m ts p w
back_part (part.BehindSet value) nest d h t m ts p w = back_set nest d h value t m ts p w
back_part (part.BehindJump c turns) nest d h t m ts p w = back_jump nest d h c turns t m ts p w
back_part part.BehindBrace nest d h t m ts p w = back_brace nest d h t m ts p w
back_part part.BehindLoop nest d h t m ts p w = back_loop nest d h t m ts p w
back_part (part.BehindTurns turns) nest d h t m ts p w = back_turns nest d h turns t m ts p w
back_part (part.BehindPragma turns) nest d h t m ts p w = back_pragma nest d h turns t m ts p w

-- A word that begins an instruction on the result alone.

back_word : (nest : List OpenParenthesis) (d : Draft) (h : Head) (w : Keyword) (m : ℕ) (ts : List Placed) (p : Program) → is_outer w ≡ false → Back (begun_step nest d h w (part_begun w)) ts p → RestSimple nest d h m (placed (token.Keyword w) m ∷ ts) p
back_word nest d h (word.Load negated) m ts p o (t, x, n, a, e, g, w) = (form.Load negated x, a, (t, n, e, ap (λ z. placed (token.Keyword (word.Load negated)) m ∷ z) g), w)
back_word nest d h (word.Apply o negated) m ts p i (inl (t, x, n, a, e, g, w)) = (form.Apply o negated x, a, (t, n, e, ap (λ z. placed (token.Keyword (word.Apply o negated)) m ∷ z) g), w)
back_word nest d h (word.Apply o negated) m ts p i (inr (k, a, takes, deep, g, (first, b, entry, r))) = go (inside_to (frame_of h o negated first) nest d b p r)
  where
    go : RestClose (frame_of h o negated first) nest d b p → RestSimple nest d h m (placed (token.Keyword (word.Apply o negated)) m ∷ ts) p
    go (rest, c, q, filled, w) =
        (form.Defer o negated first rest, c, (k, a, b, takes, deep, filled, ap (λ z. placed (token.Keyword (word.Apply o negated)) m ∷ z) g, entry, q), w)
back_word nest d h word.Limit m ts p o (t, u, x, y, k, i, n, a, e, f, g, w) = (form.Limit x y, a, (t, u, k, i, n, e, f, ap (λ z. placed (token.Keyword word.Limit) m ∷ z) g), w)
back_word nest d h word.Select m ts p o (t, u, x, y, k, i, n, a, e, f, g, w) = (form.Select x y, a, (t, u, k, i, n, e, f, ap (λ z. placed (token.Keyword word.Select) m ∷ z) g), w)
back_word nest d h word.Not m ts p o w = (form.Invert, ts, refl, computed_rest nest d h form.Invert ts p w)
back_word nest d h word.Absolute m ts p o w = (form.Absolute, ts, refl, computed_rest nest d h form.Absolute ts p w)
back_word nest d h (word.Convert j k) m ts p o w = (form.Convert j k, ts, refl, computed_rest nest d h (form.Convert j k) ts p w)
back_word nest d h (word.Store negated) m ts p o w = absurd (cc)
back_word nest d h (word.Set value) m ts p o w = absurd (cc)
back_word nest d h (word.Jump c) m ts p o w = absurd (cc)
back_word nest d h (word.Return c) m ts p o w = absurd (cc)
back_word nest d h _ m ts p o w = absurd w

from_simple : (d : Draft) (h : Head) (m : ℕ) (ts : List Placed) (p : Program) → RestSimple [] d h m ts p → RestAction d h m ts p
from_simple d h m ts p (x, a, i, r) = (action.Compute x, a, i, r)

-- the first token of an instruction of the body
pub back_begin : (d : Draft) (h : Head) (t : Token) (m : ℕ) (ts : List Placed) (p : Program) → Back (begin_step d h t) ts p → RestAction d h m (placed t m ∷ ts) p
back_begin d h (token.Keyword (word.Store negated)) m ts p (n, k, a, g, w) = (action.Store negated n, a, (k, ap (λ z. placed (token.Keyword (word.Store negated)) m ∷ z) g), w)
back_begin d h (token.Keyword (word.Set value)) m ts p (n, k, a, g, w) = (action.Set value n, a, (k, ap (λ z. placed (token.Keyword (word.Set value)) m ∷ z) g), w)
back_begin d h (token.Keyword (word.Jump c)) m ts p (n, k, a, g, w) = (action.Jump c n None, a, (k, ap (λ z. placed (token.Keyword (word.Jump c)) m ∷ z) g), w)
back_begin d h (token.Keyword (word.Return c)) m ts p w = (action.Return c, ts, refl, w)
back_begin d h (token.Keyword word.EndProgram) m ts p w = absurd w
back_begin d h token.OpenBrace m ts p (w, n, v, turns, c, g, i, j, k, q, a, e, f, r, s) =
    (action.Jump c n (Some turns), a, (w, v, g, i, j, k, q, e, f, ap (λ z. placed token.OpenBrace m ∷ z) r), s)
back_begin d h (token.Keyword w) m ts p r = from_simple d h m (placed (token.Keyword w) m ∷ ts) p (back_word [] d h w m ts p refl r)
back_begin d h _ m ts p w = absurd w

-- Lines inside parentheses.

inner_past : (depth : ℕ) (inner : Inner) (m : ℕ) (ts b : List Placed) → IsInner depth inner ts b → IsInner depth inner (placed token.LineEnd m ∷ ts) b
inner_past depth form.Close m ts b h = h
inner_past depth (form.Then l x rest) m ts b h = h

inside_past : (f : OpenParenthesis) (nest : List OpenParenthesis) (d : Draft) (m : ℕ) (ts : List Placed) (p : Program) → RestClose f nest d ts p → RestClose f nest d (placed token.LineEnd m ∷ ts) p
inside_past f nest d m ts p (rest, a, i, filled, r) = (rest, a, inner_past (suc (length nest)) rest m ts a i, filled, r)

-- the closing one
inside_closed : (f : OpenParenthesis) (nest : List OpenParenthesis) (d : Draft) (m : ℕ) (ts : List Placed) (p : Program) → is_filled f.operand f.inner ≡ true → Rest (computed nest d f.head (deferred f f.inner)) ts p → RestClose f nest d (placed token.Close m ∷ ts) p
inside_closed f nest d m ts p e r =
    let none : f.inner ≡ followed_by f.inner form.Close = sym (follow_none f.inner) in
    (form.Close, ts, (m, refl), subst (λ z. is_filled f.operand z ≡ true) none e, subst (λ z. RestComputed nest d f.head (deferred f z) ts p) none (computed_rest nest d f.head (deferred f f.inner) ts p r))

-- one more line, and the lines after it
inside_line : (f : OpenParenthesis) (nest : List OpenParenthesis) (d : Draft) (m : ℕ) (ts : List Placed) (p : Program) → past ts ≡ ts → RestSimple (f ∷ nest) d (record { line = m; label = None }) m ts p → RestClose f nest d ts p
inside_line f nest d m ts p e (x, a, i, (b, q, r)) = go (inside_to (with_line f m x) nest d b p r)
  where
    go : RestClose (with_line f m x) nest d b p → RestClose f nest d ts p
    go (rest, c, j, filled, w) =
        let one : followed_by (followed_by f.inner (form.Then m x form.Close)) rest ≡ followed_by f.inner (form.Then m x rest) = follow_one f.inner m x rest in
        (form.Then m x rest, c, (a, b, subst (λ z. IsSimple (suc (length nest)) m x z a) (sym e) i, q, j), subst (λ z. is_filled f.operand z ≡ true) one filled, subst (λ z. RestComputed nest d f.head (deferred f z) c p) one w)

pub back_inside : (f : OpenParenthesis) (nest : List OpenParenthesis) (d : Draft) (t : Token) (m : ℕ) (ts : List Placed) (p : Program) → Back (inside_step f nest d t m) ts p → RestInside f nest d (placed t m ∷ ts) p
back_inside f nest d token.LineEnd m ts p h = inside_from f nest d (placed token.LineEnd m ∷ ts) p (inside_past f nest d m ts p (inside_to f nest d ts p h))
back_inside f nest d token.Close m ts p h = inside_from f nest d (placed token.Close m ∷ ts) p (go (is_filled f.operand f.inner) refl h)
  where
    go : (b : Bool) → is_filled f.operand f.inner ≡ b → Back (if b then Ok (computed nest d f.head (deferred f f.inner)) else Err fault.Operand) ts p → RestClose f nest d (placed token.Close m ∷ ts) p
    go true e h = inside_closed f nest d m ts p e h
    go false e h = absurd h
back_inside f nest d (token.Keyword w) m ts p h = inside_from f nest d (placed (token.Keyword w) m ∷ ts) p (go (is_outer w) refl h)
  where
    go : (b : Bool) → is_outer w ≡ b → Back (if b then Err fault.Parenthesis else begun_step (f ∷ nest) d (record { line = m; label = None }) w (part_begun w)) ts p → RestClose f nest d (placed (token.Keyword w) m ∷ ts) p
    go true e h = absurd h
    go false e h = inside_line f nest d m (placed (token.Keyword w) m ∷ ts) p refl (back_word (f ∷ nest) d (record { line = m; label = None }) w m ts p e h)
back_inside f nest d _ m ts p h = absurd h
