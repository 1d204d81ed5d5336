-- Each state can still come to a whole program, where no token is open.
use Rattle.std.proofs.Common.{◌≡◌, ℕ, zero, suc, Bool, true, false, ◌&&◌, ℤ, pos, List, [], ◌∷◌, ◌++◌, length, Option, Some, None, Ok, Err, refl, sym, ap, ◌∙◌, if◌then◌else◌, arith, ◌+◌, ◌≤◌}
use Rattle.std.proofs.lemmas.Int.{ints}
use Rattle.std.specs.Prelude.{codes, int_le, negsuc}
use Rattle.point_types.specs.declared.il_type.IlType.{IlType}
use Rattle.point_types.specs.declared.il_type.IlType.TheVariants as il
use Rattle.point_types.specs.declared.operator.Condition.{Condition}
use Rattle.point_types.specs.declared.operator.Condition.TheVariants as condition
use Rattle.point_types.specs.Keyword.{is_reserved, plain_words, conversions}
use Rattle.point_types.specs.Value.{low_of, high_of, is_within, is_ranged, is_bool, number_of}
use Rattle.il_reader.specs.declared.fault.ReadFaultKind.TheVariants as fault
use Rattle.il_reader.specs.declared.token.Keyword.TheVariants as word
use Rattle.il_reader.specs.declared.token.Token.{Token}
use Rattle.il_reader.specs.declared.token.Token.TheVariants as token
use Rattle.il_reader.specs.declared.tree.Action.TheVariants as action
use Rattle.il_reader.specs.declared.tree.Operand.{Operand}
use Rattle.il_reader.specs.declared.tree.Operand.TheVariants as operand
use Rattle.il_reader.specs.declared.tree.Program.{Program}
use Rattle.il_reader.specs.declared.typing.Typing.{Typing}
use Rattle.il_reader.specs.declared.draft.Draft.{Draft}
use Rattle.il_reader.specs.declared.draft.Head.{Head}
use Rattle.il_reader.specs.declared.nest.OpenParenthesis.{OpenParenthesis}
use Rattle.il_reader.specs.declared.lexer.Lexed.{Lexed}
use Rattle.il_reader.specs.declared.lexer.Mode.{Mode}
use Rattle.il_reader.specs.declared.lexer.Mode.TheVariants as mode
use Rattle.il_reader.specs.declared.reader.Reader.{Reader}
use Rattle.il_reader.specs.declared.stage.BlockStage.{BlockStage}
use Rattle.il_reader.specs.declared.stage.BlockStage.TheVariants as block
use Rattle.il_reader.specs.declared.stage.PartStage.{PartStage}
use Rattle.il_reader.specs.declared.stage.PartStage.TheVariants as part
use Rattle.il_reader.specs.declared.stage.Stage.TheVariants as stage
use Rattle.il_reader.specs.declared.state.State.{State}
use Rattle.il_reader.specs.declared.state.State.TheVariants as state
use Rattle.il_reader.specs.Written.{Written, Inner, followed_by}
use Rattle.il_reader.specs.Written as form
use Rattle.il_reader.specs.Nesting.{is_filled, frame_of, with_line, deferred}
use Rattle.il_reader.specs.Declaration.{is_taken, has_room, value_of, bounded, started, made}
use Rattle.il_reader.specs.Tokens.{keyword, word_ended}
use Rattle.il_reader.specs.Drafting.{declares, with_statement, with_entry}
use Rattle.il_reader.specs.Instructions.{acted, computed, paired}
use Rattle.il_reader.specs.Reading.{with_fault, ranged_step, step, onward, stepped, state_read, byte_read, fed_on, fed}
use Rattle.il_reader.proofs.TypingLemmas.{typing_is}
use Rattle.il_reader.proofs.Forth.{literal, dots_same, assign_same}
use Rattle.il_reader.proofs.Live.{IsLive}
use Rattle.il_reader.proofs.Fresh.{letters, fresh_for, fresh_length, is_fresh, in_word, fed_letters, word_is_name}
use Rattle.il_reader.proofs.Numerals.{clear, Prints, prints_number}

-- some bytes lead from a state, where no token is open, to the end of a program
abbrev pub Ends_at : Reader → Type 0
Ends_at r = (text : List ℕ) × (p : Program) × (n l : ℕ) × (fed r text ≡ Ok (clear n l (state.Over p)))

abbrev in_block : BlockStage → Draft → State
in_block s d = state.Within (stage.Block s) d

-- by one more token
printed_ends : (text : List ℕ) (t : Token) (s s' : State) (n l : ℕ) → Prints text t → step s t n ≡ Ok s' → Ends_at (clear n n s') → Ends_at (clear n l s)
printed_ends text t s s' n l prints e (rest, p, i, j, h) = (text ++ (32 ∷ rest), p, i, j, prints n l s s' rest e ∙ h)

-- Literals of a range.

prints_truth : (b : Bool) → (t : List ℕ) × Prints t (token.Keyword (word.Truth b))
unfolding keyword is_reserved plain_words conversions
prints_truth true = (codes "TRUE", λ n l s s' rest e. ap (λ z. fed_on (state_read (record { line = n; last = n; mode = mode.Word (codes "true") false; state = s }) 32 rest (record { ended = Some (token.Keyword (word.Truth true)); own = None; mode = mode.Clear }) (onward z (λ s''. stepped s'' None n))) (λ r'. fed r' rest)) e)
prints_truth false = (codes "FALSE", λ n l s s' rest e. ap (λ z. fed_on (state_read (record { line = n; last = n; mode = mode.Word (codes "false") false; state = s }) 32 rest (record { ended = Some (token.Keyword (word.Truth false)); own = None; mode = mode.Clear }) (onward z (λ s''. stepped s'' None n))) (λ r'. fed r' rest)) e)

abbrev Literal : IlType → ℤ → Type 0
Literal k v = (text : List ℕ) × (t : Token) × Prints text t × (value_of k t ≡ Some v)

in_lint : (k : IlType) (low high v : ℤ) → is_ranged k low high v ≡ true → is_within (low_of il.Lint) (high_of il.Lint) v ≡ true
in_lint il.Bool low high v h = grind (arith, ints)
in_lint il.Sint low high v h = grind (arith, ints)
in_lint il.Int low high v h = grind (arith, ints)
in_lint il.Dint low high v h = grind (arith, ints)
in_lint il.Lint low high v h = grind (arith, ints)
in_lint il.Usint low high v h = grind (arith, ints)
in_lint il.Uint low high v h = grind (arith, ints)
in_lint il.Udint low high v h = grind (arith, ints)

is_truth : (low high v : ℤ) → is_ranged il.Bool low high v ≡ true → (b : Bool) × (number_of b ≡ v)
is_truth low high (pos zero) h = (false, refl)
is_truth low high (pos (suc zero)) h = (true, refl)
is_truth low high (pos (suc (suc m))) h = absurd (grind (arith, ints))
is_truth low high (negsuc m) h = absurd (grind (arith, ints))

truth_literal : (low high v : ℤ) → is_ranged il.Bool low high v ≡ true → Literal il.Bool v
truth_literal low high v h = go (is_truth low high v h)
  where
    with_text : (b : Bool) → number_of b ≡ v → (t : List ℕ) × Prints t (token.Keyword (word.Truth b)) → Literal il.Bool v
    with_text b e (t, prints) = (t, token.Keyword (word.Truth b), prints, ap (λ z. Some z) e)

    go : (b : Bool) × (number_of b ≡ v) → Literal il.Bool v
    go (b, e) = with_text b e (prints_truth b)

number_literal : (k : IlType) (v : ℤ) → is_bool k ≡ false → (t : List ℕ) × Prints t (token.Number v) → Literal k v
number_literal k v e (t, prints) = (t, token.Number v, prints, ap (λ z. if z then None else Some v) e)

literal_for : (k : IlType) (low high v : ℤ) → is_ranged k low high v ≡ true → Literal k v
literal_for il.Bool low high v h = truth_literal low high v h
literal_for il.Sint low high v h = number_literal il.Sint v refl (prints_number v (in_lint il.Sint low high v h))
literal_for il.Int low high v h = number_literal il.Int v refl (prints_number v (in_lint il.Int low high v h))
literal_for il.Dint low high v h = number_literal il.Dint v refl (prints_number v (in_lint il.Dint low high v h))
literal_for il.Lint low high v h = number_literal il.Lint v refl (prints_number v (in_lint il.Lint low high v h))
literal_for il.Usint low high v h = number_literal il.Usint v refl (prints_number v (in_lint il.Usint low high v h))
literal_for il.Uint low high v h = number_literal il.Uint v refl (prints_number v (in_lint il.Uint low high v h))
literal_for il.Udint low high v h = number_literal il.Udint v refl (prints_number v (in_lint il.Udint low high v h))

-- a range whose low end is in the type goes on to the type's high end
to_high : (lo hi low high start : ℤ) → (int_le lo low && (int_le low start && int_le start high) && int_le high hi) ≡ true → (int_le lo low && (int_le low low && int_le low hi) && int_le hi hi) ≡ true
to_high lo hi low high start h = grind (arith, ints)

at_high : (lo hi low high start : ℤ) → (int_le lo low && (int_le low start && int_le start high) && int_le high hi) ≡ true → (int_le lo low && (int_le low hi && int_le hi hi) && int_le hi hi) ≡ true
at_high lo hi low high start h = grind (arith, ints)

-- Declarations.

block_ends : (x : Bool) (d : Draft) (n l : ℕ) → Ends_at (clear n l (in_block (block.InBlock x) d))
unfolding keyword is_reserved plain_words conversions
block_ends x d n l = (codes "END_VAR END_PROGRAM\n", _, _, _, refl)

start_ends : (y : Typing) (d : Draft) (n l : ℕ) → Ends_at (clear n l (in_block (block.BehindStart y) d))
unfolding keyword is_reserved plain_words conversions
start_ends y d n l = (codes ";END_VAR END_PROGRAM\n", _, _, _, refl)

range_ends : (y : Typing) (d : Draft) (n l : ℕ) → Ends_at (clear n l (in_block (block.BehindRange y) d))
unfolding keyword is_reserved plain_words conversions
range_ends y d n l = (codes ";END_VAR END_PROGRAM\n", _, _, _, refl)

type_ends : (y : Typing) (d : Draft) (n l : ℕ) → Ends_at (clear n l (in_block (block.BehindType y) d))
unfolding keyword is_reserved plain_words conversions
type_ends y d n l = (codes ";END_VAR END_PROGRAM\n", _, _, _, refl)

external_ends : (k : IlType) (d : Draft) (n l : ℕ) → Ends_at (clear n l (in_block (block.BehindExternal k) d))
unfolding keyword is_reserved plain_words conversions
external_ends k d n l = (codes ";END_VAR END_PROGRAM\n", _, _, _, refl)

high_ends : (y : Typing) (d : Draft) (n l : ℕ) → Ends_at (clear n l (in_block (block.BehindHigh y) d))
unfolding keyword is_reserved plain_words conversions
high_ends y d n l = (codes ");END_VAR END_PROGRAM\n", _, _, _, refl)

assign_ends : (y : Typing) (d : Draft) (n l : ℕ) → Ends_at (clear n l (in_block (block.BehindAssign y) d))
assign_ends y d n l = go (literal_for y.kind y.low y.high y.start y.ranged)
  where
    same : Typing
    same = record { kind = y.kind; low = y.low; high = y.high; start = y.start; ranged = y.ranged }

    is_same : Some same ≡ started y y.start
    is_same = typing_is y.kind y.low y.high y.start y.ranged y.low y.high y.start refl refl refl

    go : Literal y.kind y.start → Ends_at (clear n l (in_block (block.BehindAssign y) d))
    go (text, t, prints, e) =
        let makes : made (started y) (value_of y.kind t) ≡ Some same = ap (made (started y)) e ∙ sym is_same in
        printed_ends text t (in_block (block.BehindAssign y) d) (in_block (block.BehindStart same) d) n l prints (ap (with_fault t) (assign_same y d t (literal y.kind t (started y) same makes)) ∙ ap (λ z. with_fault t (ranged_step d block.BehindStart z)) makes) (start_ends same d n n)

dots_ends : (z : Typing) (d : Draft) (n l : ℕ) → Ends_at (clear n l (in_block (block.BehindDots z) d))
dots_ends z d n l = go (literal_for z.kind z.low (high_of z.kind) (high_of z.kind) (at_high (low_of z.kind) (high_of z.kind) z.low z.high z.start z.ranged))
  where
    is_whole : is_ranged z.kind z.low (high_of z.kind) z.low ≡ true
    is_whole = to_high (low_of z.kind) (high_of z.kind) z.low z.high z.start z.ranged

    up : Typing
    up = record { kind = z.kind; low = z.low; high = high_of z.kind; start = z.low; ranged = is_whole }

    is_up : Some up ≡ bounded z (high_of z.kind)
    is_up = typing_is z.kind z.low (high_of z.kind) z.low is_whole z.low (high_of z.kind) z.low refl refl refl

    go : Literal z.kind (high_of z.kind) → Ends_at (clear n l (in_block (block.BehindDots z) d))
    go (text, t, prints, e) =
        let makes : made (bounded z) (value_of z.kind t) ≡ Some up = ap (made (bounded z)) e ∙ sym is_up in
        printed_ends text t (in_block (block.BehindDots z) d) (in_block (block.BehindHigh up) d) n l prints (ap (with_fault t) (dots_same z d t (literal z.kind t (bounded z) up makes)) ∙ ap (λ w. with_fault t (ranged_step d block.BehindHigh w)) makes) (high_ends up d n n)

low_ends : (z : Typing) (d : Draft) (n l : ℕ) → Ends_at (clear n l (in_block (block.BehindLow z) d))
low_ends z d n l = go (dots_ends z d n n)
  where
    go : Ends_at (clear n n (in_block (block.BehindDots z) d)) → Ends_at (clear n l (in_block (block.BehindLow z) d))
    go (text, p, i, j, h) = (46 ∷ 46 ∷ text, p, i, j, h)

open_ends : (k : IlType) (d : Draft) (n l : ℕ) → Ends_at (clear n l (in_block (block.BehindOpen k) d))
unfolding keyword is_reserved plain_words conversions
open_ends il.Bool d n l = (codes "FALSE..FALSE);END_VAR END_PROGRAM\n", _, _, _, refl)
open_ends il.Sint d n l = (codes "0..0);END_VAR END_PROGRAM\n", _, _, _, refl)
open_ends il.Int d n l = (codes "0..0);END_VAR END_PROGRAM\n", _, _, _, refl)
open_ends il.Dint d n l = (codes "0..0);END_VAR END_PROGRAM\n", _, _, _, refl)
open_ends il.Lint d n l = (codes "0..0);END_VAR END_PROGRAM\n", _, _, _, refl)
open_ends il.Usint d n l = (codes "0..0);END_VAR END_PROGRAM\n", _, _, _, refl)
open_ends il.Uint d n l = (codes "0..0);END_VAR END_PROGRAM\n", _, _, _, refl)
open_ends il.Udint d n l = (codes "0..0);END_VAR END_PROGRAM\n", _, _, _, refl)

colon_ends : (x : Bool) (d : Draft) (n l : ℕ) → Ends_at (clear n l (in_block (block.BehindColon x) d))
unfolding keyword is_reserved plain_words conversions
colon_ends true d n l = (codes "INT;END_VAR END_PROGRAM\n", _, _, _, refl)
colon_ends false d n l = (codes "INT;END_VAR END_PROGRAM\n", _, _, _, refl)

name_ends : (x : Bool) (d : Draft) (n l : ℕ) → Ends_at (clear n l (in_block (block.BehindName x) d))
unfolding keyword is_reserved plain_words conversions
name_ends true d n l = (codes ":INT;END_VAR END_PROGRAM\n", _, _, _, refl)
name_ends false d n l = (codes ":INT;END_VAR END_PROGRAM\n", _, _, _, refl)

-- a fresh name, where there is room for one
comma_name : (x : Bool) (d : Draft) (n l : ℕ) (rest : List ℕ) → has_room x d.scope ≡ true → fed (clear n l (in_block (block.BehindComma x) d)) (113 ∷ (letters (fresh_for d.scope) ++ (32 ∷ rest))) ≡ fed (clear n n (in_block (block.BehindName x) (with_entry x d n (113 ∷ letters (fresh_for d.scope))))) rest
comma_name x d n l rest free =
    fed_letters (fresh_for d.scope) (113 ∷ []) n s (32 ∷ rest) few ∙ ap (λ z. fed_on (byte_read (in_word n w s) 32 rest (word_ended z 32)) (λ r'. fed r' rest)) (word_is_name (fresh_for d.scope) (fresh_length d.scope)) ∙ ap (λ z. fed_on (state_read (in_word n w s) 32 rest named (onward (with_fault (token.Name w) (if z then (if is_taken x w d.scope then Err fault.Duplicate else declares (block.BehindName x) (with_entry x d n w)) else Err fault.TooLong)) (λ s'. stepped s' None n))) (λ r'. fed r' rest)) free ∙ ap (λ z. fed_on (state_read (in_word n w s) 32 rest named (onward (with_fault (token.Name w) (if z then Err fault.Duplicate else declares (block.BehindName x) (with_entry x d n w))) (λ s'. stepped s' None n))) (λ r'. fed r' rest)) (is_fresh x d.scope free)
  where
    s : State
    s = in_block (block.BehindComma x) d

    w : List ℕ
    w = 113 ∷ letters (fresh_for d.scope)

    named : Lexed
    named = record { ended = Some (token.Name w); own = None; mode = mode.Clear }

    few : length {A = ℕ} (113 ∷ []) + length (letters (fresh_for d.scope)) ≤ 32
    few = let h = fresh_length d.scope in omega arith

comma_ends : (x : Bool) (d : Draft) (n l : ℕ) → has_room x d.scope ≡ true → Ends_at (clear n l (in_block (block.BehindComma x) d))
comma_ends x d n l free = join (name_ends x (with_entry x d n (113 ∷ letters (fresh_for d.scope))) n n)
  where
    join : Ends_at (clear n n (in_block (block.BehindName x) (with_entry x d n (113 ∷ letters (fresh_for d.scope))))) → Ends_at (clear n l (in_block (block.BehindComma x) d))
    join (text, p, i, j, h) = (113 ∷ (letters (fresh_for d.scope) ++ (32 ∷ text)), p, i, j, comma_name x d n l text free ∙ h)

in_block_ends : (s : BlockStage) (d : Draft) (n l : ℕ) → IsLive (in_block s d) → Ends_at (clear n l (in_block s d))
in_block_ends (block.InBlock x) d n l h = block_ends x d n l
in_block_ends (block.BehindName x) d n l h = name_ends x d n l
in_block_ends (block.BehindComma x) d n l h = comma_ends x d n l h
in_block_ends (block.BehindColon x) d n l h = colon_ends x d n l
in_block_ends (block.BehindExternal k) d n l h = external_ends k d n l
in_block_ends (block.BehindType y) d n l h = type_ends y d n l
in_block_ends (block.BehindOpen k) d n l h = open_ends k d n l
in_block_ends (block.BehindLow y) d n l h = low_ends y d n l
in_block_ends (block.BehindDots y) d n l h = dots_ends y d n l
in_block_ends (block.BehindHigh y) d n l h = high_ends y d n l
in_block_ends (block.BehindRange y) d n l h = range_ends y d n l
in_block_ends (block.BehindAssign y) d n l h = assign_ends y d n l
in_block_ends (block.BehindStart y) d n l h = start_ends y d n l

-- The body.

-- by some bytes
led : (text : List ℕ) (s s' : State) (n l : ℕ) → ((rest : List ℕ) → fed (clear n l s) (text ++ rest) ≡ fed (clear n n s') rest) → Ends_at (clear n n s') → Ends_at (clear n l s)
led text s s' n l leads (rest, p, i, j, h) = (text ++ rest, p, i, j, leads rest ∙ h)

-- by a line's end
newline : (s s' : State) (n l : ℕ) → ((rest : List ℕ) → fed (clear n l s) (10 ∷ rest) ≡ fed (clear (suc n) n s') rest) → Ends_at (clear (suc n) n s') → Ends_at (clear n l s)
newline s s' n l leads (rest, p, i, j, h) = (10 ∷ rest, p, i, j, leads rest ∙ h)

abbrev at_line : List OpenParenthesis → Draft → State
at_line nest d = state.Within (stage.AtLine nest) d

abbrev whole_in : List OpenParenthesis → Draft → State
whole_in nest d = state.Within (stage.BehindInstruction nest) d

body_ends : (d : Draft) (n l : ℕ) → Ends_at (clear n l (at_line [] d))
unfolding keyword is_reserved plain_words conversions
body_ends d n l = (codes "END_PROGRAM\n", _, _, _, refl)

-- parentheses are closed one by one, each after a further line
filled_line : (x : Option Operand) (inner : Inner) (l : ℕ) (y : Written) → is_filled x (followed_by inner (form.Then l y form.Close)) ≡ true
filled_line (Some x) inner l y = refl
filled_line None form.Close l y = refl
filled_line None (form.Then k z inner) l y = refl

close_line : (f : OpenParenthesis) (nest : List OpenParenthesis) (d : Draft) (n l : ℕ) (rest : List ℕ) → is_filled f.operand f.inner ≡ true → fed (clear n l (at_line (f ∷ nest) d)) (41 ∷ rest) ≡ fed (clear n n (computed nest d f.head (deferred f f.inner))) rest
close_line f nest d n l rest e =
    ap (λ z. fed_on (state_read (clear n l (at_line (f ∷ nest) d)) 41 rest (record { ended = None; own = Some token.Close; mode = mode.Clear }) (with_fault token.Close (if z then Ok (computed nest d f.head (deferred f f.inner)) else Err fault.Operand))) (λ r'. fed r' rest)) e

abbrev behind_close : OpenParenthesis → List OpenParenthesis → Draft → ℕ → State
behind_close f nest d n = computed nest d f.head (deferred f (with_line f n form.Invert).inner)

closing : (f : OpenParenthesis) (nest : List OpenParenthesis) (d : Draft) (n l : ℕ) → Ends_at (clear (suc n) (suc n) (behind_close f nest d n)) → Ends_at (clear n l (at_line (f ∷ nest) d))
unfolding keyword is_reserved plain_words conversions
closing f nest d n l (text, p, i, j, e) =
    (codes "NOT\n" ++ (41 ∷ text), p, i, j, close_line (with_line f n form.Invert) nest d (suc n) n text (filled_line f.operand f.inner n form.Invert) ∙ e)

inside_ends : (nest : List OpenParenthesis) (f : OpenParenthesis) (d : Draft) (n l : ℕ) → Ends_at (clear n l (at_line (f ∷ nest) d))
inside_ends [] f d n l =
    let x : Written = deferred f (with_line f n form.Invert).inner in
    let d' : Draft = with_statement d f.head (Some (action.Compute x)) in
    closing f [] d n l (newline (whole_in [] d') (at_line [] d') (suc n) (suc n) (λ rest. refl) (body_ends d' (suc (suc n)) (suc n)))
inside_ends (g ∷ nest) f d n l =
    let x : Written = deferred f (with_line f n form.Invert).inner in
    let f' : OpenParenthesis = with_line g f.head.line x in
    closing f (g ∷ nest) d n l (newline (whole_in (f' ∷ nest) d) (at_line (f' ∷ nest) d) (suc n) (suc n) (λ rest. refl) (inside_ends nest f' d (suc (suc n)) (suc n)))

lines_end : (nest : List OpenParenthesis) (d : Draft) (n l : ℕ) → Ends_at (clear n l (at_line nest d))
lines_end [] d n l = body_ends d n l
lines_end (f ∷ nest) d n l = inside_ends nest f d n l

whole_ends : (nest : List OpenParenthesis) (d : Draft) (n l : ℕ) → Ends_at (clear n l (whole_in nest d))
whole_ends nest d n l = newline (whole_in nest d) (at_line nest d) n l (λ rest. refl) (lines_end nest d (suc n) n)

computed_ends : (nest : List OpenParenthesis) (d : Draft) (h : Head) (x : Written) (n l : ℕ) → Ends_at (clear n l (computed nest d h x))
computed_ends [] d h x n l = whole_ends [] (with_statement d h (Some (action.Compute x))) n l
computed_ends (f ∷ nest) d h x n l = whole_ends (with_line f h.line x ∷ nest) d n l

-- an operand, and a name, that any program may have
abbrev an_operand : Operand
an_operand = operand.Named (codes "a")

jump_ends : (s : PartStage) (c : Condition) (turns : Option ℕ) (text : List ℕ) (nest : List OpenParenthesis) (g : Head) (d : Draft) (n l : ℕ) → ((rest : List ℕ) → fed (clear n l (state.Within (stage.Part nest g s) d)) (text ++ rest) ≡ fed (clear n n (acted nest d g (action.Jump c (codes "a") turns))) rest) → Ends_at (clear n l (state.Within (stage.Part nest g s) d))
jump_ends s c turns text nest g d n l leads =
    led text (state.Within (stage.Part nest g s) d) (acted nest d g (action.Jump c (codes "a") turns)) n l leads (whole_ends nest (with_statement d g (Some (action.Jump c (codes "a") turns))) n n)

part_ends : (s : PartStage) (nest : List OpenParenthesis) (g : Head) (d : Draft) (n l : ℕ) → Ends_at (clear n l (state.Within (stage.Part nest g s) d))
unfolding keyword is_reserved plain_words conversions
part_ends (part.BehindLoad negated) nest g d n l = led (codes "a ") _ (computed nest d g (form.Load negated an_operand)) n l (λ rest. refl) (computed_ends nest d g (form.Load negated an_operand) n n)
part_ends (part.BehindOperator o negated) nest g d n l = led (codes "a ") _ (computed nest d g (form.Apply o negated an_operand)) n l (λ rest. refl) (computed_ends nest d g (form.Apply o negated an_operand) n n)
part_ends (part.BehindParenthesis o negated) nest g d n l = newline _ (at_line (frame_of g o negated None ∷ nest) d) n l (λ rest. refl) (inside_ends nest (frame_of g o negated None) d (suc n) n)
part_ends (part.BehindEntry o negated x) nest g d n l = newline _ (at_line (frame_of g o negated (Some x) ∷ nest) d) n l (λ rest. refl) (inside_ends nest (frame_of g o negated (Some x)) d (suc n) n)
part_ends (part.BehindPair o) nest g d n l = led (codes "a,a ") _ (computed nest d g (paired o an_operand an_operand)) n l (λ rest. refl) (computed_ends nest d g (paired o an_operand an_operand) n n)
part_ends (part.BehindFirst o x) nest g d n l = led (codes ",a ") _ (computed nest d g (paired o x an_operand)) n l (λ rest. refl) (computed_ends nest d g (paired o x an_operand) n n)
part_ends (part.BehindFirstComma o x) nest g d n l = led (codes "a ") _ (computed nest d g (paired o x an_operand)) n l (λ rest. refl) (computed_ends nest d g (paired o x an_operand) n n)
part_ends (part.BehindStore negated) nest g d n l = led (codes "a ") _ (acted nest d g (action.Store negated (codes "a"))) n l (λ rest. refl) (whole_ends nest (with_statement d g (Some (action.Store negated (codes "a")))) n n)
part_ends (part.BehindSet value) nest g d n l = led (codes "a ") _ (acted nest d g (action.Set value (codes "a"))) n l (λ rest. refl) (whole_ends nest (with_statement d g (Some (action.Set value (codes "a")))) n n)
part_ends (part.BehindJump c turns) nest g d n l = jump_ends (part.BehindJump c turns) c turns (codes "a ") nest g d n l (λ rest. refl)
part_ends part.BehindBrace nest g d n l = jump_ends part.BehindBrace condition.Always (Some 1) (codes "LOOP 1}JMP a ") nest g d n l (λ rest. refl)
part_ends part.BehindLoop nest g d n l = jump_ends part.BehindLoop condition.Always (Some 1) (codes "1}JMP a ") nest g d n l (λ rest. refl)
part_ends (part.BehindTurns turns) nest g d n l = jump_ends (part.BehindTurns turns) condition.Always (Some turns) (codes "}JMP a ") nest g d n l (λ rest. refl)
part_ends (part.BehindPragma turns) nest g d n l = jump_ends (part.BehindPragma turns) condition.Always (Some turns) (codes "JMP a ") nest g d n l (λ rest. refl)

-- the completion
pub clear_ends : (s : State) (n l : ℕ) → IsLive s → Ends_at (clear n l s)
unfolding keyword is_reserved plain_words conversions
clear_ends state.Start n l h = (codes "PROGRAM p END_PROGRAM\n", _, _, _, refl)
clear_ends state.Titled n l h = (codes "p END_PROGRAM\n", _, _, _, refl)
clear_ends (state.Within stage.BetweenBlocks d) n l h = (codes "END_PROGRAM\n", _, _, _, refl)
clear_ends (state.Within (stage.Block s) d) n l h = in_block_ends s d n l h
clear_ends (state.Within (stage.AtLine nest) d) n l h = lines_end nest d n l
clear_ends (state.Within (stage.BehindLabel m v) d) n l h = (codes ":\nEND_PROGRAM\n", _, _, _, refl)
clear_ends (state.Within (stage.AtInstruction g) d) n l h = (codes "\nEND_PROGRAM\n", _, _, _, refl)
clear_ends (state.Within (stage.Part nest g s) d) n l h = part_ends s nest g d n l
clear_ends (state.Within (stage.BehindInstruction nest) d) n l h = whole_ends nest d n l
clear_ends (state.Over p) n l h = ([], p, n, l, refl)

-- where a line begins, nothing is open but a comment
abbrev pub IsCalm : Mode → Type 0
IsCalm mode.Clear = Unit {0}
IsCalm mode.Comment = Unit {0}
IsCalm _ = ⊥

pub calm_ends : (n l : ℕ) (q : Mode) (s : State) → IsLive s → IsCalm q → Ends_at (record { line = n; last = l; mode = q; state = s })
calm_ends n l mode.Clear s h c = clear_ends s n l h
calm_ends n l mode.Comment s h c = join (clear_ends s n n h)
  where
    join : Ends_at (clear n n s) → Ends_at (record { line = n; last = l; mode = mode.Comment; state = s })
    join (text, p, i, j, e) = (42 ∷ 41 ∷ text, p, i, j, e)
calm_ends n l _ s h c = absurd c
