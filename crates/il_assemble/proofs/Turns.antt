-- The turns of counted jumps never run out.
use Rattle.std.proofs.Common.{◌≡◌, ℕ, zero, suc, ◌+◌, ◌<◌, ◌≤◌, Bool, true, false, List, [], ◌∷◌, sum, if◌then◌else◌, Option, Some, None, Result, Ok, Err, slice_get, slice_set, nat_lt, refl, sym, ap, ◌∙◌, ltb-true, arith}
use Rattle.std.proofs.lemmas.List.Sums.{sum_by-cons}
use Rattle.point_types.specs.declared.reading.Reading.{Reading}
use Rattle.point_types.specs.declared.operator.Condition.TheVariants as when
use Rattle.point_types.specs.Value.{Value, Fault, truth, inverted_if, ◌>>=◌}
use Rattle.scan_code.specs.Table.{acts, or_wrong, output_kind, output_value, storable}
use Rattle.il_assemble.specs.Meaning.{Program, Line, Place, InVariable, InOutput, Action, Compute, Store, Set, Jump, Repeat, Return, State, Outcome, Aim, Next, Seek, Move, Onward, Back, Stop, move_of, next_state, stored, bool_place, repeated, simple_result, scope_of, move_from, is_passed, finished, continued, walked, turns_from}
use Rattle.il_assemble.specs.Correct.{IsAction, AreLines, TurnsNeverRunOut, turns_or}
use Rattle.il_assemble.proofs.Actions.{left_of, one_less}

left_most : (limits taken : List ℕ) → left_of limits taken ≤ sum limits
left_most [] ts = omega arith
left_most (l ∷ ls) [] = omega arith
left_most (l ∷ ls) (t ∷ ts) =
    let e : sum (l ∷ ls) ≡ l + sum ls = sum_by-cons (λ x. x) l ls in
    omega (arith, left_most ls ts, e)

module _ (p : Program) (readings : List Reading) where
  -- two evaluations that go on alike where fewer than so many turns are left
  module _ (k : ℕ) (again other : ℕ → State → Outcome) (alike : (label : ℕ) (s : State) → left_of p.limits s.taken < k → again label s ≡ other label s) where
    module _ (onward further : Aim → State → Outcome) (rest : (aim : Aim) (s : State) → left_of p.limits s.taken ≤ k → onward aim s ≡ further aim s) where
      moved : {A : Type 0} (x : Result A Fault) (go : A → Move) → ((a : A) → continued again onward (go a) ≡ continued other further (go a)) → continued again onward (move_of x go) ≡ continued other further (move_of x go)
      moved (Ok a) go h = h a
      moved (Err e) go h = refl

      stores : (place : Place) (v : Value) (s : State) → left_of p.limits s.taken ≤ k → continued again onward (stored p place v s) ≡ continued other further (stored p place v s)
      stores (InVariable i) v s h = moved (storable (slice_get p.variables i) v) (λ n. next_state (record s { variables = slice_set s.variables i n })) (λ n. rest Next (record s { variables = slice_set s.variables i n }) h)
      stores (InOutput i) v s h = moved (output_value (output_kind (slice_get p.tags i)) v) (λ n. next_state (record s { outputs = slice_set s.outputs i (Some n) })) (λ n. rest Next (record s { outputs = slice_set s.outputs i (Some n) }) h)

      repeats : (b : Bool) (label counter limit : ℕ) (s : State) → slice_get p.limits counter ≡ Some limit → left_of p.limits s.taken ≤ k → (o : Option ℕ) → slice_get s.taken counter ≡ o
          → continued again onward (repeated b label counter o limit s) ≡ continued other further (repeated b label counter o limit s)
      repeats false label counter limit s listed h None e = rest Next s h
      repeats false label counter limit s listed h (Some n) e = rest Next s h
      repeats true label counter limit s listed h None e = rest Next s h
      repeats true label counter limit s listed h (Some n) e = either (nat_lt n limit) refl
        where
          turned : State
          turned = record s { taken = slice_set s.taken counter (n + 1) }

          either : (c : Bool) → nat_lt n limit ≡ c → continued again onward (if c then Back label turned else next_state s) ≡ continued other further (if c then Back label turned else next_state s)
          either true f =
              let less = one_less p.limits s.taken counter limit n listed e (ltb-true n limit f) in
              alike label (record s { taken = slice_set s.taken counter (n + 1) }) (omega (arith, less, h))
          either false f = rest Next s h

      moves : (earlier : List Line) (x : Option Action) (s : State) → IsAction p earlier x → left_of p.limits s.taken ≤ k
          → continued again onward (move_from p readings x s) ≡ continued other further (move_from p readings x s)
      moves earlier None s w h = rest Next s h
      moves earlier (Some (Compute simple)) s w h = moved (simple_result (scope_of p readings s) simple s.result) (λ v. next_state (record s { result = Some v })) (λ v. rest Next (record s { result = Some v }) h)
      moves earlier (Some (Store negated place)) s w h = moved (or_wrong s.result >>= inverted_if negated) (λ v. stored p place v s) (λ v. stores place v s h)
      moves earlier (Some (Set value place)) s w h =
          moved (acts when.IfTrue s.result >>= λ b. bool_place p place >>= λ _. Ok b) (λ b. if b then stored p place (truth value) s else next_state s) either
        where
          either : (b : Bool) → continued again onward (if b then stored p place (truth value) s else next_state s) ≡ continued other further (if b then stored p place (truth value) s else next_state s)
          either true = stores place (truth value) s h
          either false = rest Next s h
      moves earlier (Some (Jump condition label)) s w h =
          moved (acts condition s.result) (λ b. if b then Onward (Seek label) s else next_state s) either
        where
          either : (b : Bool) → continued again onward (if b then Onward (Seek label) s else next_state s) ≡ continued other further (if b then Onward (Seek label) s else next_state s)
          either true = rest (Seek label) s h
          either false = rest Next s h
      moves earlier (Some (Repeat condition label counter limit)) s w h =
          moved (acts condition s.result) (λ b. repeated b label counter (slice_get s.taken counter) limit s) (λ b. repeats b label counter limit s w.1.listed h (slice_get s.taken counter) refl)
      moves earlier (Some (Return condition)) s w h =
          moved (acts condition s.result) (λ b. if b then Stop s else next_state s) either
        where
          either : (b : Bool) → continued again onward (if b then Stop s else next_state s) ≡ continued other further (if b then Stop s else next_state s)
          either true = refl
          either false = rest Next s h

    one_line : (earlier : List Line) (line : Line) (lines : List Line) → IsAction p (line ∷ earlier) line.action → ((aim : Aim) (t : State) → left_of p.limits t.taken ≤ k → walked p readings again lines aim t ≡ walked p readings other lines aim t)
        → (aim : Aim) (s : State) → left_of p.limits s.taken ≤ k → walked p readings again (line ∷ lines) aim s ≡ walked p readings other (line ∷ lines) aim s
    one_line earlier line lines w on aim s h = either (is_passed aim line)
      where
        either : (b : Bool) → (if b then walked p readings again lines aim s else continued again (walked p readings again lines) (move_from p readings line.action s)) ≡ (if b then walked p readings other lines aim s else continued other (walked p readings other lines) (move_from p readings line.action s))
        either true = on aim s h
        either false = moves (walked p readings again lines) (walked p readings other lines) on (line ∷ earlier) line.action s w h

    walks : (earlier lines : List Line) → AreLines p earlier lines → (aim : Aim) (s : State) → left_of p.limits s.taken ≤ k → walked p readings again lines aim s ≡ walked p readings other lines aim s
    walks earlier [] w aim s h = refl
    walks earlier (line ∷ lines) w aim s h = one_line earlier line lines w.0 (λ aim t g. walks (line ∷ earlier) lines w.1 aim t g) aim s h

  -- with more turns than are left, whatever is given where none is
  turns_alike : (one two : ℕ → State → Outcome) (m n label : ℕ) (s : State) → AreLines p [] p.body → left_of p.limits s.taken < m → left_of p.limits s.taken < n → turns_or one p readings m label s ≡ turns_or two p readings n label s
  turns_alike one two zero n label s w h g = absurd (omega arith)
  turns_alike one two (suc m) zero label s w h g = absurd (omega arith)
  turns_alike one two (suc m) (suc n) label s w h g =
      walks (left_of p.limits s.taken) (turns_or one p readings m) (turns_or two p readings n)
      (λ label t less. turns_alike one two m n label t w (omega (arith, less, h)) (omega (arith, less, g)))
      [] p.body w (Seek label) s (omega arith)

  from_is_or : (n : ℕ) → turns_from p readings n ≡ turns_or (λ label s. finished s) p readings n
  from_is_or zero = refl
  from_is_or (suc n) = ap (λ (f : ℕ → State → Outcome). λ label s. walked p readings f p.body (Seek label) s) (from_is_or n)

pub turns_never_run_out : TurnsNeverRunOut
turns_never_run_out p readings otherwise more earlier lines aim s body w =
    walks p readings (left_of p.limits s.taken) (turns_or otherwise p readings (sum p.limits + more)) (turns_or (λ label s. finished s) p readings (sum p.limits))
    (λ label t less.
    let most = left_most p.limits s.taken in
    turns_alike p readings otherwise (λ label s. finished s) (sum p.limits + more) (sum p.limits) label t body (omega (arith, less, most)) (omega (arith, less, most)))
    earlier lines w aim s (omega arith)
    ∙ ap (λ (f : ℕ → State → Outcome). walked p readings f lines aim s) (sym (from_is_or p readings (sum p.limits)))
