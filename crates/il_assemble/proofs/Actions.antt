-- The code of one line.
use Rattle.std.proofs.Common.{◌≡◌, ℕ, zero, suc, ◌+◌, ◌-◌, ◌<◌, ◌≤◌, Bool, true, false, ◌&&◌, if◌then◌else◌, ℤ, pos, List, [], ◌∷◌, length, Option, Some, None, option_map, Result, Ok, Err, slice_get, slice_set, nat_eq, nat_lt, nat_le, get_or, refl, sym, ap, ◌∙◌, subst, arith, lt-ltb, ltb-true, eq-eqb, le-leb, length-set}
use Rattle.std.proofs.lemmas.Option.{slice_get_within, slice_get-get_or}
use Rattle.point_types.specs.declared.il_type.IlType.{IlType}
use Rattle.point_types.specs.declared.operator.Condition.{Condition}
use Rattle.point_types.specs.declared.operator.Condition.TheVariants as when
use Rattle.scan_code.specs.declared.op.Op.{Op}
use Rattle.scan_code.specs.declared.op.Op.TheVariants as does
use Rattle.point_types.specs.declared.reading.Reading.{Reading}
use Rattle.point_types.specs.Value.{Value, Fault, WrongType, is_bool, int_eq, truth, inverted, inverted_if, ◌>>=◌}
use Rattle.point_types.specs.declared.variable.Var.{Var}
use Rattle.scan_code.specs.Table.{declared_kind, output_kind, or_wrong, storable, output_value, acts}
use Rattle.il_assemble.specs.Meaning.{Program, Line, Place, InVariable, InOutput, Action, Compute, Store, Set, Jump, Repeat, Return, Outcome, Done, Fails, Aim, Next, Seek, Move, Onward, Back, Stop, Fault', move_of, next_state, stored, kind_of_place, bool_place, continued, repeated, finished, move_from, simple_result, scope_of}
use Rattle.il_assemble.specs.Meaning as source
use Rattle.scan_code.specs.Machine.{State, Step, Goes, Ends, Traps, BadCode, then_goes, on_place, counted, step}
use Rattle.scan_code.specs.Spelling.{spelled}
use Rattle.il_assemble.specs.Code.{store_of, set_of, store_code, return_of, simple_code, past}
use Rattle.il_assemble.specs.Correct.{Has, IsPlace, IsAction, IsCounted}
use Rattle.il_assemble.proofs.Leads.{at, Gives, Gets, step_gives, trap_gives, end_gives, gets_step, gets_move}
use Rattle.il_assemble.proofs.Fetch.{HasAt}
use Rattle.il_assemble.proofs.Simples.{image_with, Stands, at_step, simple_gets}
use Rattle.il_assemble.proofs.Clean.{IsClean, IsCleanOption, AreCleanVariables, AreCleanReadings, both_are, Holds, holds_ok, truth_clean, inverted_clean, inverted_back, simple_clean, with_variable, with_output, stored_result, stored_clean, IsAfter}

-- Storing.

stored_move : (p : Program) (place : Place) (v : Value) (s : source.State) → stored p place v s ≡ move_of (stored_result p place v s) next_state
stored_move p (InVariable i) v s = either (storable (slice_get p.variables i) v)
  where
    either : (x : Result ℤ Fault) → move_of x (λ n. next_state (with_variable s i n)) ≡ move_of (x >>= λ n. Ok (with_variable s i n)) next_state
    either (Ok n) = refl
    either (Err e) = refl
stored_move p (InOutput i) v s = either (output_value (output_kind (slice_get p.tags i)) v)
  where
    either : (x : Result ℤ Fault) → move_of x (λ n. next_state (with_output s i n)) ≡ move_of (x >>= λ n. Ok (with_output s i n)) next_state
    either (Ok n) = refl
    either (Err e) = refl

then_bind : {A B : Type 0} (x : Result A Fault) (f : A → B) (to : B → State) → then_goes x (λ a. Goes (to (f a))) ≡ then_goes (x >>= λ a. Ok (f a)) (λ b. Goes (to b))
then_bind (Ok a) f to = refl
then_bind (Err e) f to = refl

store_variable : (o : Option Var) (r : Option Value) (go : Value → ℤ → source.State) (to : source.State → State) → Has o → on_place o (λ d. then_goes (or_wrong r) (λ v. on_place o (λ d. then_goes (storable (Some d) v) (λ n. Goes (to (go v n)))))) ≡ then_goes (or_wrong r >>= λ v. storable o v >>= λ n. Ok (go v n)) (λ t. Goes (to t))
store_variable None r go to h = absurd h
store_variable (Some d) None go to h = refl
store_variable (Some d) (Some v) go to h = then_bind (storable (Some d) v) (go v) to

store_output : (o : Option IlType) (r : Option Value) (go : Value → ℤ → source.State) (to : source.State → State) → Has o → on_place o (λ k. then_goes (or_wrong r) (λ v. then_goes (output_value (Some k) v) (λ n. Goes (to (go v n))))) ≡ then_goes (or_wrong r >>= λ v. output_value o v >>= λ n. Ok (go v n)) (λ t. Goes (to t))
store_output None r go to h = absurd h
store_output (Some k) None go to h = refl
store_output (Some k) (Some v) go to h = then_bind (output_value (Some k) v) (go v) to

-- S and R

abbrev set_if : Result source.State Fault → source.State → Bool → Result source.State Fault
set_if x s true = x
set_if x s false = Ok s

abbrev pub set_result : Program → Bool → Place → Option Value → source.State → Result source.State Fault
set_result p value place r s = (acts when.IfTrue r >>= λ b. bool_place p place >>= λ _. Ok b) >>= set_if (stored_result p place (truth value) s) s

set_move : (p : Program) (value : Bool) (place : Place) (r : Option Value) (s : source.State) → move_of (acts when.IfTrue r >>= λ b. bool_place p place >>= λ _. Ok b) (λ b. if b then stored p place (truth value) s else next_state s) ≡ move_of (set_result p value place r s) next_state
set_move p value place r s = either (acts when.IfTrue r >>= λ b. bool_place p place >>= λ _. Ok b)
  where
    either : (x : Result Bool Fault) → move_of x (λ b. if b then stored p place (truth value) s else next_state s) ≡ move_of (x >>= set_if (stored_result p place (truth value) s) s) next_state
    either (Ok true) = stored_move p place (truth value) s
    either (Ok false) = refl
    either (Err e) = refl

set_core : (x y z : Bool) (S : Result ℤ Fault) (f : ℤ → source.State) (s : source.State) (to : source.State → State) → then_goes (if x && y then Ok z else Err WrongType) (λ b. if b then then_goes S (λ n. Goes (to (f n))) else Goes (to s)) ≡ then_goes (((if x then Ok z else Err WrongType) >>= λ b. (if y then Ok true else Err WrongType) >>= λ _. Ok b) >>= set_if (S >>= λ n. Ok (f n)) s) (λ t. Goes (to t))
set_core true true true S f s to = then_bind S f to
set_core true true false S f s to = refl
set_core true false z S f s to = refl
set_core false y z S f s to = refl

abbrev set_test : IlType → Value → Result Bool Fault
set_test k r = if is_bool r.kind && is_bool k then Ok (int_eq r.number (pos 1)) else Err WrongType

abbrev bool_kind_of : Option IlType → Result Bool Fault
bool_kind_of o = or_wrong o >>= λ k. if is_bool k then Ok true else Err WrongType

set_variable : (o : Option Var) (r : Option Value) (v : Value) (f : ℤ → source.State) (s : source.State) (to : source.State → State) → Has o → on_place o (λ d. then_goes (or_wrong r >>= set_test d.kind) (λ b. if b then on_place o (λ d. then_goes (storable (Some d) v) (λ n. Goes (to (f n)))) else Goes (to s))) ≡ then_goes ((acts when.IfTrue r >>= λ b. bool_kind_of (option_map declared_kind o) >>= λ _. Ok b) >>= set_if (storable o v >>= λ n. Ok (f n)) s) (λ t. Goes (to t))
set_variable None r v f s to h = absurd h
set_variable (Some d) None v f s to h = refl
set_variable (Some d) (Some u) v f s to h = set_core (is_bool u.kind) (is_bool d.kind) (int_eq u.number (pos 1)) (storable (Some d) v) f s to

set_output : (o : Option IlType) (r : Option Value) (v : Value) (f : ℤ → source.State) (s : source.State) (to : source.State → State) → Has o → on_place o (λ k. then_goes (or_wrong r >>= set_test k) (λ b. if b then then_goes (output_value (Some k) v) (λ n. Goes (to (f n))) else Goes (to s))) ≡ then_goes ((acts when.IfTrue r >>= λ b. bool_kind_of o >>= λ _. Ok b) >>= set_if (output_value o v >>= λ n. Ok (f n)) s) (λ t. Goes (to t))
set_output None r v f s to h = absurd h
set_output (Some k) None v f s to h = refl
set_output (Some k) (Some u) v f s to h = set_core (is_bool u.kind) (is_bool k) (int_eq u.number (pos 1)) (output_value (Some k) v) f s to

module _ (p : Program) (readings : List Reading) (version : ℕ) (code : List ℕ) where
  store_gets : (place : Place) (a : ℕ) (ds : List Value) (r : Option Value) (s : source.State) → IsPlace p place → Stands p readings version code a (store_of place) → Gets (image_with p version code) readings (at a ds r s) (or_wrong r >>= λ v. stored_result p place v s) (λ t. at (a + length (spelled (store_of place))) ds r t)
  store_gets (InVariable i) a ds r s w h =
      gets_step _ _ _ (or_wrong r >>= λ v. stored_result p (InVariable i) v s) (λ t. at (a + 3) ds r t)
      (at_step p readings version code (does.StoreVariable i) a ds r s tt h ∙ store_variable (slice_get p.variables i) r (λ v n. with_variable s i n) (λ t. at (a + 3) ds r t) w)
  store_gets (InOutput i) a ds r s w h =
      gets_step _ _ _ (or_wrong r >>= λ v. stored_result p (InOutput i) v s) (λ t. at (a + 3) ds r t)
      (at_step p readings version code (does.StoreOutput i) a ds r s tt h ∙ store_output (output_kind (slice_get p.tags i)) r (λ v n. with_output s i n) (λ t. at (a + 3) ds r t) w)

  set_gets : (value : Bool) (place : Place) (a : ℕ) (ds : List Value) (r : Option Value) (s : source.State) → IsPlace p place → Stands p readings version code a (set_of value place) → Gets (image_with p version code) readings (at a ds r s) (set_result p value place r s) (λ t. at (past a (set_of value place ∷ [])) ds r t)
  set_gets true (InVariable i) a ds r s w h =
      gets_step _ _ _ (set_result p true (InVariable i) r s) (λ t. at (a + 3) ds r t)
      (at_step p readings version code (does.SetVariable i) a ds r s tt h ∙ set_variable (slice_get p.variables i) r (truth true) (λ n. with_variable s i n) s (λ t. at (a + 3) ds r t) w)
  set_gets false (InVariable i) a ds r s w h =
      gets_step _ _ _ (set_result p false (InVariable i) r s) (λ t. at (a + 3) ds r t)
      (at_step p readings version code (does.ResetVariable i) a ds r s tt h ∙ set_variable (slice_get p.variables i) r (truth false) (λ n. with_variable s i n) s (λ t. at (a + 3) ds r t) w)
  set_gets true (InOutput i) a ds r s w h =
      gets_step _ _ _ (set_result p true (InOutput i) r s) (λ t. at (a + 3) ds r t)
      (at_step p readings version code (does.SetOutput i) a ds r s tt h ∙ set_output (output_kind (slice_get p.tags i)) r (truth true) (λ n. with_output s i n) s (λ t. at (a + 3) ds r t) w)
  set_gets false (InOutput i) a ds r s w h =
      gets_step _ _ _ (set_result p false (InOutput i) r s) (λ t. at (a + 3) ds r t)
      (at_step p readings version code (does.ResetOutput i) a ds r s tt h ∙ set_output (output_kind (slice_get p.tags i)) r (truth false) (λ n. with_output s i n) s (λ t. at (a + 3) ds r t) w)

-- Turns of counted jumps that are left.

abbrev pub left_of : List ℕ → List ℕ → ℕ
left_of [] ts = 0
left_of (l ∷ ls) [] = 0
left_of (l ∷ ls) (t ∷ ts) = (l - t) + left_of ls ts

-- one more is taken
pub one_less : (ls ts : List ℕ) (k l n : ℕ) → slice_get ls k ≡ Some l → slice_get ts k ≡ Some n → n < l → left_of ls (slice_set ts k (n + 1)) + 1 ≡ left_of ls ts
one_less [] ts k l n e f h = absurd (differ e)
  where
    differ : None ≡ Some l → ⊥
    differ x = cc
one_less (m ∷ ls) [] k l n e f h = absurd (differ f)
  where
    differ : None ≡ Some n → ⊥
    differ x = cc
one_less (m ∷ ls) (t ∷ ts) zero l n e f h =
    let a : m ≡ l = cc in
    let b : t ≡ n = cc in
    omega (arith, a, b)
one_less (m ∷ ls) (t ∷ ts) (suc k) l n e f h = omega (arith, one_less ls ts k l n e f h)

count_there : (ls ts : List ℕ) (k l : ℕ) → slice_get ls k ≡ Some l → length ls ≤ length ts → slice_get ts k ≡ Some (get_or ts k 0)
count_there ls ts k l e h = let i = slice_get_within ls k l e in slice_get-get_or ts k 0 (omega arith)

-- where so few turns are left, that the limit is not met
pub record IsReady (p : Program) (turns : ℕ) (s : source.State) : Type 0 where
  pub long : length p.limits ≤ length s.taken
  pub left : left_of p.limits s.taken < turns
  pub result : IsCleanOption s.result
  pub variables : AreCleanVariables p.variables s.variables

ready_after : (p : Program) (turns : ℕ) (s t : source.State) → IsAfter p s t → IsReady p turns s → IsReady p turns t
ready_after p turns s t h r = record {
  long = subst (λ ts. length p.limits ≤ length ts) (sym h.taken) r.long;
  left = subst (λ l. left_of p.limits l < turns) (sym h.taken) r.left;
  result = subst IsCleanOption (sym h.result) r.result;
  variables = h.clean;
}

-- a counted jump's step

abbrev turned : ℕ → ℕ → ℕ → ℕ → ℕ → source.State → Bool → State
turned next to k limit n s false = at next [] s.result s
turned next to k limit n s true = if nat_lt n limit then at to [] s.result (record s { taken = slice_set s.taken k (n + 1) }) else at next [] s.result s

counted_goes : (a next to k limit n : ℕ) (s : source.State) (o : Option ℕ) (b : Bool) → o ≡ Some n → counted next k limit to (at a [] s.result s) b o ≡ Goes (turned next to k limit n s b)
counted_goes a next to k limit n s o false e = refl
counted_goes a next to k limit n s o true e = ap (counted next k limit to (at a [] s.result s) true) e ∙ either (nat_lt n limit)
  where
    either : (c : Bool) → (if c then Goes (at to [] s.result (record s { taken = slice_set s.taken k (n + 1) })) else Goes (at next [] s.result s)) ≡ Goes (if c then at to [] s.result (record s { taken = slice_set s.taken k (n + 1) }) else at next [] s.result s)
    either true = refl
    either false = refl

then_same : {A : Type 0} (x : Result A Fault) (f g : A → Step) → ((a : A) → f a ≡ g a) → then_goes x f ≡ then_goes x g
then_same (Ok a) f g h = h a
then_same (Err e) f g h = refl

or_wrong_some : (r : Option Value) (f : Value → Result Value Fault) (v : Value) → (or_wrong r >>= f) ≡ Ok v → (u : Value) × (r ≡ Some u) × (f u ≡ Ok v)
or_wrong_some None f v e = absurd (differ e)
  where
    differ : Err WrongType ≡ Ok v → ⊥
    differ x = cc
or_wrong_some (Some u) f v e = (u, refl, e)

store_move : (p : Program) (place : Place) (r : Option Value) (s : source.State) → move_of (or_wrong r) (λ v. stored p place v s) ≡ move_of (or_wrong r >>= λ v. stored_result p place v s) next_state
store_move p place None s = refl
store_move p place (Some v) s = stored_move p place v s

or_wrong_same : (r : Option Value) → (or_wrong r >>= inverted_if false) ≡ or_wrong r
or_wrong_same None = refl
or_wrong_same (Some v) = refl

store_clean : (p : Program) (place : Place) (r : Option Value) (s : source.State) → IsCleanOption r → AreCleanVariables p.variables s.variables → Holds (or_wrong r >>= λ v. stored_result p place v s) (IsAfter p s)
store_clean p place None s c h = tt
store_clean p place (Some v) s c h = stored_clean p place v s c h

set_clean : (p : Program) (value : Bool) (place : Place) (r : Option Value) (s : source.State) → AreCleanVariables p.variables s.variables → Holds (set_result p value place r s) (IsAfter p s)
set_clean p value place r s h = either (acts when.IfTrue r >>= λ b. bool_place p place >>= λ _. Ok b)
  where
    either : (x : Result Bool Fault) → Holds (x >>= set_if (stored_result p place (truth value) s) s) (IsAfter p s)
    either (Ok true) = stored_clean p place (truth value) s (truth_clean value) h
    either (Ok false) = record { result = refl; taken = refl; clean = h }
    either (Err e) = tt

module _ (p : Program) (readings : List Reading) (version : ℕ) (code : List ℕ) (address : ℕ → ℕ) (reads : AreCleanReadings p.tags readings) (versioned : (k l : ℕ) → slice_get p.limits k ≡ Some l → version ≡ 2) where
  abbrev pub Leads : ℕ → source.State → Outcome → Type 0
  Leads a s o = Gives (image_with p version code) readings (at a [] s.result s) o

  -- an instruction stands in the code at an address
  abbrev pub Here : ℕ → Op → Type 0
  Here a i = Stands p readings version code a i

  module _ (turns : ℕ) (again : ℕ → source.State → Outcome) (again_runs : (label : ℕ) (s : source.State) → IsReady p turns s → Leads (address label) s (again label s)) (onward : Aim → source.State → Outcome) where
    -- where evaluation goes on with the next line at an address
    abbrev pub NextRuns : ℕ → Type 0
    NextRuns b = (s : source.State) → IsReady p (suc turns) s → Leads b s (onward Next s)

    pub store_runs : (negated : Bool) (place : Place) (a : ℕ) (s : source.State) → IsPlace p place → HasAt code a (store_code negated place) → NextRuns (past a (store_code negated place)) → IsReady p (suc turns) s → Leads a s (continued again onward (move_from p readings (Some (Store negated place)) s))
    store_runs false place a s w h next ready =
        let r = s.result in
        let b = past a (store_of place ∷ []) in
        let x = or_wrong r >>= λ v. stored_result p place v s in
        subst (λ m. Leads a s (continued again onward m)) (sym (ap (λ y. move_of y (λ v. stored p place v s)) (or_wrong_same r) ∙ store_move p place r s))
        (gets_move _ _ again onward _ x (λ t. at b [] r t) next_state (store_gets p readings version code place a [] r s w h.0)
        (λ t e. let after = holds_ok x (IsAfter p s) t e (store_clean p place r s ready.result ready.variables) in
        subst (λ r. Gives (image_with p version code) readings (at b [] r t) (onward Next t)) after.result (next t (ready_after p (suc turns) s t after ready))))
    store_runs true place a s w h next ready =
        let r = s.result in
        let b = past (a + 1) (store_of place ∷ []) in
        gets_move _ _ again onward _ (or_wrong r >>= inverted) (λ v. at (a + 1) [] (Some v) s) (λ v. stored p place v s)
        (gets_step _ _ _ (or_wrong r >>= inverted) (λ v. at (a + 1) [] (Some v) s) (at_step p readings version code does.Not a [] r s tt h.0))
        (λ v e.
        let y = or_wrong_some r inverted v e in
        let clean_u : IsClean y.0 = subst IsCleanOption y.1 ready.result in
        let clean_v : IsClean v = holds_ok (inverted y.0) IsClean v y.2 (inverted_clean y.0) in
        subst (λ m. Gives (image_with p version code) readings (at (a + 1) [] (Some v) s) (continued again onward m)) (sym (stored_move p place v s))
        (gets_move _ _ again onward _ (stored_result p place v s) (λ t. at b [] (Some v) t) next_state (store_gets p readings version code place (a + 1) [] (Some v) s w h.1.0)
        (λ t f.
        let after = holds_ok (stored_result p place v s) (IsAfter p s) t f (stored_clean p place v s clean_v ready.variables) in
        step_gives _ _ (at b [] (Some v) t) (at (b + 1) [] (Some y.0) t) (onward Next t)
        (at_step p readings version code does.Not b [] (Some v) t tt h.1.1.0 ∙ ap (λ z. then_goes z (λ u. Goes (at (b + 1) [] (Some u) t))) (inverted_back y.0 v clean_u y.2))
        (subst (λ r. Gives (image_with p version code) readings (at (b + 1) [] r t) (onward Next t)) (after.result ∙ y.1) (next t (ready_after p (suc turns) s t after ready))))))

    pub set_runs : (value : Bool) (place : Place) (a : ℕ) (s : source.State) → IsPlace p place → Here a (set_of value place) → NextRuns (past a (set_of value place ∷ [])) → IsReady p (suc turns) s → Leads a s (continued again onward (move_from p readings (Some (Set value place)) s))
    set_runs value place a s w h next ready =
        let b = past a (set_of value place ∷ []) in
        subst (λ m. Leads a s (continued again onward m)) (sym (set_move p value place s.result s))
        (gets_move _ _ again onward _ (set_result p value place s.result s) (λ t. at b [] s.result t) next_state (set_gets p readings version code value place a [] s.result s w h)
        (λ t e. let after = holds_ok (set_result p value place s.result s) (IsAfter p s) t e (set_clean p value place s.result s ready.variables) in
        subst (λ r. Gives (image_with p version code) readings (at b [] r t) (onward Next t)) after.result (next t (ready_after p (suc turns) s t after ready))))

    pub compute_runs : (t : source.Simple) (a : ℕ) (s : source.State) → IsAction p [] (Some (Compute t)) → HasAt code a (simple_code t) → NextRuns (past a (simple_code t)) → IsReady p (suc turns) s → Leads a s (continued again onward (move_from p readings (Some (Compute t)) s))
    compute_runs t a s w h next ready =
        gets_move _ _ again onward _ (simple_result (scope_of p readings s) t s.result) _ _ (simple_gets p readings version code t a [] s.result s w.0 (omega (arith, w.1)) h)
        (λ v e. next (record s { result = Some v }) (record {
          long = ready.long;
          left = ready.left;
          result = holds_ok (simple_result (scope_of p readings s) t s.result) IsClean v e (simple_clean p readings reads t s.result s w.0 ready.variables ready.result);
          variables = ready.variables;
        }))

    pub jump_runs : (condition : Condition) (label a : ℕ) (s : source.State) → a < address label → Here a (does.Jump condition (address label)) → NextRuns (a + 3) → Leads (address label) s (onward (Seek label) s) → IsReady p (suc turns) s → Leads a s (continued again onward (move_from p readings (Some (Jump condition label)) s))
    jump_runs condition label a s later h next seek ready =
        gets_move _ _ again onward _ (acts condition s.result) (λ b. at (if b then address label else a + 3) [] s.result s) (λ b. if b then Onward (Seek label) s else next_state s)
        (gets_step _ _ _ (acts condition s.result) (λ b. at (if b then address label else a + 3) [] s.result s)
        (at_step p readings version code (does.Jump condition (address label)) a [] s.result s tt h
        ∙ ap (λ z. if z then then_goes (acts condition s.result) (λ b. Goes (at (if b then address label else a + 3) [] s.result s)) else Traps BadCode) (lt-ltb a (address label) later)))
        (λ b e. either b)
      where
        either : (b : Bool) → Gives (image_with p version code) readings (at (if b then address label else a + 3) [] s.result s) (continued again onward (if b then Onward (Seek label) s else next_state s))
        either true = seek
        either false = next s ready

    pub repeat_runs : (condition : Condition) (label k limit a : ℕ) (s : source.State) → address label ≤ a → IsCounted p k limit → Here a (does.Repeat condition k limit (address label)) → NextRuns (a + 5) → IsReady p (suc turns) s → Leads a s (continued again onward (move_from p readings (Some (Repeat condition label k limit)) s))
    repeat_runs condition label k limit a s before w h next ready =
        gets_move _ _ again onward _ (acts condition s.result) goes (λ b. repeated b label k (slice_get s.taken k) limit s)
        (gets_step _ _ _ (acts condition s.result) goes
        (at_step p readings version code (does.Repeat condition k limit (address label)) a [] s.result s w.some h
        ∙ ap (λ z. if z then then_goes (acts condition s.result) (λ b. counted (a + 5) k limit (address label) (at a [] s.result s) b (slice_get s.taken k)) else Traps BadCode) guard
        ∙ then_same (acts condition s.result) _ _ (λ b. counted_goes a (a + 5) (address label) k limit (get_or s.taken k 0) s (slice_get s.taken k) b there)))
        (λ b e. subst (λ o. Gives (image_with p version code) readings (goes b) (continued again onward (repeated b label k o limit s))) (sym there) (either b))
      where
        goes : Bool → State
        goes = turned (a + 5) (address label) k limit (get_or s.taken k 0) s

        there : slice_get s.taken k ≡ Some (get_or s.taken k 0)
        there = count_there p.limits s.taken k limit w.listed ready.long

        guard : (nat_eq version 2 && nat_le (address label) a) ≡ true
        guard = both_are (eq-eqb version 2 (versioned k limit w.listed)) (le-leb (address label) a before)

        after : source.State
        after = record s { taken = slice_set s.taken k (get_or s.taken k 0 + 1) }

        taken : (c : Bool) → nat_lt (get_or s.taken k 0) limit ≡ c → Gives (image_with p version code) readings (if c then at (address label) [] s.result after else at (a + 5) [] s.result s) (continued again onward (if c then Back label after else next_state s))
        taken true e = again_runs label after (record {
          long = omega (arith, length-set s.taken k (get_or s.taken k 0 + 1), ready.long);
          left = omega (arith, one_less p.limits s.taken k limit (get_or s.taken k 0) w.listed there (ltb-true _ _ e), ready.left);
          result = ready.result;
          variables = ready.variables;
        })
        taken false e = next s ready

        either : (b : Bool) → Gives (image_with p version code) readings (goes b) (continued again onward (repeated b label k (Some (get_or s.taken k 0)) limit s))
        either true = taken (nat_lt (get_or s.taken k 0) limit) refl
        either false = next s ready

    returns_if : (x : Result Bool Fault) (a : ℕ) (s : source.State) → step (image_with p version code) readings (at a [] s.result s) ≡ then_goes x (λ b. if b then Ends (at a [] s.result s) else Goes (at (a + 1) [] s.result s)) → NextRuns (a + 1) → IsReady p (suc turns) s → Leads a s (continued again onward (move_of x (λ b. if b then Stop s else next_state s)))
    returns_if (Ok true) a s e next ready = end_gives _ _ (at a [] s.result s) e
    returns_if (Ok false) a s e next ready = step_gives _ _ (at a [] s.result s) (at (a + 1) [] s.result s) (onward Next s) e (next s ready)
    returns_if (Err f) a s e next ready = trap_gives _ _ (at a [] s.result s) f e

    pub return_runs : (condition : Condition) (a : ℕ) (s : source.State) → Here a (return_of condition) → NextRuns (a + 1) → IsReady p (suc turns) s → Leads a s (continued again onward (move_from p readings (Some (Return condition)) s))
    return_runs when.Always a s h next ready = end_gives _ _ (at a [] s.result s) (at_step p readings version code does.End a [] s.result s tt h)
    return_runs when.IfTrue a s h next ready = returns_if (acts when.IfTrue s.result) a s (at_step p readings version code (does.Return when.IfTrue) a [] s.result s tt h) next ready
    return_runs when.IfFalse a s h next ready = returns_if (acts when.IfFalse s.result) a s (at_step p readings version code (does.Return when.IfFalse) a [] s.result s tt h) next ready
