-- Where the machine comes to, from one state to the next.
use Rattle.std.proofs.Common.{◌≡◌, ℕ, zero, suc, ◌+◌, List, [], ◌∷◌, ◌++◌, length, Option, Result, Ok, Err, refl, sym, ap, ◌∙◌, subst}
use Rattle.scan_code.specs.declared.op.Op.{Op}
use Rattle.point_types.specs.declared.reading.Reading.{Reading}
use Rattle.point_types.specs.Value.{Value, Fault, ◌>>=◌}
use Rattle.il_assemble.specs.Meaning.{Outcome, Done, Fails, Move, move_of, continued, Aim}
use Rattle.il_assemble.specs.Meaning as source
use Rattle.scan_code.specs.Image.{Image}
use Rattle.scan_code.specs.Machine.{State, Goes, Ends, Traps, At_fault, then_goes, step, after_step, run}
use Rattle.scan_code.specs.Spelling.{spelled}
use Rattle.il_assemble.specs.Code.{past}
use Rattle.il_assemble.specs.Correct.{EndsAs}

-- goes on with a result, or fails
abbrev pub outcome_of : {A : Type 0} → Result A Fault → (A → Outcome) → Outcome
outcome_of (Ok a) go = go a
outcome_of (Err e) go = Fails e

bind_outcome : {A B : Type 0} (x : Result A Fault) (f : A → Result B Fault) (go : B → Outcome) → outcome_of (x >>= f) go ≡ outcome_of x (λ a. outcome_of (f a) go)
bind_outcome (Ok a) f go = refl
bind_outcome (Err e) f go = refl

move_outcome : {A : Type 0} (again : ℕ → source.State → Outcome) (onward : Aim → source.State → Outcome) (x : Result A Fault) (go : A → Move) → outcome_of x (λ a. continued again onward (go a)) ≡ continued again onward (move_of x go)
move_outcome again onward (Ok a) go = refl
move_outcome again onward (Err e) go = refl

-- a state of the machine at an address, with values deferred, a result, and the rest of the meaning's state
abbrev pub at : ℕ → List Value → Option Value → source.State → State
at a ds r s = record { address = a; result = r; deferred = ds; variables = s.variables; outputs = s.outputs; taken = s.taken }

-- the code after instructions that stand one after the other
pub past_append : (a : ℕ) (is js : List Op) → past a (is ++ js) ≡ past (past a is) js
past_append a [] js = refl
past_append a (i ∷ is) js = past_append (a + length (spelled i)) is js

module _ (image : Image) (readings : List Reading) where
  -- the machine ends as an outcome says
  pub record Gives (c : State) (o : Outcome) : Type 0 where
    pub by : (before : ℕ) → (n : ℕ) × EndsAs (run image readings before n c) o

  -- the machine gets a result and goes on from there, or fails
  pub record Gets {A : Type 0} (c : State) (x : Result A Fault) (to : A → State) : Type 0 where
    pub by : (go : A → Outcome) → ((a : A) → x ≡ Ok a → Gives (to a) (go a)) → Gives c (outcome_of x go)

  pub step_gives : (c c' : State) (o : Outcome) → step image readings c ≡ Goes c' → Gives c' o → Gives c o
  step_gives c c' o e g = record { by = λ b. let r = g.by (b + 1) in (suc r.0, subst (λ x. EndsAs x o) (sym (ap (after_step (run image readings (b + 1) r.0) b) e)) r.1) }

  pub trap_gives : (c : State) (f : Fault) → step image readings c ≡ Traps (At_fault f) → Gives c (Fails f)
  trap_gives c f e = record { by = λ b. (suc zero, (b, ap (after_step (run image readings (b + 1) zero) b) e)) }

  pub end_gives : (c : State) → step image readings c ≡ Ends c → Gives c (Done c.variables c.outputs)
  end_gives c e = record { by = λ b. (suc zero, (b + 1, c, ap (after_step (run image readings (b + 1) zero) b) e, refl, refl)) }

  pub gets_done : {A : Type 0} (v : A) (to : A → State) → Gets (to v) (Ok v) to
  gets_done v to = record { by = λ go k. k v refl }

  pub gets_goes : {A : Type 0} (c c' : State) (x : Result A Fault) (to : A → State) → step image readings c ≡ Goes c' → Gets c' x to → Gets c x to
  gets_goes c c' x to e g = record { by = λ go k. step_gives c c' (outcome_of x go) e (g.by go k) }

  pub gets_step : {A : Type 0} (c : State) (x : Result A Fault) (to : A → State) → step image readings c ≡ then_goes x (λ a. Goes (to a)) → Gets c x to
  gets_step c (Ok a) to e = record { by = λ go k. step_gives c (to a) (go a) e (k a refl) }
  gets_step c (Err f) to e = record { by = λ go k. trap_gives c f e }

  pub gets_bind : {A B : Type 0} (c : State) (x : Result A Fault) (f : A → Result B Fault) (mid : A → State) (to : B → State) → Gets c x mid → ((a : A) → Gets (mid a) (f a) to) → Gets c (x >>= f) to
  gets_bind c x f mid to g h = record {
    by = λ go k.
        subst (Gives c) (sym (bind_outcome x f go)) (g.by (λ a. outcome_of (f a) go) (λ a e. (h a).by go (λ b e'. k b (ap (λ y. y >>= f) e ∙ e'))));
  }

  -- at a line
  pub gets_move : {A : Type 0} (again : ℕ → source.State → Outcome) (onward : Aim → source.State → Outcome) (c : State) (x : Result A Fault) (to : A → State) (go : A → Move) → Gets c x to → ((a : A) → x ≡ Ok a → Gives (to a) (continued again onward (go a))) → Gives c (continued again onward (move_of x go))
  gets_move again onward c x to go g k = subst (Gives c) (move_outcome again onward x go) (g.by (λ a. continued again onward (go a)) k)
