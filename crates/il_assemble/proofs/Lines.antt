-- The code of the lines, and of a whole program.
use Rattle.std.proofs.Common.{◌≡◌, ℕ, zero, suc, ◌+◌, ◌<◌, ◌≤◌, Bool, true, false, not, ◌||◌, if◌then◌else◌, ℤ, List, [], ◌∷◌, length, replicate, sum, Option, Some, None, slice_get, refl, sym, ap, ◌∙◌, subst, ⊎_elim, arith, true≢false}
use Rattle.std.proofs.lemmas.Bool.{cases_lt}
use Rattle.std.proofs.lemmas.List.{length-replicate}
use Rattle.std.proofs.lemmas.List.Sums.{sum_by-cons}
use Rattle.point_types.specs.declared.operator.Condition.TheVariants as when
use Rattle.scan_code.specs.declared.op.Op.{Op}
use Rattle.scan_code.specs.declared.op.Op.TheVariants as does
use Rattle.point_types.specs.declared.reading.Reading.{Reading}
use Rattle.il_assemble.specs.Meaning.{Program, Line, Action, Compute, Store, Set, Jump, Repeat, Return, Outcome, Done, Fails, Aim, Next, Seek, State, has_label, continued, move_from, walked, turns_from, opening, meaning}
use Rattle.scan_code.specs.Image.{Image}
use Rattle.scan_code.specs.Table.{no_turns}
use Rattle.scan_code.specs.Machine.{Ending, State as State', opening as opening', run, after_step, Step, Goes, Ends, Traps, step}
use Rattle.scan_code.specs.Spelling.{spelled, spelled_all}
use Rattle.il_assemble.specs.Code.{image_of, action_code, lines_code, past, label_address, code_of_program, version_of}
use Rattle.il_assemble.specs.Correct.{EndsAs, IsAction, AreLines, stands, CodeDoesWhatTheProgramMeans, IsOver, RunsThatAreOverStayOver, EachEndIsTheMeaning}
use Rattle.il_assemble.proofs.Leads.{at, end_gives}
use Rattle.il_assemble.proofs.Fetch.{HasAt, has_front, has_back, has_all}
use Rattle.il_assemble.proofs.Simples.{at_step}
use Rattle.il_assemble.proofs.Clean.{AreCleanReadings, AreCleanVariables, readings_clean, variables_clean}
use Rattle.il_assemble.proofs.Actions.{left_of, IsReady, Leads, store_runs, set_runs, compute_runs, jump_runs, repeat_runs, return_runs}

-- Addresses.

pub past_grows : (a : ℕ) (is : List Op) → a ≤ past a is
past_grows a [] = omega arith
past_grows a (i ∷ is) = let h = past_grows (a + length (spelled i)) is in omega arith

-- the size depends on the form alone
pub same_size : (address : ℕ → ℕ) (action : Option Action) (a : ℕ) → past a (action_code address action) ≡ past a (action_code (λ l. 0) action)
same_size address None a = refl
same_size address (Some (Compute t)) a = refl
same_size address (Some (Store negated place)) a = refl
same_size address (Some (Set value place)) a = refl
same_size address (Some (Jump condition label)) a = refl
same_size address (Some (Repeat condition label counter limit)) a = refl
same_size address (Some (Return condition)) a = refl

label_past : (lines : List Line) (a label : ℕ) → a ≤ label_address lines a label
label_past [] a label = omega arith
label_past (line ∷ lines) a label = either (label_past lines (past a (action_code (λ l. 0) line.action)) label) (has_label line.label label)
  where
    either : past a (action_code (λ l. 0) line.action) ≤ label_address lines (past a (action_code (λ l. 0) line.action)) label → (b : Bool) → a ≤ (if b then a else label_address lines (past a (action_code (λ l. 0) line.action)) label)
    either h true = omega arith
    either h false = omega (arith, past_grows a (action_code (λ l. 0) line.action), h)

-- a label that stands on no earlier line is looked for from here on, and one that does lies after
record IsPlaced (address : ℕ → ℕ) (earlier lines : List Line) (a : ℕ) : Type 0 where
  later : (label : ℕ) → stands label earlier ≡ false → address label ≡ label_address lines a label
  before : (label : ℕ) → stands label earlier ≡ true → address label ≤ a

module _ (address : ℕ → ℕ) (earlier : List Line) (line : Line) (lines : List Line) (a : ℕ) (placed : IsPlaced address earlier (line ∷ lines) a) where
  later_now : (label : ℕ) → stands label (line ∷ earlier) ≡ false → address label ≡ label_address lines (past a (action_code (λ l. 0) line.action)) label
  later_now label h = either (has_label line.label label) refl h
    where
      next : ℕ
      next = label_address lines (past a (action_code (λ l. 0) line.action)) label

      either : (b : Bool) → has_label line.label label ≡ b → (b || stands label earlier) ≡ false → address label ≡ next
      either true e f = absurd (true≢false f)
      either false e f = placed.later label f ∙ ap (λ c. if c then a else next) e

  before_now : (label : ℕ) → stands label (line ∷ earlier) ≡ true → address label ≤ a
  before_now label h = either (has_label line.label label) (stands label earlier) refl refl h
    where
      either : (b c : Bool) → has_label line.label label ≡ b → stands label earlier ≡ c → (b || c) ≡ true → address label ≤ a
      either b true e f g = placed.before label f
      either true false e f g =
          let same : address label ≡ a = placed.later label f ∙ ap (λ c. if c then a else label_address lines (past a (action_code (λ l. 0) line.action)) label) e in
          omega arith
      either false false e f g = absurd (true≢false (sym g))

  placed_next : IsPlaced address (line ∷ earlier) lines (past a (action_code (λ l. 0) line.action))
  placed_next = record {
    later = later_now;
    before = λ label h. let x = before_now label h in omega (arith, past_grows a (action_code (λ l. 0) line.action));
  }

abbrev aimed : List Line → ℕ → Aim → ℕ
aimed lines a Next = a
aimed lines a (Seek label) = label_address lines a label

module _ (p : Program) (readings : List Reading) (version : ℕ) (code : List ℕ) (address : ℕ → ℕ) (reads : AreCleanReadings p.tags readings) (versioned : (k l : ℕ) → slice_get p.limits k ≡ Some l → version ≡ 2) where
  abbrev Comes : ℕ → State → Outcome → Type 0
  Comes a s o = Leads p readings version code address reads versioned a s o

  module _ (turns : ℕ) (again : ℕ → State → Outcome) (again_runs : (label : ℕ) (s : State) → IsReady p turns s → Comes (address label) s (again label s)) where
    action_runs : (onward : Aim → State → Outcome) (action : Option Action) (earlier lines : List Line) (a : ℕ) (s : State) → IsAction p earlier action → ((label : ℕ) → stands label earlier ≡ false → address label ≡ label_address lines (past a (action_code (λ l. 0) action)) label) → ((label : ℕ) → stands label earlier ≡ true → address label ≤ a) → HasAt code a (action_code address action) → ((t : State) → IsReady p (suc turns) t → Comes (past a (action_code (λ l. 0) action)) t (onward Next t)) → ((label : ℕ) → Comes (label_address lines (past a (action_code (λ l. 0) action)) label) s (onward (Seek label) s)) → IsReady p (suc turns) s → Comes a s (continued again onward (move_from p readings action s))
    action_runs onward None earlier lines a s w later before h next seek ready = next s ready
    action_runs onward (Some (Compute t)) earlier lines a s w later before h next seek ready = compute_runs p readings version code address reads versioned turns again again_runs onward t a s w h next ready
    action_runs onward (Some (Store negated place)) earlier lines a s w later before h next seek ready = store_runs p readings version code address reads versioned turns again again_runs onward negated place a s w h next ready
    action_runs onward (Some (Set value place)) earlier lines a s w later before h next seek ready = set_runs p readings version code address reads versioned turns again again_runs onward value place a s w h.0 next ready
    action_runs onward (Some (Jump condition label)) earlier lines a s w later before h next seek ready =
        let e = later label w in
        let on : a < address label = omega (arith, e, label_past lines (a + 3) label) in
        jump_runs p readings version code address reads versioned turns again again_runs onward condition label a s on h.0 next (subst (λ n. Comes n s (onward (Seek label) s)) (sym e) (seek label)) ready
    action_runs onward (Some (Repeat condition label k limit)) earlier lines a s w later before h next seek ready =
        repeat_runs p readings version code address reads versioned turns again again_runs onward condition label k limit a s (before label w.0) w.1 h.0 next ready
    action_runs onward (Some (Return when.Always)) earlier lines a s w later before h next seek ready = return_runs p readings version code address reads versioned turns again again_runs onward when.Always a s h.0 next ready
    action_runs onward (Some (Return when.IfTrue)) earlier lines a s w later before h next seek ready = return_runs p readings version code address reads versioned turns again again_runs onward when.IfTrue a s h.0 next ready
    action_runs onward (Some (Return when.IfFalse)) earlier lines a s w later before h next seek ready = return_runs p readings version code address reads versioned turns again again_runs onward when.IfFalse a s h.0 next ready

    walk_runs : (earlier lines : List Line) (a : ℕ) → AreLines p earlier lines → IsPlaced address earlier lines a → HasAt code a (lines_code address lines) → (aim : Aim) (s : State) → IsReady p (suc turns) s → Comes (aimed lines a aim) s (walked p readings again lines aim s)
    walk_runs earlier [] a w placed h Next s ready = end_gives _ _ (at a [] s.result s) (at_step p readings version code does.End a [] s.result s tt h.0)
    walk_runs earlier [] a w placed h (Seek label) s ready = end_gives _ _ (at a [] s.result s) (at_step p readings version code does.End a [] s.result s tt h.0)
    walk_runs earlier (line ∷ lines) a w placed h aim s ready =
        here (λ aim t r. walk_runs (line ∷ earlier) lines (past a (action_code (λ l. 0) line.action)) w.1 (placed_next address earlier line lines a placed) (subst (λ n. HasAt code n (lines_code address lines)) (same_size address line.action a) (has_back code a (action_code address line.action) (lines_code address lines) h)) aim t r) aim
      where
        now : ((aim : Aim) (t : State) → IsReady p (suc turns) t → Comes (aimed lines (past a (action_code (λ l. 0) line.action)) aim) t (walked p readings again lines aim t)) → Comes a s (continued again (walked p readings again lines) (move_from p readings line.action s))
        now rest = action_runs (walked p readings again lines) line.action (line ∷ earlier) lines a s w.0 (later_now address earlier line lines a placed) (before_now address earlier line lines a placed) (has_front code a (action_code address line.action) (lines_code address lines) h) (λ t r. rest Next t r) (λ label. rest (Seek label) s ready) ready

        either : ((aim : Aim) (t : State) → IsReady p (suc turns) t → Comes (aimed lines (past a (action_code (λ l. 0) line.action)) aim) t (walked p readings again lines aim t)) → (label : ℕ) (c : Bool) → Comes (if c then a else label_address lines (past a (action_code (λ l. 0) line.action)) label) s (if not c then walked p readings again lines (Seek label) s else continued again (walked p readings again lines) (move_from p readings line.action s))
        either rest label true = now rest
        either rest label false = rest (Seek label) s ready

        here : ((aim : Aim) (t : State) → IsReady p (suc turns) t → Comes (aimed lines (past a (action_code (λ l. 0) line.action)) aim) t (walked p readings again lines aim t)) → (aim : Aim) → Comes (aimed (line ∷ lines) a aim) s (walked p readings again (line ∷ lines) aim s)
        here rest Next = now rest
        here rest (Seek label) = either rest label (has_label line.label label)

-- A whole program.

module _ (p : Program) (readings : List Reading) (version : ℕ) (code : List ℕ) (reads : AreCleanReadings p.tags readings) (versioned : (k l : ℕ) → slice_get p.limits k ≡ Some l → version ≡ 2) (lines : AreLines p [] p.body) (has : HasAt code 0 (code_of_program p)) where
  from_start : IsPlaced (label_address p.body 0) [] p.body 0
  from_start = record { later = λ label e. refl; before = λ label e. absurd (true≢false (sym e)) }

  turns_run : (turns : ℕ) (label : ℕ) (s : State) → IsReady p turns s → Comes p readings version code (label_address p.body 0) reads versioned (label_address p.body 0 label) s (turns_from p readings turns label s)
  turns_run zero label s ready = let h = ready.left in absurd (omega arith)
  turns_run (suc turns) label s ready =
      walk_runs p readings version code (label_address p.body 0) reads versioned turns (turns_from p readings turns) (turns_run turns) [] p.body 0 lines from_start has (Seek label) s ready

  scan_runs : (s : State) → IsReady p (suc (sum p.limits)) s → Comes p readings version code (label_address p.body 0) reads versioned 0 s (walked p readings (turns_from p readings (sum p.limits)) p.body Next s)
  scan_runs s ready =
      walk_runs p readings version code (label_address p.body 0) reads versioned (sum p.limits) (turns_from p readings (sum p.limits)) (turns_run (sum p.limits)) [] p.body 0 lines from_start has Next s ready

versions : (limits : List ℕ) (k l : ℕ) → slice_get limits k ≡ Some l → version_of limits ≡ 2
versions [] k l e = absurd (differ e)
  where
    differ : None ≡ Some l → ⊥
    differ x = cc
versions (m ∷ limits) k l e = refl

none_taken : (limits : List ℕ) (n : ℕ) → length limits ≤ n → left_of limits (replicate n 0) ≡ sum limits
none_taken [] n h = refl
none_taken (l ∷ ls) zero h = absurd (omega arith)
none_taken (l ∷ ls) (suc n) h =
    let e : sum (l ∷ ls) ≡ l + sum ls = sum_by-cons (λ x. x) l ls in
    omega (arith, none_taken ls n (omega arith), e)

no_turns_left : (limits : List ℕ) → length limits ≤ 256 → left_of limits no_turns ≡ sum limits
unfolding no_turns
no_turns_left limits h = none_taken limits 256 h

length-no_turns : length no_turns ≡ 256
unfolding no_turns
length-no_turns = length-replicate {A = ℕ} 256 0

open_ready : (p : Program) (variables : List ℤ) → length p.limits ≤ 256 → AreCleanVariables p.variables variables → IsReady p (suc (sum p.limits)) (opening p variables)
open_ready p variables few clean = record {
  long = omega (arith, length-no_turns);
  left = let e = no_turns_left p.limits few in omega arith;
  result = tt;
  variables = clean;
}

pub code_does_what_the_program_means : CodeDoesWhatTheProgramMeans
code_does_what_the_program_means p readings variables well reads ranges =
    (scan_runs p readings (version_of p.limits) (spelled_all (code_of_program p)) (readings_clean p.tags readings reads) (versions p.limits) well.lines (has_all (code_of_program p) [])
    (opening p variables) (open_ready p variables well.few_limits (variables_clean p.variables variables well.declared ranges))).by 0

-- A run that is over.

longer_step : (f g : State' → Ending) (before : ℕ) (x : Step) → ((s : State') → IsOver (f s) → g s ≡ f s) → IsOver (after_step f before x) → after_step g before x ≡ after_step f before x
longer_step f g before (Goes s) h over = h s over
longer_step f g before (Ends s) h over = refl
longer_step f g before (Traps trap) h over = refl

longer : (image : Image) (readings : List Reading) (m n before : ℕ) → m ≤ n → (s : State') → IsOver (run image readings before m s) → run image readings before n s ≡ run image readings before m s
longer image readings zero n before le s over = absurd over
longer image readings (suc m) zero before le s over = absurd (omega arith)
longer image readings (suc m) (suc n) before le s over =
    longer_step (run image readings (before + 1) m) (run image readings (before + 1) n) before (step image readings s) (λ t. longer image readings m n (before + 1) (omega arith) t) over

pub runs_that_are_over_stay_over : RunsThatAreOverStayOver
runs_that_are_over_stay_over image readings before m n s le over = longer image readings m n before le s over

ends_over : (e : Ending) (o : Outcome) → EndsAs e o → IsOver e
ends_over e (Done variables outputs) h = subst IsOver (sym h.2) tt
ends_over e (Fails fault) h = subst IsOver (sym h.1) tt

pub each_end_is_the_meaning : EachEndIsTheMeaning
each_end_is_the_meaning p readings variables well reads ranges n over =
    let t = code_does_what_the_program_means p readings variables well reads ranges in
    let s = opening' (image_of p) variables in
    let o = meaning p readings variables in
    ⊎_elim
    (λ lt. subst (λ e. EndsAs e o) (sym (longer (image_of p) readings t.0 n 0 (omega arith) s (ends_over (run (image_of p) readings 0 t.0 s) o t.1))) t.1)
    (λ le. subst (λ e. EndsAs e o) (longer (image_of p) readings n t.0 0 le s over) t.1)
    (cases_lt t.0 n)
