-- The code of what works on the current result alone.
use Rattle.std.proofs.Common.{◌≡◌, ℕ, zero, suc, ◌+◌, ◌<◌, ◌≤◌, Bool, true, false, if◌then◌else◌, ℤ, pos, negsuc, List, [], ◌∷◌, ◌++◌, length, Option, Some, None, Result, Ok, Err, slice_get, refl, sym, ap, ◌∙◌, subst, arith, lt-ltb, leb-true, true≢false}
use Rattle.point_types.specs.declared.il_type.IlType.{IlType}
use Rattle.point_types.specs.declared.il_type.IlType.TheVariants as il
use Rattle.point_types.specs.declared.operator.Operator.{Operator}
use Rattle.point_types.specs.declared.operator.Operator.TheVariants as op
use Rattle.scan_code.specs.declared.op.Op.{Op}
use Rattle.scan_code.specs.declared.op.Op.TheVariants as does
use Rattle.point_types.specs.declared.reading.Reading.{Reading}
use Rattle.point_types.specs.Value.{Value, Fault, low_of, high_of, is_within, int_eq, truth, number_of, applied, inverted, inverted_if, ◌>>=◌}
use Rattle.point_types.specs.declared.variable.Var.{Var}
use Rattle.scan_code.specs.Table.{input_kind, or_wrong, declared_value, read_value, is_present, selected, absolute_of, converted}
use Rattle.scan_code.specs.Instruction.{decoded_at}
use Rattle.il_assemble.specs.Meaning.{Program, Scope, Source, Variable, Input, Presence, Constant, Simple, Load, Apply, Defer, Limit, Select, Invert, Absolute, Convert, Inner, Close, Then, value_of, optional_value, operand_applied, simple_result, inner_result, scope_of}
use Rattle.il_assemble.specs.Meaning as source
use Rattle.scan_code.specs.Image.{Image}
use Rattle.scan_code.specs.Machine.{State, Step, Goes, Traps, NoDeferred, then_goes, on_place, done, decoded_step, step}
use Rattle.scan_code.specs.Spelling.{spelled}
use Rattle.il_assemble.specs.Code.{constant_of, load_of, not_code, start_code, simple_code, inner_code, past}
use Rattle.il_assemble.specs.Correct.{Has, IsSource, IsStart, IsSimple, IsInner, depth_of, inner_depth}
use Rattle.il_assemble.proofs.Leads.{at, past_append, Gets, gets_done, gets_step, gets_bind}
use Rattle.scan_code.specs.Spelling.{IsFine}
use Rattle.scan_code.proofs.Fetch.{within_parts}
use Rattle.il_assemble.proofs.Fetch.{HasAt, has_front, has_back}

variable_loaded : (o : Option Var) (n : Option ℤ) (go : Value → Step) → Has o → on_place o (λ d. then_goes (declared_value (Some d) n) go) ≡ then_goes (declared_value o n) go
variable_loaded None n go h = absurd h
variable_loaded (Some d) n go h = refl

input_loaded : (o : Option IlType) (r : Option Reading) (go : Value → Step) → Has o → on_place o (λ k. then_goes (read_value (Some k) r) go) ≡ then_goes (read_value o r) go
input_loaded None r go h = absurd h
input_loaded (Some k) r go h = refl

place_there : {A : Type 0} (o : Option A) (go : Step) → Has o → on_place o (λ a. go) ≡ go
place_there None go h = absurd h
place_there (Some a) go h = refl

pub bool_number : (n : ℤ) → is_within (pos 0) (pos 1) n ≡ true → number_of (int_eq n (pos 1)) ≡ n
bool_number (pos zero) h = refl
bool_number (pos (suc zero)) h = refl
bool_number (pos (suc (suc n))) h = let l = leb-true (suc (suc n)) 1 (within_parts (pos 0) (pos 1) (pos (suc (suc n))) h).1 in absurd (omega arith)
bool_number (negsuc n) h = absurd (true≢false (sym h))

-- a program's image, whatever its version and code
abbrev pub image_with : Program → ℕ → List ℕ → Image
image_with p version code = record { version = version; vars = p.variables; tags = p.tags; code = code }

module _ (p : Program) (readings : List Reading) (version : ℕ) (code : List ℕ) where
  -- an instruction stands in the code at an address
  abbrev pub Stands : ℕ → Op → Type 0
  Stands a i = IsFine i → decoded_at code a ≡ Some (i, a + length (spelled i))

  abbrev Reaches : {A : Type 0} → State → Result A Fault → (A → State) → Type 0
  Reaches c x to = Gets (image_with p version code) readings c x to

  pub at_step : (i : Op) (a : ℕ) (ds : List Value) (r : Option Value) (s : source.State) → IsFine i → Stands a i → step (image_with p version code) readings (at a ds r s) ≡ done (image_with p version code) readings a (a + length (spelled i)) i (at a ds r s)
  at_step i a ds r s fine h = ap (λ o. decoded_step (image_with p version code) readings o (at a ds r s)) (h fine)

  -- the address at the end, under another name
  elsewhere : (c : State) (x : Result Value Fault) (ds : List Value) (s : source.State) (a b : ℕ) → a ≡ b → Reaches c x (λ v. at a ds (Some v) s) → Reaches c x (λ v. at b ds (Some v) s)
  elsewhere c x ds s a b e g = subst (λ n. Reaches c x (λ v. at n ds (Some v) s)) e g

  constant_gets : (k : IlType) (n : ℤ) (a : ℕ) (ds : List Value) (r : Option Value) (s : source.State) → is_within (low_of k) (high_of k) n ≡ true → Stands a (constant_of k n) → Reaches (at a ds r s) (Ok (record { kind = k; number = n })) (λ v. at (a + length (spelled (constant_of k n))) ds (Some v) s)
  constant_gets il.Bool n a ds r s w h =
      gets_step _ _ _ (Ok (record { kind = il.Bool; number = n })) (λ v. at (a + 2) ds (Some v) s)
      (at_step (does.LoadBool (int_eq n (pos 1))) a ds r s tt h ∙ ap (λ m. Goes (at (a + 2) ds (Some (record { kind = il.Bool; number = m })) s)) (bool_number n w))
  constant_gets il.Sint n a ds r s w h = gets_step _ _ _ (Ok (record { kind = il.Sint; number = n })) _ (at_step (does.LoadNumber il.Sint n) a ds r s (refl, w) h)
  constant_gets il.Int n a ds r s w h = gets_step _ _ _ (Ok (record { kind = il.Int; number = n })) _ (at_step (does.LoadNumber il.Int n) a ds r s (refl, w) h)
  constant_gets il.Dint n a ds r s w h = gets_step _ _ _ (Ok (record { kind = il.Dint; number = n })) _ (at_step (does.LoadNumber il.Dint n) a ds r s (refl, w) h)
  constant_gets il.Lint n a ds r s w h = gets_step _ _ _ (Ok (record { kind = il.Lint; number = n })) _ (at_step (does.LoadNumber il.Lint n) a ds r s (refl, w) h)
  constant_gets il.Usint n a ds r s w h = gets_step _ _ _ (Ok (record { kind = il.Usint; number = n })) _ (at_step (does.LoadNumber il.Usint n) a ds r s (refl, w) h)
  constant_gets il.Uint n a ds r s w h = gets_step _ _ _ (Ok (record { kind = il.Uint; number = n })) _ (at_step (does.LoadNumber il.Uint n) a ds r s (refl, w) h)
  constant_gets il.Udint n a ds r s w h = gets_step _ _ _ (Ok (record { kind = il.Udint; number = n })) _ (at_step (does.LoadNumber il.Udint n) a ds r s (refl, w) h)

  load_gets : (x : Source) (a : ℕ) (ds : List Value) (r : Option Value) (s : source.State) → IsSource p x → Stands a (load_of x) → Reaches (at a ds r s) (value_of (scope_of p readings s) x) (λ v. at (a + length (spelled (load_of x))) ds (Some v) s)
  load_gets (Variable i) a ds r s w h =
      gets_step _ _ _ (declared_value (slice_get p.variables i) (slice_get s.variables i)) _
      (at_step (does.LoadVariable i) a ds r s tt h ∙ variable_loaded (slice_get p.variables i) (slice_get s.variables i) _ w)
  load_gets (Input i) a ds r s w h =
      gets_step _ _ _ (read_value (input_kind (slice_get p.tags i)) (slice_get readings i)) _
      (at_step (does.LoadInput i) a ds r s tt h ∙ input_loaded (input_kind (slice_get p.tags i)) (slice_get readings i) _ w)
  load_gets (Presence i) a ds r s w h =
      gets_step _ _ _ (Ok (truth (is_present (slice_get readings i)))) _
      (at_step (does.LoadPresence i) a ds r s tt h ∙ place_there (input_kind (slice_get p.tags i)) _ w)
  load_gets (Constant v) a ds r s w h = constant_gets v.kind v.number a ds r s w h

  push_gets : (a : ℕ) (ds : List Value) (r : Option Value) (s : source.State) → length ds < 128 → Stands a does.Push → Reaches (at a ds r s) (or_wrong r) (λ v. at (a + 1) (v ∷ ds) None s)
  push_gets a ds r s w h =
      gets_step _ _ _ (or_wrong r) _
      (at_step does.Push a ds r s tt h ∙ ap (λ b. if b then then_goes (or_wrong r) (λ v. Goes (at (a + 1) (v ∷ ds) None s)) else Traps NoDeferred) (lt-ltb (length ds) 128 w))

  op_gets : (o : Operator) (d : Value) (a : ℕ) (ds : List Value) (r : Option Value) (s : source.State) → Stands a (does.Apply o) → Reaches (at a (d ∷ ds) r s) (or_wrong r >>= applied o d) (λ v. at (a + 1) ds (Some v) s)
  op_gets o d a ds r s h = gets_step _ _ _ (or_wrong r >>= applied o d) _ (at_step (does.Apply o) a (d ∷ ds) r s tt h)

  not_gets : (n : Bool) (a : ℕ) (ds : List Value) (v : Value) (s : source.State) → HasAt code a (not_code n) → Reaches (at a ds (Some v) s) (inverted_if n v) (λ w. at (past a (not_code n)) ds (Some w) s)
  not_gets false a ds v s h = gets_done _ _ v (λ w. at a ds (Some w) s)
  not_gets true a ds v s h = gets_step _ _ _ (inverted v) _ (at_step does.Not a ds (Some v) s tt h.0)

  -- NOT and the operator, on what was deferred
  tail_gets : (last : Option Value) (o : Operator) (n : Bool) (d : Value) (a : ℕ) (ds : List Value) (s : source.State) → HasAt code a (not_code n ++ does.Apply o ∷ []) → Reaches (at a (d ∷ ds) last s) (or_wrong last >>= λ v. inverted_if n v >>= applied o d) (λ v. at (past a (not_code n ++ does.Apply o ∷ [])) ds (Some v) s)
  tail_gets None o true d a ds s h = gets_step _ _ _ (Err _) _ (at_step does.Not a (d ∷ ds) None s tt h.0)
  tail_gets None o false d a ds s h = gets_step _ _ _ (Err _) _ (at_step (does.Apply o) a (d ∷ ds) None s tt h.0)
  tail_gets (Some v) o n d a ds s h =
      elsewhere _ _ ds s _ _ (sym (past_append a (not_code n) (does.Apply o ∷ [])))
      (gets_bind _ _ _ (inverted_if n v) (applied o d) _ _ (not_gets n a (d ∷ ds) v s (has_front code a (not_code n) (does.Apply o ∷ []) h))
      (λ w. op_gets o d _ ds (Some w) s (has_back code a (not_code n) (does.Apply o ∷ []) h).0))

  -- PUSH, load, NOT, op
  apply_gets : (o : Operator) (n : Bool) (x : Source) (a : ℕ) (ds : List Value) (r : Option Value) (s : source.State) → IsSource p x → length ds < 128 → HasAt code a (does.Push ∷ load_of x ∷ (not_code n ++ does.Apply o ∷ [])) → Reaches (at a ds r s) (or_wrong r >>= operand_applied (scope_of p readings s) o n x) (λ v. at (past a (does.Push ∷ load_of x ∷ (not_code n ++ does.Apply o ∷ []))) ds (Some v) s)
  apply_gets o n x a ds r s w room h =
      gets_bind _ _ _ (or_wrong r) (operand_applied (scope_of p readings s) o n x) _ _ (push_gets a ds r s room h.0)
      (λ d. gets_bind _ _ _ (value_of (scope_of p readings s) x) (λ v. inverted_if n v >>= applied o d) _ _ (load_gets x (a + 1) (d ∷ ds) None s w h.1.0)
      (λ v. tail_gets (Some v) o n d _ ds s h.1.1))

  start_gets : (first : Option Source) (a : ℕ) (ds : List Value) (s : source.State) → IsStart p first → HasAt code a (start_code first) → Reaches (at a ds None s) (optional_value (scope_of p readings s) first) (λ o. at (past a (start_code first)) ds o s)
  start_gets None a ds s w h = gets_done _ _ None (λ o. at a ds o s)
  start_gets (Some x) a ds s w h =
      gets_bind _ _ _ (value_of (scope_of p readings s) x) (λ v. Ok (Some v)) _ _ (load_gets x a ds None s w h.0)
      (λ v. gets_done _ _ (Some v) (λ o. at (a + length (spelled (load_of x))) ds o s))

  mutual
    pub simple_gets : (t : Simple) (a : ℕ) (ds : List Value) (r : Option Value) (s : source.State) → IsSimple p t → length ds + depth_of t ≤ 127 → HasAt code a (simple_code t) → Reaches (at a ds r s) (simple_result (scope_of p readings s) t r) (λ v. at (past a (simple_code t)) ds (Some v) s)
    simple_gets (Load n x) a ds r s w room h =
        gets_bind _ _ _ (value_of (scope_of p readings s) x) (inverted_if n) _ _ (load_gets x a ds r s w h.0)
        (λ v. not_gets n _ ds v s h.1)
    simple_gets (Apply o n x) a ds r s w room h = apply_gets o n x a ds r s w (omega arith) h
    simple_gets (Defer o n first inner) a ds r s w room h =
        let tail = not_code n ++ does.Apply o ∷ [] in
        let g = scope_of p readings s in
        let a1 = past (a + 1) (start_code first) in
        let a2 = past a1 (inner_code inner) in
        let h1 = has_back code (a + 1) (start_code first) (inner_code inner ++ tail) h.1 in
        let e : past a2 tail ≡ past (a + 1) (start_code first ++ (inner_code inner ++ tail)) = sym (past_append (a + 1) (start_code first) (inner_code inner ++ tail) ∙ past_append a1 (inner_code inner) tail) in
        gets_bind _ _ _ (or_wrong r) (λ d. optional_value g first >>= λ start. inner_result g inner start >>= λ last. or_wrong last >>= λ v. inverted_if n v >>= applied o d) _ _ (push_gets a ds r s (omega arith) h.0)
        (λ d. gets_bind _ _ _ (optional_value g first) (λ start. inner_result g inner start >>= λ last. or_wrong last >>= λ v. inverted_if n v >>= applied o d) _ _ (start_gets first (a + 1) (d ∷ ds) s w.0 (has_front code (a + 1) (start_code first) (inner_code inner ++ tail) h.1))
        (λ start. gets_bind _ _ _ (inner_result g inner start) (λ last. or_wrong last >>= λ v. inverted_if n v >>= applied o d) _ _ (inner_gets inner a1 (d ∷ ds) start s w.1 (omega arith) (has_front code a1 (inner_code inner) tail h1))
        (λ last. elsewhere _ _ ds s _ _ e (tail_gets last o n d a2 ds s (has_back code a1 (inner_code inner) tail h1)))))
    simple_gets (Limit least most) a ds r s w room h =
        let g = scope_of p readings s in
        gets_bind _ _ _ (or_wrong r >>= operand_applied g op.Max false least) (operand_applied g op.Min false most) _ _ (apply_gets op.Max false least a ds r s w.0 (omega arith) (h.0, (h.1.0, (h.1.1.0, tt))))
        (λ v. apply_gets op.Min false most _ ds (Some v) s w.1 (omega arith) h.1.1.1)
    simple_gets (Select x y) a ds r s w room h =
        let g = scope_of p readings s in
        gets_bind _ _ _ (or_wrong r) (λ chooser. value_of g x >>= λ v. value_of g y >>= selected chooser v) _ _ (push_gets a ds r s (omega arith) h.0)
        (λ chooser. gets_bind _ _ _ (value_of g x) (λ v. value_of g y >>= selected chooser v) _ _ (load_gets x (a + 1) (chooser ∷ ds) None s w.0 h.1.0)
        (λ v. gets_bind _ _ _ (Ok v) (λ v. value_of g y >>= selected chooser v) _ _ (push_gets _ (chooser ∷ ds) (Some v) s (omega arith) h.1.1.0)
        (λ v. gets_bind _ _ _ (value_of g y) (selected chooser v) _ _ (load_gets y _ (v ∷ chooser ∷ ds) None s w.1 h.1.1.1.0)
        (λ u. gets_step _ _ _ (selected chooser v u) _ (at_step does.Select _ (v ∷ chooser ∷ ds) (Some u) s tt h.1.1.1.1.0)))))
    simple_gets Invert a ds r s w room h = gets_step _ _ _ (or_wrong r >>= inverted) _ (at_step does.Not a ds r s tt h.0)
    simple_gets Absolute a ds r s w room h = gets_step _ _ _ (or_wrong r >>= absolute_of) _ (at_step does.Absolute a ds r s tt h.0)
    simple_gets (Convert from to) a ds r s w room h = gets_step _ _ _ (or_wrong r >>= converted from to) _ (at_step (does.Convert from to) a ds r s w h.0)

    pub inner_gets : (t : Inner) (a : ℕ) (ds : List Value) (r : Option Value) (s : source.State) → IsInner p t → length ds + inner_depth t ≤ 127 → HasAt code a (inner_code t) → Reaches (at a ds r s) (inner_result (scope_of p readings s) t r) (λ o. at (past a (inner_code t)) ds o s)
    inner_gets Close a ds r s w room h = gets_done _ _ r (λ o. at a ds o s)
    inner_gets (Then head tail) a ds r s w room h =
        let g = scope_of p readings s in
        let e : past (past a (simple_code head)) (inner_code tail) ≡ past a (simple_code head ++ inner_code tail) = sym (past_append a (simple_code head) (inner_code tail)) in
        gets_bind _ _ _ (simple_result g head r) (λ v. inner_result g tail (Some v)) _ _ (simple_gets head a ds r s w.0 (omega arith) (has_front code a (simple_code head) (inner_code tail) h))
        (λ v. subst (λ n. Reaches (at (past a (simple_code head)) ds (Some v) s) (inner_result g tail (Some v)) (λ o. at n ds o s)) e
        (inner_gets tail (past a (simple_code head)) ds (Some v) s w.1 (omega arith) (has_back code a (simple_code head) (inner_code tail) h)))
