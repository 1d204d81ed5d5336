-- A value of the type BOOL is 0 or 1, so NOT twice gives it back.
use Rattle.std.proofs.Common.{◌≡◌, ℕ, zero, suc, Bool, true, false, not, ◌&&◌, if◌then◌else◌, ℤ, pos, negsuc, List, [], ◌∷◌, Option, Some, None, Result, Ok, Err, slice_get, slice_set, nat_eq, nat_le, int_le, int_div, int_rem, ◌+ℤ◌, ◌-ℤ◌, ◌*ℤ◌, refl, sym, ap, ◌∙◌, subst, arith, eqb-true, leb-true, le-leb, true≢false, All}
use Rattle.point_types.specs.declared.il_type.IlType.{IlType}
use Rattle.point_types.specs.declared.il_type.IlType.TheVariants as il
use Rattle.point_types.specs.declared.operator.Operator.{Operator}
use Rattle.point_types.specs.declared.operator.Operator.TheVariants as op
use Rattle.point_types.specs.declared.reading.Reading.{Reading}
use Rattle.point_types.specs.declared.reading.Reading.TheVariants as reading
use Rattle.point_types.specs.Value.{Value, Fault, WrongType, Overflow, StoreRange, low_of, high_of, is_within, is_bool, same_kind, code_of, int_eq, truth, number_of, applied, on_numbers, inverted, inverted_if, fitted, divided, int_least, int_most, ◌>>=◌}
use Rattle.point_types.specs.declared.variable.Var.{Var}
use Rattle.scan_code.specs.declared.image.Tag.{Tag}
use Rattle.scan_code.specs.Table.{input_kind, output_kind, or_wrong, declared_value, read_value, is_present, selected, absolute_of, magnitude, converted, storable, output_value}
use Rattle.il_assemble.specs.Meaning.{Program, Source, Variable, Input, Presence, Constant, Simple, Load, Apply, Defer, Limit, Select, Invert, Absolute, Convert, Inner, Close, Then, Place, InVariable, InOutput, State, value_of, optional_value, operand_applied, simple_result, inner_result, scope_of}
use Rattle.il_assemble.specs.Correct.{IsSource, IsStart, IsSimple, IsInner, IsDeclared, AreVariables, IsReading, AreReadings}
use Rattle.scan_code.proofs.Fetch.{within_parts}
use Rattle.point_types.proofs.Truths.{bool_kind}

abbrev pub IsBit : IlType → ℤ → Type 0
IsBit k n = code_of k ≡ 0 → is_within (pos 0) (pos 1) n ≡ true

abbrev pub IsClean : Value → Type 0
IsClean v = IsBit v.kind v.number

abbrev pub IsCleanOption : Option Value → Type 0
IsCleanOption None = Unit {0}
IsCleanOption (Some v) = IsClean v

-- of the value, where there is one
abbrev pub Holds : {A : Type 0} → Result A Fault → (A → Type 0) → Type 0
Holds (Ok a) P = P a
Holds (Err e) P = Unit {0}

holds_bind : {A B : Type 0} (x : Result A Fault) (f : A → Result B Fault) (Q : A → Type 0) (P : B → Type 0) → Holds x Q → ((a : A) → Q a → Holds (f a) P) → Holds (x >>= f) P
holds_bind (Ok a) f Q P h k = k a h
holds_bind (Err e) f Q P h k = tt

pub holds_ok : {A : Type 0} (x : Result A Fault) (P : A → Type 0) (a : A) → x ≡ Ok a → Holds x P → P a
holds_ok x P a e h = subst (λ y. Holds y P) e h

not_bit : (k : IlType) → is_bool k ≡ false → (n : ℤ) → IsBit k n
not_bit il.Bool h n = absurd (true≢false h)
not_bit il.Sint h n = λ e. absurd (omega arith)
not_bit il.Int h n = λ e. absurd (omega arith)
not_bit il.Dint h n = λ e. absurd (omega arith)
not_bit il.Lint h n = λ e. absurd (omega arith)
not_bit il.Usint h n = λ e. absurd (omega arith)
not_bit il.Uint h n = λ e. absurd (omega arith)
not_bit il.Udint h n = λ e. absurd (omega arith)

typed_bit : (k : IlType) (n : ℤ) → is_within (low_of k) (high_of k) n ≡ true → IsBit k n
typed_bit il.Bool n h = λ e. h
typed_bit il.Sint n h = λ e. absurd (omega arith)
typed_bit il.Int n h = λ e. absurd (omega arith)
typed_bit il.Dint n h = λ e. absurd (omega arith)
typed_bit il.Lint n h = λ e. absurd (omega arith)
typed_bit il.Usint n h = λ e. absurd (omega arith)
typed_bit il.Uint n h = λ e. absurd (omega arith)
typed_bit il.Udint n h = λ e. absurd (omega arith)

pub truth_clean : (b : Bool) → IsClean (truth b)
truth_clean true = λ e. refl
truth_clean false = λ e. refl

truth_if : (b t : Bool) → Holds (if b then Ok (truth t) else Err WrongType) IsClean
truth_if true t = truth_clean t
truth_if false t = tt

fitted_clean : (k : IlType) (n : ℤ) → is_bool k ≡ false → Holds (fitted k n) IsClean
fitted_clean k n h = within (is_within (low_of k) (high_of k) n)
  where
    within : (b : Bool) → Holds (if b then Ok (record { kind = k; number = n }) else Err Overflow) IsClean
    within true = not_bit k h n
    within false = tt

numbers_clean : (k : IlType) (x : Result ℤ Fault) (same b : Bool) → is_bool k ≡ b → Holds (if same && not b then (x >>= fitted k) else Err WrongType) IsClean
numbers_clean k x false b e = tt
numbers_clean k x true true e = tt
numbers_clean k (Ok n) true false e = fitted_clean k n e
numbers_clean k (Err f) true false e = tt

on_numbers_clean : (f : ℤ → ℤ → Result ℤ Fault) (a b : Value) → Holds (on_numbers f a b) IsClean
on_numbers_clean f a b = numbers_clean a.kind (f a.number b.number) (same_kind a b) (is_bool a.kind) refl

pub applied_clean : (o : Operator) (a b : Value) → Holds (applied o a b) IsClean
applied_clean op.And a b = truth_if _ _
applied_clean op.Or a b = truth_if _ _
applied_clean op.Xor a b = truth_if _ _
applied_clean op.Add a b = on_numbers_clean (λ x y. Ok (x +ℤ y)) a b
applied_clean op.Sub a b = on_numbers_clean (λ x y. Ok (x -ℤ y)) a b
applied_clean op.Mul a b = on_numbers_clean (λ x y. Ok (x *ℤ y)) a b
applied_clean op.Div a b = on_numbers_clean (divided int_div) a b
applied_clean op.Mod a b = on_numbers_clean (divided int_rem) a b
applied_clean op.Gt a b = truth_if _ _
applied_clean op.Ge a b = truth_if _ _
applied_clean op.Eq a b = truth_if _ _
applied_clean op.Ne a b = truth_if _ _
applied_clean op.Le a b = truth_if _ _
applied_clean op.Lt a b = truth_if _ _
applied_clean op.Min a b = on_numbers_clean (λ x y. Ok (int_least x y)) a b
applied_clean op.Max a b = on_numbers_clean (λ x y. Ok (int_most x y)) a b

pub inverted_clean : (v : Value) → Holds (inverted v) IsClean
inverted_clean v = truth_if _ _

pub inverted_if_clean : (n : Bool) (v : Value) → IsClean v → Holds (inverted_if n v) IsClean
inverted_if_clean true v h = inverted_clean v
inverted_if_clean false v h = h

selected_clean : (c a b : Value) → IsClean a → IsClean b → Holds (selected c a b) IsClean
selected_clean c a b ha hb = fine (is_bool c.kind && same_kind a b) (int_eq c.number (pos 1))
  where
    fine : (x y : Bool) → Holds (if x then Ok (if y then b else a) else Err WrongType) IsClean
    fine true true = hb
    fine true false = ha
    fine false y = tt

absolute_clean : (v : Value) → Holds (absolute_of v) IsClean
absolute_clean v = fine (is_bool v.kind) refl
  where
    fine : (b : Bool) → is_bool v.kind ≡ b → Holds (if b then Err WrongType else fitted v.kind (magnitude v.number)) IsClean
    fine true e = tt
    fine false e = fitted_clean v.kind (magnitude v.number) e

converted_clean : (from to : IlType) (v : Value) → is_bool to ≡ false → Holds (converted from to v) IsClean
converted_clean from to v h = fine (nat_eq (code_of v.kind) (code_of from))
  where
    fine : (b : Bool) → Holds (if b then fitted to v.number else Err WrongType) IsClean
    fine true = fitted_clean to v.number h
    fine false = tt

or_wrong_clean : (r : Option Value) → IsCleanOption r → Holds (or_wrong r) IsClean
or_wrong_clean None h = tt
or_wrong_clean (Some v) h = h

abbrev pub AreCleanVariables : List Var → List ℤ → Type 0
AreCleanVariables ds ns = (i : ℕ) → Holds (declared_value (slice_get ds i) (slice_get ns i)) IsClean

abbrev pub AreCleanReadings : List Tag → List Reading → Type 0
AreCleanReadings ts rs = (i : ℕ) → Holds (read_value (input_kind (slice_get ts i)) (slice_get rs i)) IsClean

module _ (p : Program) (readings : List Reading) (reads : AreCleanReadings p.tags readings) where
  value_clean : (x : Source) (s : State) → IsSource p x → AreCleanVariables p.variables s.variables → Holds (value_of (scope_of p readings s) x) IsClean
  value_clean (Variable i) s w h = h i
  value_clean (Input i) s w h = reads i
  value_clean (Presence i) s w h = truth_clean (is_present (slice_get readings i))
  value_clean (Constant v) s w h = typed_bit v.kind v.number w

  operand_clean : (o : Operator) (n : Bool) (x : Source) (r : Value) (s : State) → IsSource p x → AreCleanVariables p.variables s.variables → Holds (operand_applied (scope_of p readings s) o n x r) IsClean
  operand_clean o n x r s w h =
      holds_bind (value_of (scope_of p readings s) x) (λ v. inverted_if n v >>= applied o r) IsClean IsClean (value_clean x s w h)
      (λ v c. holds_bind (inverted_if n v) (applied o r) IsClean IsClean (inverted_if_clean n v c) (λ u d. applied_clean o r u))

  start_clean : (first : Option Source) (s : State) → IsStart p first → AreCleanVariables p.variables s.variables → Holds (optional_value (scope_of p readings s) first) IsCleanOption
  start_clean None s w h = tt
  start_clean (Some x) s w h = holds_bind (value_of (scope_of p readings s) x) (λ v. Ok (Some v)) IsClean IsCleanOption (value_clean x s w h) (λ v c. c)

  mutual
    pub simple_clean : (t : Simple) (r : Option Value) (s : State) → IsSimple p t → AreCleanVariables p.variables s.variables → IsCleanOption r → Holds (simple_result (scope_of p readings s) t r) IsClean
    simple_clean (Load n x) r s w h c = holds_bind (value_of (scope_of p readings s) x) (inverted_if n) IsClean IsClean (value_clean x s w h) (λ v d. inverted_if_clean n v d)
    simple_clean (Apply o n x) r s w h c =
        holds_bind (or_wrong r) (operand_applied (scope_of p readings s) o n x) IsClean IsClean (or_wrong_clean r c) (λ v d. operand_clean o n x v s w h)
    simple_clean (Defer o n first inner) r s w h c =
        let g = scope_of p readings s in
        holds_bind (or_wrong r) (λ d. optional_value g first >>= λ start. inner_result g inner start >>= λ last. or_wrong last >>= λ v. inverted_if n v >>= applied o d) IsClean IsClean (or_wrong_clean r c)
        (λ d _. holds_bind (optional_value g first) (λ start. inner_result g inner start >>= λ last. or_wrong last >>= λ v. inverted_if n v >>= applied o d) IsCleanOption IsClean (start_clean first s w.0 h)
        (λ start f. holds_bind (inner_result g inner start) (λ last. or_wrong last >>= λ v. inverted_if n v >>= applied o d) IsCleanOption IsClean (inner_clean inner start s w.1 h f)
        (λ last f. holds_bind (or_wrong last) (λ v. inverted_if n v >>= applied o d) IsClean IsClean (or_wrong_clean last f)
        (λ v f. holds_bind (inverted_if n v) (applied o d) IsClean IsClean (inverted_if_clean n v f) (λ u _. applied_clean o d u)))))
    simple_clean (Limit least most) r s w h c =
        let g = scope_of p readings s in
        holds_bind (or_wrong r >>= operand_applied g op.Max false least) (operand_applied g op.Min false most) IsClean IsClean
        (holds_bind (or_wrong r) (operand_applied g op.Max false least) IsClean IsClean (or_wrong_clean r c) (λ v d. operand_clean op.Max false least v s w.0 h))
        (λ v d. operand_clean op.Min false most v s w.1 h)
    simple_clean (Select x y) r s w h c =
        let g = scope_of p readings s in
        holds_bind (or_wrong r) (λ chooser. value_of g x >>= λ v. value_of g y >>= selected chooser v) IsClean IsClean (or_wrong_clean r c)
        (λ chooser _. holds_bind (value_of g x) (λ v. value_of g y >>= selected chooser v) IsClean IsClean (value_clean x s w.0 h)
        (λ v d. holds_bind (value_of g y) (selected chooser v) IsClean IsClean (value_clean y s w.1 h) (λ u e. selected_clean chooser v u d e)))
    simple_clean Invert r s w h c = holds_bind (or_wrong r) inverted IsClean IsClean (or_wrong_clean r c) (λ v d. inverted_clean v)
    simple_clean Absolute r s w h c = holds_bind (or_wrong r) absolute_of IsClean IsClean (or_wrong_clean r c) (λ v d. absolute_clean v)
    simple_clean (Convert from to) r s w h c = holds_bind (or_wrong r) (converted from to) IsClean IsClean (or_wrong_clean r c) (λ v d. converted_clean from to v w.1)

    inner_clean : (t : Inner) (r : Option Value) (s : State) → IsInner p t → AreCleanVariables p.variables s.variables → IsCleanOption r → Holds (inner_result (scope_of p readings s) t r) IsCleanOption
    inner_clean Close r s w h c = c
    inner_clean (Then head tail) r s w h c =
        holds_bind (simple_result (scope_of p readings s) head r) (λ v. inner_result (scope_of p readings s) tail (Some v)) IsClean IsCleanOption (simple_clean head r s w.0 h c) (λ v d. inner_clean tail (Some v) s w.1 h d)

-- Storing.

abbrev pub with_variable : State → ℕ → ℤ → State
with_variable s i n = record s { variables = slice_set s.variables i n }

abbrev pub with_output : State → ℕ → ℤ → State
with_output s i n = record s { outputs = slice_set s.outputs i (Some n) }

abbrev pub stored_result : Program → Place → Value → State → Result State Fault
stored_result p (InVariable i) v s = storable (slice_get p.variables i) v >>= λ n. Ok (with_variable s i n)
stored_result p (InOutput i) v s = output_value (output_kind (slice_get p.tags i)) v >>= λ n. Ok (with_output s i n)

-- what is stored in a BOOL is 0 or 1
abbrev IsStored : Option Var → ℤ → Type 0
IsStored None n = Unit {0}
IsStored (Some d) n = IsBit d.kind n

storable_clean : (o : Option Var) (v : Value) → IsClean v → Holds (storable o v) (IsStored o)
storable_clean None v c = tt
storable_clean (Some d) v c = fine (nat_eq (code_of d.kind) (code_of v.kind)) (is_within d.low d.high v.number) refl
  where
    fine : (x y : Bool) → nat_eq (code_of d.kind) (code_of v.kind) ≡ x → Holds (if x then (if y then Ok v.number else Err StoreRange) else Err WrongType) (IsBit d.kind)
    fine true true e = λ z. c (sym (eqb-true _ _ e) ∙ z)
    fine true false e = tt
    fine false y e = tt

set_clean : (ds : List Var) (ns : List ℤ) (i : ℕ) (n : ℤ) → IsStored (slice_get ds i) n → AreCleanVariables ds ns → AreCleanVariables ds (slice_set ns i n)
set_clean [] ns i n w h j = tt
set_clean (d ∷ ds) [] i n w h j = h j
set_clean (d ∷ ds) (m ∷ ns) zero n w h zero = w
set_clean (d ∷ ds) (m ∷ ns) zero n w h (suc j) = h (suc j)
set_clean (d ∷ ds) (m ∷ ns) (suc i) n w h zero = h zero
set_clean (d ∷ ds) (m ∷ ns) (suc i) n w h (suc j) = set_clean ds ns i n w (λ k. h (suc k)) j

-- a state keeps its result and counts, and stays clean
pub record IsAfter (p : Program) (s t : State) : Type 0 where
  pub result : t.result ≡ s.result
  pub taken : t.taken ≡ s.taken
  pub clean : AreCleanVariables p.variables t.variables

pub stored_clean : (p : Program) (place : Place) (v : Value) (s : State) → IsClean v → AreCleanVariables p.variables s.variables → Holds (stored_result p place v s) (IsAfter p s)
stored_clean p (InVariable i) v s c h =
    holds_bind (storable (slice_get p.variables i) v) (λ n. Ok (with_variable s i n)) (IsStored (slice_get p.variables i)) (IsAfter p s) (storable_clean (slice_get p.variables i) v c)
    (λ n w. record { result = refl; taken = refl; clean = set_clean p.variables s.variables i n w h })
stored_clean p (InOutput i) v s c h =
    holds_bind (output_value (output_kind (slice_get p.tags i)) v) (λ n. Ok (with_output s i n)) (λ n. Unit {0}) (IsAfter p s) (any (output_value (output_kind (slice_get p.tags i)) v))
    (λ n w. record { result = refl; taken = refl; clean = h })
  where
    any : (x : Result ℤ Fault) → Holds x (λ n. Unit {0})
    any (Ok n) = tt
    any (Err e) = tt

-- What a scan begins with.

pub both_are : {a b : Bool} → a ≡ true → b ≡ true → (a && b) ≡ true
both_are {a} {b} e f = ap (λ x. x && b) e ∙ f

not_less : (a b n : ℤ) → is_within (pos 0) (pos 1) a ≡ true → is_within (pos 0) (pos 1) b ≡ true → is_within a b n ≡ true → is_within (pos 0) (pos 1) n ≡ true
not_less a b (pos k) ha hb h = both_are (le-leb 0 k (omega arith)) (below b k (within_parts a b (pos k) h).1 (within_parts (pos 0) (pos 1) b hb).1)
  where
    below : (b : ℤ) (k : ℕ) → int_le (pos k) b ≡ true → int_le b (pos 1) ≡ true → nat_le k 1 ≡ true
    below (pos j) k e f = let x = leb-true k j e in let y = leb-true j 1 f in le-leb k 1 (omega arith)
    below (negsuc j) k e f = absurd (true≢false (sym e))
not_less (pos a) b (negsuc k) ha hb h = absurd (true≢false (sym (within_parts (pos a) b (negsuc k) h).0))
not_less (negsuc a) b (negsuc k) ha hb h = absurd (true≢false (sym (within_parts (pos 0) (pos 1) (negsuc a) ha).0))

declared_bit : (d : Var) (n : ℤ) → IsDeclared d → is_within d.low d.high n ≡ true → IsBit d.kind n
declared_bit d n w h = λ e. not_less d.low d.high n (typed_bit d.kind d.low w.low e) (typed_bit d.kind d.high w.high e) h

pub variables_clean : (ds : List Var) (ns : List ℤ) → All IsDeclared ds → AreVariables ds ns → AreCleanVariables ds ns
variables_clean [] ns w h j = tt
variables_clean (d ∷ ds) [] w h j = absurd h
variables_clean (d ∷ ds) (n ∷ ns) w h zero = declared_bit d n (w zero d (omega arith)) h.0
variables_clean (d ∷ ds) (n ∷ ns) w h (suc j) = variables_clean ds ns (λ k o l. w (suc k) o (omega arith)) h.1 j

reading_clean : (t : Tag) (r : Reading) → IsReading t r → (output : Bool) → Holds (read_value (if output then None else Some t.kind) (Some r)) IsClean
reading_clean t r h true = tt
reading_clean t (reading.Value n) h false = typed_bit t.kind n h
reading_clean t (reading.Default n c) h false = typed_bit t.kind n h
reading_clean t (reading.Absent c) h false = tt

pub readings_clean : (ts : List Tag) (rs : List Reading) → AreReadings ts rs → AreCleanReadings ts rs
readings_clean [] rs h j = tt
readings_clean (t ∷ ts) [] h j = absurd h
readings_clean (t ∷ ts) (r ∷ rs) h zero = reading_clean t r h.0 t.output
readings_clean (t ∷ ts) (r ∷ rs) h (suc j) = readings_clean ts rs h.1 j

-- NOT twice

twice : (n : ℤ) → is_within (pos 0) (pos 1) n ≡ true → number_of (int_eq (number_of (int_eq n (pos 0))) (pos 0)) ≡ n
twice (pos zero) h = refl
twice (pos (suc zero)) h = refl
twice (pos (suc (suc n))) h = let l = leb-true (suc (suc n)) 1 (within_parts (pos 0) (pos 1) (pos (suc (suc n))) h).1 in absurd (omega arith)
twice (negsuc n) h = absurd (true≢false (sym h))

-- NOT of NOT of a clean value gives it back
pub inverted_back : (v w : Value) → IsClean v → inverted v ≡ Ok w → inverted w ≡ Ok v
inverted_back v w c e = back (is_bool v.kind) refl e
  where
    same : v.kind ≡ il.Bool → inverted (truth (int_eq v.number (pos 0))) ≡ Ok v
    same k =
        let q : number_of (int_eq (number_of (int_eq v.number (pos 0))) (pos 0)) ≡ v.number = twice v.number (c (ap code_of k)) in
        let r : il.Bool ≡ v.kind = sym k in
        λ i. Ok (record { kind = r i; number = q i })

    back : (b : Bool) → is_bool v.kind ≡ b → (if b then Ok (truth (int_eq v.number (pos 0))) else Err WrongType) ≡ Ok w → inverted w ≡ Ok v
    back true b f =
        let g : truth (int_eq v.number (pos 0)) ≡ w = cc in
        subst (λ u. inverted u ≡ Ok v) g (same (bool_kind v.kind b))
    back false b f = cc
