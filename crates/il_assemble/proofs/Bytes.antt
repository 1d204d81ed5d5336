-- The code of a program is of bytes.
use Rattle.std.proofs.Common.{◌≡◌, ℕ, zero, suc, ◌+◌, ◌/◌, ◌%◌, ◌<◌, ◌≤◌, Bool, true, false, if◌then◌else◌, ℤ, List, [], ◌∷◌, ◌++◌, length, Option, Some, None, slice_get, sym, ap, ◌∙◌, subst, arith, length-append, All}
use Rattle.std.proofs.lemmas.Option.{slice_get_within}
use Rattle.point_types.specs.declared.il_type.IlType.{IlType}
use Rattle.point_types.specs.declared.il_type.IlType.TheVariants as il
use Rattle.point_types.specs.declared.operator.Operator.{Operator}
use Rattle.point_types.specs.declared.operator.Operator.TheVariants as op
use Rattle.point_types.specs.declared.operator.Condition.{Condition}
use Rattle.point_types.specs.declared.operator.Condition.TheVariants as when
use Rattle.scan_code.specs.declared.op.Op.{Op}
use Rattle.scan_code.specs.declared.op.Op.TheVariants as does
use Rattle.point_types.specs.Value.{code_of}
use Rattle.scan_code.specs.declared.image.Tag.{Tag}
use Rattle.scan_code.specs.Table.{input_kind, output_kind}
use Rattle.il_assemble.specs.Meaning.{Program, Line, Source, Variable, Input, Presence, Constant, Simple, Load, Apply, Defer, Limit, Select, Invert, Absolute, Convert, Inner, Close, Then, Place, InVariable, InOutput, Action, Compute, Store, Set, Jump, Repeat, Return, has_label}
use Rattle.scan_code.specs.Spelling.{place_bytes, bytes_of, unsigned, byte_of, operator_byte, jump_byte, repeat_byte, return_byte, spelled, spelled_all}
use Rattle.il_assemble.specs.Code.{constant_of, load_of, not_code, start_code, simple_code, inner_code, store_of, set_of, return_of, action_code, lines_code, past, label_address, code_of_program}
use Rattle.il_assemble.specs.Correct.{Has, IsSource, IsStart, IsSimple, IsInner, IsPlace, IsAction, AreLines, CodeIsOfBytes}
use Rattle.il_assemble.proofs.Leads.{past_append}
use Rattle.il_assemble.proofs.Lines.{past_grows, same_size}

abbrev AreBytes : List ℕ → Type 0
AreBytes [] = Unit {0}
AreBytes (b ∷ bs) = (b < 256) × AreBytes bs

bytes_append : (bs cs : List ℕ) → AreBytes bs → AreBytes cs → AreBytes (bs ++ cs)
bytes_append [] cs h k = k
bytes_append (b ∷ bs) cs h k = (h.0, bytes_append bs cs h.1 k)

each_byte : (bs : List ℕ) → AreBytes bs → All (λ b. b < 256) bs
each_byte [] h k d l = absurd (omega arith)
each_byte (b ∷ bs) h zero d l = h.0
each_byte (b ∷ bs) h (suc k) d l = each_byte bs h.1 k d (omega arith)

-- what an instruction names fits its bytes
abbrev Fit : Op → Type 0
Fit does.End = Unit {0}
Fit (does.LoadVariable v) = v < 65536
Fit (does.LoadInput t) = t < 65536
Fit (does.LoadPresence t) = t < 65536
Fit (does.LoadBool b) = Unit {0}
Fit (does.LoadNumber k n) = Unit {0}
Fit (does.StoreVariable v) = v < 65536
Fit (does.StoreOutput t) = t < 65536
Fit (does.SetVariable v) = v < 65536
Fit (does.ResetVariable v) = v < 65536
Fit (does.SetOutput t) = t < 65536
Fit (does.ResetOutput t) = t < 65536
Fit does.Push = Unit {0}
Fit does.Not = Unit {0}
Fit (does.Apply o) = Unit {0}
Fit does.Select = Unit {0}
Fit does.Absolute = Unit {0}
Fit (does.Convert from to) = Unit {0}
Fit (does.Jump condition to) = to < 65536
Fit (does.Return condition) = Unit {0}
Fit (does.Repeat condition k limit to) = (k < 256) × (limit < 256) × (to < 65536)

abbrev AllFit : List Op → Type 0
AllFit [] = Unit {0}
AllFit (i ∷ is) = Fit i × AllFit is

place_small : (n : ℕ) → n < 65536 → AreBytes (place_bytes n)
place_small n h = (omega arith, (omega arith, tt))

number_small : (k n : ℕ) (rest : List ℕ) → AreBytes rest → AreBytes (bytes_of k n rest)
number_small zero n rest h = h
number_small (suc k) n rest h = number_small k (n / 256) (n % 256 ∷ rest) (omega arith, h)

kind_small : (k : IlType) → code_of k < 256
kind_small il.Bool = omega arith
kind_small il.Sint = omega arith
kind_small il.Int = omega arith
kind_small il.Dint = omega arith
kind_small il.Lint = omega arith
kind_small il.Usint = omega arith
kind_small il.Uint = omega arith
kind_small il.Udint = omega arith

operator_small : (o : Operator) → operator_byte o < 256
operator_small op.And = omega arith
operator_small op.Or = omega arith
operator_small op.Xor = omega arith
operator_small op.Add = omega arith
operator_small op.Sub = omega arith
operator_small op.Mul = omega arith
operator_small op.Div = omega arith
operator_small op.Mod = omega arith
operator_small op.Gt = omega arith
operator_small op.Ge = omega arith
operator_small op.Eq = omega arith
operator_small op.Ne = omega arith
operator_small op.Le = omega arith
operator_small op.Lt = omega arith
operator_small op.Min = omega arith
operator_small op.Max = omega arith

jump_small : (c : Condition) → jump_byte c < 256
jump_small when.Always = omega arith
jump_small when.IfTrue = omega arith
jump_small when.IfFalse = omega arith

repeat_small : (c : Condition) → repeat_byte c < 256
repeat_small when.Always = omega arith
repeat_small when.IfTrue = omega arith
repeat_small when.IfFalse = omega arith

return_small : (c : Condition) → return_byte c < 256
return_small when.Always = omega arith
return_small when.IfTrue = omega arith
return_small when.IfFalse = omega arith

truth_small : (b : Bool) → byte_of b < 256
truth_small true = omega arith
truth_small false = omega arith

spelled_small : (i : Op) → Fit i → AreBytes (spelled i)
spelled_small does.End h = (omega arith, tt)
spelled_small (does.LoadVariable v) h = (omega arith, place_small v h)
spelled_small (does.LoadInput t) h = (omega arith, place_small t h)
spelled_small (does.LoadPresence t) h = (omega arith, place_small t h)
spelled_small (does.LoadBool b) h = (omega arith, (truth_small b, tt))
spelled_small (does.LoadNumber k n) h = (omega arith, (kind_small k, number_small 8 (unsigned n) [] tt))
spelled_small (does.StoreVariable v) h = (omega arith, place_small v h)
spelled_small (does.StoreOutput t) h = (omega arith, place_small t h)
spelled_small (does.SetVariable v) h = (omega arith, place_small v h)
spelled_small (does.ResetVariable v) h = (omega arith, place_small v h)
spelled_small (does.SetOutput t) h = (omega arith, place_small t h)
spelled_small (does.ResetOutput t) h = (omega arith, place_small t h)
spelled_small does.Push h = (omega arith, tt)
spelled_small does.Not h = (omega arith, tt)
spelled_small (does.Apply o) h = (operator_small o, tt)
spelled_small does.Select h = (omega arith, tt)
spelled_small does.Absolute h = (omega arith, tt)
spelled_small (does.Convert from to) h = (omega arith, (kind_small from, (kind_small to, tt)))
spelled_small (does.Jump condition to) h = (jump_small condition, place_small to h)
spelled_small (does.Return condition) h = (return_small condition, tt)
spelled_small (does.Repeat condition k limit to) h = (repeat_small condition, (h.0, (h.1, place_small to h.2)))

all_small : (is : List Op) → AllFit is → AreBytes (spelled_all is)
all_small [] h = tt
all_small (i ∷ is) h = bytes_append (spelled i) (spelled_all is) (spelled_small i h.0) (all_small is h.1)

fit_append : (is js : List Op) → AllFit is → AllFit js → AllFit (is ++ js)
fit_append [] js h k = k
fit_append (i ∷ is) js h k = (h.0, fit_append is js h.1 k)

within_list : {A : Type 0} (xs : List A) (i : ℕ) → Has (slice_get xs i) → i < length xs
within_list [] i h = absurd h
within_list (x ∷ xs) zero h = omega arith
within_list (x ∷ xs) (suc i) h = omega (arith, within_list xs i h)

tag_of_input : (o : Option Tag) → Has (input_kind o) → Has o
tag_of_input None h = h
tag_of_input (Some t) h = tt

tag_of_output : (o : Option Tag) → Has (output_kind o) → Has o
tag_of_output None h = h
tag_of_output (Some t) h = tt

constant_fits : (k : IlType) (n : ℤ) → Fit (constant_of k n)
constant_fits il.Bool n = tt
constant_fits il.Sint n = tt
constant_fits il.Int n = tt
constant_fits il.Dint n = tt
constant_fits il.Lint n = tt
constant_fits il.Usint n = tt
constant_fits il.Uint n = tt
constant_fits il.Udint n = tt

not_fits : (n : Bool) → AllFit (not_code n)
not_fits true = (tt, tt)
not_fits false = tt

module _ (p : Program) (few_variables : length p.variables < 65536) (few_tags : length p.tags < 65536) where
  load_fits : (x : Source) → IsSource p x → Fit (load_of x)
  load_fits (Variable i) w = let l = within_list p.variables i w in omega arith
  load_fits (Input i) w = let l = within_list p.tags i (tag_of_input (slice_get p.tags i) w) in omega arith
  load_fits (Presence i) w = let l = within_list p.tags i (tag_of_input (slice_get p.tags i) w) in omega arith
  load_fits (Constant v) w = constant_fits v.kind v.number

  start_fits : (x : Option Source) → IsStart p x → AllFit (start_code x)
  start_fits None w = tt
  start_fits (Some x) w = (load_fits x w, tt)

  mutual
    simple_fits : (t : Simple) → IsSimple p t → AllFit (simple_code t)
    simple_fits (Load n x) w = (load_fits x w, not_fits n)
    simple_fits (Apply o n x) w = (tt, (load_fits x w, fit_append (not_code n) (does.Apply o ∷ []) (not_fits n) (tt, tt)))
    simple_fits (Defer o n first inner) w =
        let tail = not_code n ++ does.Apply o ∷ [] in
        (tt, fit_append (start_code first) (inner_code inner ++ tail) (start_fits first w.0) (fit_append (inner_code inner) tail (inner_fits inner w.1) (fit_append (not_code n) (does.Apply o ∷ []) (not_fits n) (tt, tt))))
    simple_fits (Limit least most) w = (tt, (load_fits least w.0, (tt, (tt, (load_fits most w.1, (tt, tt))))))
    simple_fits (Select a b) w = (tt, (load_fits a w.0, (tt, (load_fits b w.1, (tt, tt)))))
    simple_fits Invert w = (tt, tt)
    simple_fits Absolute w = (tt, tt)
    simple_fits (Convert from to) w = (tt, tt)

    inner_fits : (t : Inner) → IsInner p t → AllFit (inner_code t)
    inner_fits Close w = tt
    inner_fits (Then head tail) w = fit_append (simple_code head) (inner_code tail) (simple_fits head w.0) (inner_fits tail w.1)

  store_fits : (place : Place) → IsPlace p place → Fit (store_of place)
  store_fits (InVariable i) w = let l = within_list p.variables i w in omega arith
  store_fits (InOutput i) w = let l = within_list p.tags i (tag_of_output (slice_get p.tags i) w) in omega arith

  set_fits : (value : Bool) (place : Place) → IsPlace p place → Fit (set_of value place)
  set_fits true (InVariable i) w = let l = within_list p.variables i w in omega arith
  set_fits true (InOutput i) w = let l = within_list p.tags i (tag_of_output (slice_get p.tags i) w) in omega arith
  set_fits false (InVariable i) w = let l = within_list p.variables i w in omega arith
  set_fits false (InOutput i) w = let l = within_list p.tags i (tag_of_output (slice_get p.tags i) w) in omega arith

  return_fits : (c : Condition) → Fit (return_of c)
  return_fits when.Always = tt
  return_fits when.IfTrue = tt
  return_fits when.IfFalse = tt

  module _ (address : ℕ → ℕ) (near : (label : ℕ) → address label < 65536) (few_limits : length p.limits ≤ 256) where
    action_fits : (action : Option Action) (earlier : List Line) → IsAction p earlier action → AllFit (action_code address action)
    action_fits None earlier w = tt
    action_fits (Some (Compute t)) earlier w = simple_fits t w.0
    action_fits (Some (Store false place)) earlier w = (store_fits place w, tt)
    action_fits (Some (Store true place)) earlier w = (tt, (store_fits place w, (tt, tt)))
    action_fits (Some (Set value place)) earlier w = (set_fits value place w, tt)
    action_fits (Some (Jump condition label)) earlier w = (near label, tt)
    action_fits (Some (Repeat condition label k limit)) earlier w =
        let l = slice_get_within p.limits k limit w.1.listed in
        let r : (k < 256) × (limit < 256) × (address label < 65536) = (omega arith, w.1.few, near label) in
        (r, tt)
    action_fits (Some (Return condition)) earlier w = (return_fits condition, tt)

    lines_fit : (earlier lines : List Line) → AreLines p earlier lines → AllFit (lines_code address lines)
    lines_fit earlier [] w = (tt, tt)
    lines_fit earlier (line ∷ lines) w =
        fit_append (action_code address line.action) (lines_code address lines) (action_fits line.action (line ∷ earlier) w.0) (lines_fit (line ∷ earlier) lines w.1)

-- a label's address lies within the code
label_within : (address : ℕ → ℕ) (lines : List Line) (a label : ℕ) → label_address lines a label ≤ past a (lines_code address lines)
label_within address [] a label = omega arith
label_within address (line ∷ lines) a label =
    let b = past a (action_code (λ l. 0) line.action) in
    let e : past b (lines_code address lines) ≡ past a (lines_code address (line ∷ lines)) = ap (λ n. past n (lines_code address lines)) (sym (same_size address line.action a)) ∙ sym (past_append a (action_code address line.action) (lines_code address lines)) in
    either (subst (λ n. label_address lines b label ≤ n) e (label_within address lines b label)) (has_label line.label label)
  where
    either : label_address lines (past a (action_code (λ l. 0) line.action)) label ≤ past a (lines_code address (line ∷ lines)) → (b : Bool) → (if b then a else label_address lines (past a (action_code (λ l. 0) line.action)) label) ≤ past a (lines_code address (line ∷ lines))
    either h true = past_grows a (lines_code address (line ∷ lines))
    either h false = h

pub long_as_past : (is : List Op) (a : ℕ) → a + length (spelled_all is) ≡ past a is
long_as_past [] a = omega arith
long_as_past (i ∷ is) a = let e = long_as_past is (a + length (spelled i)) in omega (arith, e, length-append (spelled i) (spelled_all is))

pub code_is_of_bytes : CodeIsOfBytes
code_is_of_bytes p well =
    let code = code_of_program p in
    let short = well.short in
    let near : (label : ℕ) → label_address p.body 0 label < 65536 = λ label. let l = label_within (label_address p.body 0) p.body 0 label in omega arith in (
      each_byte (spelled_all code) (all_small code (lines_fit p well.few_variables well.few_tags (label_address p.body 0) near well.few_limits [] p.body well.lines)),
      omega (arith, long_as_past code 0, short),
    )
