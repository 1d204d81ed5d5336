-- What flows on from an instruction, or why it is refused: the first cause that holds.
-- IEC 61131-3 edition 2, 3.2.2 table 52 (instruction list operators).
use Rattle.std.specs.Prelude.{ℕ, ◌+◌, Bool, true, false, ◌&&◌, ◌||◌, not, ℤ, pos, ◌-ℤ◌, List, [], ◌∷◌, ◌++◌, length, map, if◌then◌else◌, Result, Ok, Err, Option, Some, None, slice_get, slice_set, nat_eq, nat_lt}
use Rattle.point_types.specs.declared.il_type.IlType.{IlType}
use Rattle.point_types.specs.declared.il_type.IlType.TheVariants as il
use Rattle.point_types.specs.declared.operator.Operator.{Operator}
use Rattle.point_types.specs.declared.operator.Operator.TheVariants as op
use Rattle.point_types.specs.declared.operator.Condition.{Condition}
use Rattle.point_types.specs.declared.operator.Condition.TheVariants as when
use Rattle.scan_code.specs.declared.op.Op.{Op}
use Rattle.scan_code.specs.declared.op.Op.TheVariants as does
use Rattle.point_types.specs.Value.{low_of, high_of, is_bool, code_of, number_of, ◌>>=◌}
use Rattle.point_types.specs.declared.variable.Var.{Var}
use Rattle.facts.specs.Span.{Span, Empty, Between, only, joined, intersected, lies_in, has_member, operated, absolute_span, cut_by, mirrored, opposite}
use Rattle.intervals.specs.declared.Relation.{Relation}
use Rattle.intervals.specs.declared.Relation.TheVariants as is
use Rattle.facts.specs.declared.refusal.RefusalKind.{RefusalKind}
use Rattle.facts.specs.declared.refusal.RefusalKind.TheVariants.{Code, Jump, WrongType, Overflow, ZeroDivisor, MayBeMissing, Stack, StoreRange, NoResult}
use Rattle.facts.specs.Fact.{Fact, AbstractValue, Consequences, Origin, OfVariable, OfInput, nothing_for, united, with_span, under, any_empty}

-- what the site says of a tag
pub record TagRange : Type 0 where
  pub output : Bool
  pub kind : IlType
  pub low : ℤ
  pub high : ℤ
  pub has_default : Bool

-- what is fixed while a program is judged
pub record Context : Type 0 where
  pub variables : List Var
  pub tags : List TagRange
  pub depth : ℕ
  pub listing : List (ℕ × Op)

abbrev pub none_of : Context → Consequences
none_of c = nothing_for (length c.variables) (length c.tags)

-- a value with no origin and no consequence
abbrev pub plain_value : Context → IlType → Span → AbstractValue
plain_value c k s = record { kind = k; span = s; origin = None; where_true = none_of c; where_false = none_of c }

abbrev pub Way : Type 0
Way = ℕ × Fact

abbrev pub Flow : Type 0
Flow = Result (List Way) RefusalKind

abbrev pub goes_on : ℕ → Fact → Flow
goes_on to f = Ok ((to, f) ∷ [])

abbrev pub need : {A : Type 0} → RefusalKind → Option A → Result A RefusalKind
need e None = Err e
need e (Some a) = Ok a

abbrev pub check : RefusalKind → Bool → Result Bool RefusalKind
check e b = if b then Ok true else Err e

abbrev pub first_deferred : List (Option AbstractValue) → Result (Option AbstractValue × List (Option AbstractValue)) RefusalKind
first_deferred [] = Err Stack
first_deferred (v ∷ vs) = Ok (v, vs)

abbrev pub with_value : Fact → AbstractValue → Fact
with_value f v = record f { result = Some v }

-- a BOOL's own consequences: its source lies in 1..1, or in 0..0
abbrev pub source_value : Context → IlType → Span → Origin → AbstractValue
source_value c k s o = record {
  kind = k;
  span = s;
  origin = Some o;
  where_true = if is_bool k then with_span (Some o) (only (pos 1)) (none_of c) else none_of c;
  where_false = if is_bool k then with_span (Some o) (only (pos 0)) (none_of c) else none_of c;
}

abbrev pub presence_value : Context → ℕ → AbstractValue
presence_value c t = record (plain_value c il.Bool (Between (pos 0) (pos 1))) { where_true = record (none_of c) { present = slice_set (none_of c).present t true } }

abbrev pub truths : Span
truths = Between (pos 0) (pos 1)

-- 1 - high..1 - low, of the span of a BOOL, which lies in 0..1
abbrev pub flipped : Span → Span
flipped Empty = Empty
flipped (Between a b) = intersected (Between (pos 1 -ℤ b) (pos 1 -ℤ a)) truths

abbrev pub inverted_known : AbstractValue → AbstractValue
inverted_known v = record { kind = v.kind; span = flipped v.span; origin = None; where_true = v.where_false; where_false = v.where_true }

abbrev pub is_whole_pair : AbstractValue → AbstractValue → Bool
is_whole_pair d r = nat_eq (code_of d.kind) (code_of r.kind) && not (is_bool d.kind)

abbrev pub arithmetic_of : Context → Operator → AbstractValue → AbstractValue → Result AbstractValue RefusalKind
arithmetic_of c o d r =
    let s = operated o d.span r.span in
    check WrongType (is_whole_pair d r) >>= λ _. check Overflow (lies_in s (low_of d.kind) (high_of d.kind)) >>= λ _. Ok (plain_value c d.kind s)

abbrev pub division_of : Context → Operator → AbstractValue → AbstractValue → Result AbstractValue RefusalKind
division_of c o d r = check WrongType (is_whole_pair d r) >>= λ _. check ZeroDivisor (not (has_member (pos 0) r.span)) >>= λ _. arithmetic_of c o d r

abbrev pub logic_of : AbstractValue → AbstractValue → AbstractValue → Result AbstractValue RefusalKind
logic_of d r v = check WrongType (is_bool d.kind && is_bool r.kind) >>= λ _. Ok v

abbrev pub relation_sets : Context → Relation → AbstractValue → AbstractValue → Consequences
relation_sets c o d r = with_span r.origin (cut_by (mirrored o) r.span d.span) (with_span d.origin (cut_by o d.span r.span) (none_of c))

abbrev pub comparison_of : Context → Relation → Bool → AbstractValue → AbstractValue → Result AbstractValue RefusalKind
comparison_of c o on_bool d r =
    check WrongType (nat_eq (code_of d.kind) (code_of r.kind) && (on_bool || not (is_bool d.kind))) >>= λ _.
    Ok (record (plain_value c il.Bool (Between (pos 0) (pos 1))) { where_true = relation_sets c o d r; where_false = relation_sets c (opposite o) d r })

-- the value of d OP r
abbrev pub applied_known : Context → Operator → AbstractValue → AbstractValue → Result AbstractValue RefusalKind
applied_known c op.And d r = logic_of d r (record (plain_value c il.Bool (operated op.And d.span r.span)) { where_true = united d.where_true r.where_true })
applied_known c op.Or d r = logic_of d r (record (plain_value c il.Bool (operated op.Or d.span r.span)) { where_false = united d.where_false r.where_false })
applied_known c op.Xor d r = logic_of d r (plain_value c il.Bool (Between (pos 0) (pos 1)))
applied_known c op.Add d r = arithmetic_of c op.Add d r
applied_known c op.Sub d r = arithmetic_of c op.Sub d r
applied_known c op.Mul d r = arithmetic_of c op.Mul d r
applied_known c op.Min d r = arithmetic_of c op.Min d r
applied_known c op.Max d r = arithmetic_of c op.Max d r
applied_known c op.Div d r = division_of c op.Div d r
applied_known c op.Mod d r = division_of c op.Mod d r
applied_known c op.Eq d r = comparison_of c is.Eq true d r
applied_known c op.Ne d r = comparison_of c is.Ne true d r
applied_known c op.Gt d r = comparison_of c is.Gt false d r
applied_known c op.Ge d r = comparison_of c is.Ge false d r
applied_known c op.Le d r = comparison_of c is.Le false d r
applied_known c op.Lt d r = comparison_of c is.Lt false d r

abbrev pub names : Origin → Option Origin → Bool
names o None = false
names (OfVariable i) (Some (OfVariable j)) = nat_eq i j
names (OfVariable i) (Some (OfInput j)) = false
names (OfInput i) (Some (OfVariable j)) = false
names (OfInput i) (Some (OfInput j)) = nat_eq i j

abbrev pub without : ℕ → Consequences → Consequences
without v c = record c { variables = slice_set c.variables v None }

abbrev pub forgets : ℕ → AbstractValue → AbstractValue
forgets v k = record k { origin = if names (OfVariable v) k.origin then None else k.origin; where_true = without v k.where_true; where_false = without v k.where_false }

abbrev pub forgets_in : ℕ → Option AbstractValue → Option AbstractValue
forgets_in v None = None
forgets_in v (Some k) = Some (forgets v k)

-- what names the variable is dropped everywhere
abbrev pub forgotten : ℕ → Fact → Fact
forgotten v f = record f { deferred = map (forgets_in v) f.deferred; result = forgets_in v f.result }

abbrev pub stored_fact : ℕ → AbstractValue → Fact → Fact
stored_fact v r f = record (forgotten v (record f { variables = slice_set f.variables v r.span })) { result = Some (record (forgets v r) { origin = Some (OfVariable v) }) }

abbrev pub widened : ℕ → ℤ → Option Span → Fact → Fact
widened v n None f = forgotten v f
widened v n (Some s) f = forgotten v (record f { variables = slice_set f.variables v (joined s (only n)) })

-- the way on which the result is this truth, if it can be
abbrev pub way_where : Bool → AbstractValue → Fact → Option Fact
way_where b r f =
    let g = record (under (if b then r.where_true else r.where_false) f) { result = Some (record r { span = only (number_of b) }) } in
    if not (has_member (number_of b) r.span) || any_empty g.variables || any_empty g.inputs then None else Some g

abbrev pub way_to : ℕ → Option Fact → List Way
way_to n None = []
way_to n (Some f) = (n, f) ∷ []

abbrev pub bool_result : Fact → Result AbstractValue RefusalKind
bool_result f = need NoResult f.result >>= λ r. check WrongType (is_bool r.kind) >>= λ _. Ok r

-- the number of the instruction at an address, after this one
abbrev pub number_at : List (ℕ × Op) → ℕ → ℕ → Option ℕ
number_at [] n address = None
number_at (entry ∷ rest) n address = if nat_eq entry.0 address then Some n else number_at rest (n + 1) address

abbrev pub later : ℕ → Option ℕ → Result ℕ RefusalKind
later at None = Err Jump
later at (Some n) = if nat_lt at n then Ok n else Err Jump

abbrev pub earlier : ℕ → Option ℕ → Result ℕ RefusalKind
earlier at None = Err Jump
earlier at (Some n) = if nat_lt at n then Err Jump else Ok n

-- a condition wants a BOOL
abbrev pub tested : Condition → Fact → Result Bool RefusalKind
tested when.Always f = Ok true
tested when.IfTrue f = bool_result f >>= λ _. Ok true
tested when.IfFalse f = bool_result f >>= λ _. Ok true

abbrev pub jump_flow : Context → ℕ → Condition → ℕ → Fact → Flow
jump_flow c at when.Always to f = later at (number_at c.listing 0 to) >>= λ n. goes_on n f
jump_flow c at when.IfTrue to f = bool_result f >>= λ r. later at (number_at c.listing 0 to) >>= λ n. Ok (way_to (at + 1) (way_where false r f) ++ way_to n (way_where true r f))
jump_flow c at when.IfFalse to f = bool_result f >>= λ r. later at (number_at c.listing 0 to) >>= λ n. Ok (way_to (at + 1) (way_where true r f) ++ way_to n (way_where false r f))

abbrev pub return_flow : ℕ → Condition → Fact → Flow
return_flow at when.Always f = Ok []
return_flow at when.IfTrue f = bool_result f >>= λ r. Ok (way_to (at + 1) (way_where false r f))
return_flow at when.IfFalse f = bool_result f >>= λ r. Ok (way_to (at + 1) (way_where true r f))

abbrev pub same_type : IlType → AbstractValue → Result Bool RefusalKind
same_type k v = check WrongType (nat_eq (code_of k) (code_of v.kind))

-- with the value that an operation on d and r makes
abbrev pub on_operands : Fact → (AbstractValue → AbstractValue → Result AbstractValue RefusalKind) → ℕ → Flow
on_operands f make next =
    first_deferred f.deferred >>= λ top. need NoResult top.0 >>= λ d. need NoResult f.result >>= λ r. make d r >>= λ v. goes_on next (record f { result = Some v; deferred = top.1 })

abbrev pub on_result : Fact → (AbstractValue → Result AbstractValue RefusalKind) → ℕ → Flow
on_result f make next = need NoResult f.result >>= make >>= λ v. goes_on next (with_value f v)

abbrev pub selected_known : Context → AbstractValue → AbstractValue → AbstractValue → Result AbstractValue RefusalKind
selected_known c chooser a b = check WrongType (is_bool chooser.kind && nat_eq (code_of a.kind) (code_of b.kind)) >>= λ _. Ok (plain_value c a.kind (joined a.span b.span))

abbrev pub absolute_known : Context → AbstractValue → Result AbstractValue RefusalKind
absolute_known c v = let s = absolute_span v.span in
    check WrongType (not (is_bool v.kind)) >>= λ _. check Overflow (lies_in s (low_of v.kind) (high_of v.kind)) >>= λ _. Ok (plain_value c v.kind s)

abbrev pub converted_known : Context → IlType → IlType → AbstractValue → Result AbstractValue RefusalKind
converted_known c from to v = same_type from v >>= λ _. check Overflow (lies_in v.span (low_of to) (high_of to)) >>= λ _. Ok (plain_value c to v.span)

-- what flows on from instruction number at
abbrev pub flow : Context → ℕ → Op → Fact → Flow
flow c at does.End f = Ok []
flow c at (does.LoadVariable v) f = need Code (slice_get c.variables v) >>= λ d. need Code (slice_get f.variables v) >>= λ s. goes_on (at + 1) (with_value f (source_value c d.kind s (OfVariable v)))
flow c at (does.LoadInput t) f =
    need Code (slice_get c.tags t) >>= λ tag. need Code (slice_get f.inputs t) >>= λ s. need Code (slice_get f.present t) >>= λ here.
    check MayBeMissing (tag.has_default || here) >>= λ _. goes_on (at + 1) (with_value f (source_value c tag.kind s (OfInput t)))
flow c at (does.LoadPresence t) f = goes_on (at + 1) (with_value f (presence_value c t))
flow c at (does.LoadBool b) f = goes_on (at + 1) (with_value f (plain_value c il.Bool (only (number_of b))))
flow c at (does.LoadNumber k n) f = goes_on (at + 1) (with_value f (plain_value c k (only n)))
flow c at (does.StoreVariable v) f =
    need Code (slice_get c.variables v) >>= λ d. need NoResult f.result >>= λ r. same_type d.kind r >>= λ _.
    check StoreRange (lies_in r.span d.low d.high) >>= λ _. goes_on (at + 1) (stored_fact v r f)
flow c at (does.StoreOutput t) f =
    need Code (slice_get c.tags t) >>= λ tag. need NoResult f.result >>= λ r. same_type tag.kind r >>= λ _.
    check StoreRange (lies_in r.span tag.low tag.high) >>= λ _. goes_on (at + 1) f
flow c at (does.SetVariable v) f = need Code (slice_get c.variables v) >>= λ d. bool_result f >>= λ r. check WrongType (is_bool d.kind) >>= λ _. goes_on (at + 1) (widened v (pos 1) (slice_get f.variables v) f)
flow c at (does.ResetVariable v) f = need Code (slice_get c.variables v) >>= λ d. bool_result f >>= λ r. check WrongType (is_bool d.kind) >>= λ _. goes_on (at + 1) (widened v (pos 0) (slice_get f.variables v) f)
flow c at (does.SetOutput t) f = need Code (slice_get c.tags t) >>= λ tag. bool_result f >>= λ r. check WrongType (is_bool tag.kind) >>= λ _. check StoreRange (has_member (pos 1) (Between tag.low tag.high)) >>= λ _. goes_on (at + 1) f
flow c at (does.ResetOutput t) f = need Code (slice_get c.tags t) >>= λ tag. bool_result f >>= λ r. check WrongType (is_bool tag.kind) >>= λ _. check StoreRange (has_member (pos 0) (Between tag.low tag.high)) >>= λ _. goes_on (at + 1) f
flow c at does.Push f =
    check Stack (nat_lt (length f.deferred) c.depth && nat_lt (length f.deferred) 128) >>= λ _. need NoResult f.result >>= λ r. goes_on (at + 1) (record f { result = None; deferred = Some r ∷ f.deferred })
flow c at does.Not f = on_result f (λ r. check WrongType (is_bool r.kind) >>= λ _. Ok (inverted_known r)) (at + 1)
flow c at (does.Apply o) f = on_operands f (applied_known c o) (at + 1)
flow c at does.Select f =
    first_deferred f.deferred >>= λ top. first_deferred top.1 >>= λ below. need NoResult below.0 >>= λ chooser. need NoResult top.0 >>= λ a. need NoResult f.result >>= λ b.
    selected_known c chooser a b >>= λ v. goes_on (at + 1) (record f { result = Some v; deferred = below.1 })
flow c at does.Absolute f = on_result f (absolute_known c) (at + 1)
flow c at (does.Convert from to) f = on_result f (converted_known c from to) (at + 1)
flow c at (does.Jump condition to) f = jump_flow c at condition to f
flow c at (does.Return condition) f = return_flow at condition f
flow c at (does.Repeat condition k n to) f =
    check Stack (nat_eq (length f.deferred) 0) >>= λ _. tested condition f >>= λ _. earlier at (number_at c.listing 0 to) >>= λ _. goes_on (at + 1) f
