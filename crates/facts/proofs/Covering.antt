-- What becomes of facts covers what they covered.
use Rattle.std.proofs.Common.{◌≡◌, ℕ, suc, ◌<◌, List, [], ◌∷◌, length, map, Option, Some, None, option_and_then, slice_get, slice_set, Bool, true, false, ◌&&◌, ◌||◌, nat_eq, ℤ, refl, sym, ap, subst, ◌∙◌, arith, if◌then◌else◌}
use Rattle.point_types.specs.declared.il_type.IlType.{IlType}
use Rattle.point_types.specs.declared.il_type.IlType.TheVariants as il
use Rattle.scan_code.specs.Instruction.{types}
use Rattle.facts.specs.Slots.{Slot, Unreached, Holds, Clash, meets}
use Rattle.std.specs.Prelude.{unwrap_or}
use Rattle.point_types.specs.declared.reading.Reading.{Reading}
use Rattle.point_types.specs.Value.{Value, int_eq, code_of, low_of, high_of}
use Rattle.facts.specs.Span.{Span, Empty, Between, joined, intersected, only}
use Rattle.facts.specs.Fact.{Fact, AbstractValue, Consequences, Origin, OfVariable, OfInput, both_spans, united, with_span, applied_span, under, nothing_like, nothing_for, zipped, met_set, met_known, met_value, met_origin, same_list, same_optional, same_bool, same_origin, same_consequences, any_empty}
use Rattle.scan_code.specs.Machine.{State}
use Rattle.facts.specs.Flow.{without, names, forgets, forgets_in, widened, stored_fact}
use Rattle.facts.specs.Fit.{IsIn, LiesIn, HasIn, Hold, Fits, FitsValue, FitsResult, FitsDeferred, EqualsOrigin, IfListed, HasOwnValue, span_at, reading_number, origin_number}
use Rattle.facts.proofs.Comparing.{and_left, and_right, eq_out, three_true}
use Rattle.facts.proofs.Spans.{in_intersected, in_joined_left, in_joined_right}
use Rattle.facts.proofs.Lists.{by_same, get_set_same, get_set_other, set_at, zipped_at, mapped_at, repeated_at}
use Rattle.point_types.proofs.Truths.{nat_same as code_equal}

-- both of two consequences
both_in : (s t : Option Span) (n : Option ℤ) → HasIn s n → HasIn t n → HasIn (both_spans s t) n
both_in None t n h k = k
both_in (Some s) None n h k = h
both_in (Some s) (Some t) None h k = h
both_in (Some s) (Some t) (Some n) h k = in_intersected s t n h k

both_listed : (P : Type 0) (x y : Bool) → IfListed (Some x) P → IfListed (Some y) P → IfListed (Some (x || y)) P
both_listed P true y h k = h
both_listed P false y h k = k

listed_at : {A : Type 0} (Q : Option A → Type 0) (o : Option A) (a : A) → o ≡ Some a → Q o → Q (Some a)
listed_at Q o a e h = subst Q e h

pub united_hold : (vs : List ℤ) (rs : List Reading) (a b : Consequences) → Hold vs rs a → Hold vs rs b → Hold vs rs (united a b)
united_hold vs rs a b h k = record {
  of_variables = λ i. zipped_at (λ o. HasIn (option_and_then (λ s. s) o) (slice_get vs i)) both_spans a.variables b.variables i tt
      (λ x y p q. both_in x y (slice_get vs i) (listed_at (λ o. HasIn (option_and_then (λ s. s) o) (slice_get vs i)) _ x p (h.of_variables i)) (listed_at (λ o. HasIn (option_and_then (λ s. s) o) (slice_get vs i)) _ y q (k.of_variables i)));
  of_inputs = λ i. zipped_at (λ o. HasIn (option_and_then (λ s. s) o) (reading_number (slice_get rs i))) both_spans a.inputs b.inputs i tt
      (λ x y p q. both_in x y (reading_number (slice_get rs i)) (listed_at (λ o. HasIn (option_and_then (λ s. s) o) (reading_number (slice_get rs i))) _ x p (h.of_inputs i)) (listed_at (λ o. HasIn (option_and_then (λ s. s) o) (reading_number (slice_get rs i))) _ y q (k.of_inputs i)));
  present = λ i. zipped_at (λ o. IfListed o (HasOwnValue (slice_get rs i))) (λ x y. x || y) a.present b.present i tt
      (λ x y p q. both_listed (HasOwnValue (slice_get rs i)) x y (listed_at (λ o. IfListed o (HasOwnValue (slice_get rs i))) _ x p (h.present i)) (listed_at (λ o. IfListed o (HasOwnValue (slice_get rs i))) _ y q (k.present i)));
}

-- a span that an origin lies in
has_some : (s : Span) (o : Option ℤ) (n : ℤ) → o ≡ Some n → IsIn s n → HasIn (Some s) o
has_some s o n e h = subst (λ (p : Option ℤ). HasIn (Some s) p) (sym e) h

spans_with : (xs : List (Option Span)) (ns : ℕ → Option ℤ) (i : ℕ) (s : Span) (n : ℤ) → ((j : ℕ) → HasIn (span_at xs j) (ns j)) → ns i ≡ Some n → IsIn s n → (j : ℕ) → HasIn (span_at (slice_set xs i (both_spans (option_and_then (λ o. o) (slice_get xs i)) (Some s))) j) (ns j)
spans_with xs ns i s n h e k j = by_same {P = HasIn (span_at (slice_set xs i w) j) (ns j)} j i
    (λ same. subst (λ (m : ℕ). HasIn (span_at (slice_set xs i w) m) (ns m)) (sym same)
    (set_at (λ o. HasIn (option_and_then (λ t. t) o) (ns i)) xs i w (both_in (span_at xs i) (Some s) (ns i) (h i) (has_some s (ns i) n e k)) tt))
    (λ other. subst (λ (o : Option (Option Span)). HasIn (option_and_then (λ t. t) o) (ns j)) (sym (get_set_other xs i j w other)) (h j))
  where
    w : Option Span
    w = both_spans (option_and_then (λ o. o) (slice_get xs i)) (Some s)

pub with_span_hold : (vs : List ℤ) (rs : List Reading) (o : Option Origin) (s : Span) (n : ℤ) (c : Consequences) → EqualsOrigin vs rs o n → IsIn s n → Hold vs rs c → Hold vs rs (with_span o s c)
with_span_hold vs rs None s n c e k h = h
with_span_hold vs rs (Some (OfVariable i)) s n c e k h = record {
  of_variables = spans_with c.variables (slice_get vs) i s n h.of_variables e k;
  of_inputs = h.of_inputs;
  present = h.present;
}
with_span_hold vs rs (Some (OfInput i)) s n c e k h = record {
  of_variables = h.of_variables;
  of_inputs = spans_with c.inputs (λ j. reading_number (slice_get rs j)) i s n h.of_inputs e k;
  present = h.present;
}

pub nothing_for_hold : (vs : List ℤ) (rs : List Reading) (n m : ℕ) → Hold vs rs (nothing_for n m)
nothing_for_hold vs rs n m = record {
  of_variables = λ i. repeated_at (λ o. HasIn (option_and_then (λ s. s) o) (slice_get vs i)) n None i tt tt;
  of_inputs = λ i. repeated_at (λ o. HasIn (option_and_then (λ s. s) o) (reading_number (slice_get rs i))) m None i tt tt;
  present = λ i. repeated_at (λ o. IfListed o (HasOwnValue (slice_get rs i))) m false i tt tt;
}

pub nothing_like_hold : (vs : List ℤ) (rs : List Reading) (c : Consequences) → Hold vs rs (nothing_like c)
nothing_like_hold vs rs c = record {
  of_variables = λ i. mapped_at (λ o. HasIn (option_and_then (λ s. s) o) (slice_get vs i)) (λ s. None) c.variables i tt (λ a e. tt);
  of_inputs = λ i. mapped_at (λ o. HasIn (option_and_then (λ s. s) o) (reading_number (slice_get rs i))) (λ s. None) c.inputs i tt (λ a e. tt);
  present = λ i. mapped_at (λ o. IfListed o (HasOwnValue (slice_get rs i))) (λ b. false) c.present i tt (λ a e. tt);
}

-- a fact where a set of consequences holds
pub lies_of : (s : Span) (n : ℤ) → IsIn s n → LiesIn (Some s) (Some n)
lies_of Empty n h = h
lies_of (Between a b) n h = h

pub in_of : (s : Span) (n : ℤ) → LiesIn (Some s) (Some n) → IsIn s n
in_of Empty n h = h
in_of (Between a b) n h = h

applied_in : (s : Span) (t : Option Span) (n : Option ℤ) → LiesIn (Some s) n → HasIn t n → LiesIn (Some (applied_span s t)) n
applied_in s None n h k = h
applied_in s (Some t) None h k = absurd k
applied_in s (Some t) (Some n) h k = lies_of (intersected s t) n (in_intersected s t n (in_of s n h) k)

pub under_fits : (rs : List Reading) (c : Consequences) (f : Fact) (s : State) → Fits rs f s → Hold s.variables rs c → Fits rs (under c f) s
under_fits rs c f s h k = record {
  variables = λ i. zipped_at (λ o. LiesIn o (slice_get s.variables i)) applied_span f.variables c.variables i tt
      (λ x y p q. applied_in x y (slice_get s.variables i) (listed_at (λ o. LiesIn o (slice_get s.variables i)) _ x p (h.variables i)) (listed_at (λ o. HasIn (option_and_then (λ t. t) o) (slice_get s.variables i)) _ y q (k.of_variables i)));
  inputs = λ i. zipped_at (λ o. LiesIn o (reading_number (slice_get rs i))) applied_span f.inputs c.inputs i tt
      (λ x y p q. applied_in x y (reading_number (slice_get rs i)) (listed_at (λ o. LiesIn o (reading_number (slice_get rs i))) _ x p (h.inputs i)) (listed_at (λ o. HasIn (option_and_then (λ t. t) o) (reading_number (slice_get rs i))) _ y q (k.of_inputs i)));
  present = λ i. zipped_at (λ o. IfListed o (HasOwnValue (slice_get rs i))) (λ x y. x || y) f.present c.present i tt
      (λ x y p q. both_listed (HasOwnValue (slice_get rs i)) x y (listed_at (λ o. IfListed o (HasOwnValue (slice_get rs i))) _ x p (h.present i)) (listed_at (λ o. IfListed o (HasOwnValue (slice_get rs i))) _ y q (k.present i)));
  deferred = h.deferred;
  result = h.result;
}

-- no span of a fact that covers a state is empty
pub none_empty : (xs : List Span) (ns : ℕ → Option ℤ) → ((i : ℕ) → LiesIn (slice_get xs i) (ns i)) → any_empty xs ≡ false
none_empty [] ns h = refl
none_empty (Empty ∷ xs) ns h = absurd (h 0)
none_empty (Between a b ∷ xs) ns h = none_empty xs (λ i. ns (suc i)) (λ i. h (suc i))

-- sameness that is tested
same_optional_out : (s t : Option Span) → same_optional s t ≡ true → s ≡ t
same_optional_out None None e = refl
same_optional_out None (Some t) e = grind arith
same_optional_out (Some s) None e = grind arith
same_optional_out (Some Empty) (Some Empty) e = refl
same_optional_out (Some Empty) (Some (Between a b)) e = grind arith
same_optional_out (Some (Between a b)) (Some Empty) e = grind arith
same_optional_out (Some (Between a b)) (Some (Between c d)) e = let p = eq_out a c (and_left _ _ e) in let q = eq_out b d (and_right (int_eq a c) _ e) in cc

pub same_bool_out : (a b : Bool) → same_bool a b ≡ true → a ≡ b
same_bool_out true b e = sym e
same_bool_out false true e = e
same_bool_out false false e = refl

same_list_out : {A : Type 0} (eq : A → A → Bool) (xs ys : List A) → ((x y : A) → eq x y ≡ true → x ≡ y) → same_list eq xs ys ≡ true → xs ≡ ys
same_list_out eq [] [] out e = refl
same_list_out eq [] (y ∷ ys) out e = grind arith
same_list_out eq (x ∷ xs) [] out e = grind arith
same_list_out eq (x ∷ xs) (y ∷ ys) out e = let p = out x y (and_left _ _ e) in let q = same_list_out eq xs ys out (and_right (eq x y) _ e) in cc

same_sets : (a b : Consequences) → same_consequences a b ≡ true → a ≡ b
same_sets a b e =
    let t = three_true (same_list same_optional a.variables b.variables) (same_list same_optional a.inputs b.inputs) (same_list same_bool a.present b.present) e in
    let p = same_list_out same_optional a.variables b.variables same_optional_out t.0 in
    let q = same_list_out same_optional a.inputs b.inputs same_optional_out t.1 in
    let r = same_list_out same_bool a.present b.present same_bool_out t.2 in
    λ i. record { variables = p i; inputs = q i; present = r i }

met_left : (vs : List ℤ) (rs : List Reading) (a b : Consequences) → Hold vs rs a → Hold vs rs (met_set a b)
met_left vs rs a b h = go (same_consequences a b)
  where
    go : (t : Bool) → Hold vs rs (if t then a else nothing_like a)
    go true = h
    go false = nothing_like_hold vs rs a

met_right : (vs : List ℤ) (rs : List Reading) (a b : Consequences) → Hold vs rs b → Hold vs rs (met_set a b)
met_right vs rs a b h = go (same_consequences a b) refl
  where
    go : (t : Bool) → same_consequences a b ≡ t → Hold vs rs (if t then a else nothing_like a)
    go true e = subst (λ (c : Consequences). Hold vs rs c) (sym (same_sets a b e)) h
    go false e = nothing_like_hold vs rs a

same_origin_out : (a b : Origin) → same_origin a b ≡ true → a ≡ b
same_origin_out (OfVariable i) (OfVariable j) e = ap OfVariable (grind arith)
same_origin_out (OfVariable i) (OfInput j) e = grind arith
same_origin_out (OfInput i) (OfVariable j) e = grind arith
same_origin_out (OfInput i) (OfInput j) e = ap OfInput (grind arith)

met_origin_left : (vs : List ℤ) (rs : List Reading) (a b : Option Origin) (n : ℤ) → EqualsOrigin vs rs a n → EqualsOrigin vs rs (met_origin a b) n
met_origin_left vs rs None b n h = tt
met_origin_left vs rs (Some a) None n h = tt
met_origin_left vs rs (Some a) (Some b) n h = go (same_origin a b)
  where
    go : (t : Bool) → EqualsOrigin vs rs (if t then Some a else None) n
    go true = h
    go false = tt

met_origin_right : (vs : List ℤ) (rs : List Reading) (a b : Option Origin) (n : ℤ) → EqualsOrigin vs rs b n → EqualsOrigin vs rs (met_origin a b) n
met_origin_right vs rs None b n h = tt
met_origin_right vs rs (Some a) None n h = tt
met_origin_right vs rs (Some a) (Some b) n h = go (same_origin a b) refl
  where
    go : (t : Bool) → same_origin a b ≡ t → EqualsOrigin vs rs (if t then Some a else None) n
    go true e = subst (λ (o : Origin). origin_number vs rs o ≡ Some n) (sym (same_origin_out a b e)) h
    go false e = tt

abbrev type_of_code : ℕ → IlType
type_of_code n = unwrap_or (slice_get types n) il.Bool

type_numbered : (k : IlType) → k ≡ type_of_code (code_of k)
type_numbered il.Bool = refl
type_numbered il.Sint = refl
type_numbered il.Int = refl
type_numbered il.Dint = refl
type_numbered il.Lint = refl
type_numbered il.Usint = refl
type_numbered il.Uint = refl
type_numbered il.Udint = refl

itself : (k : IlType) → nat_eq (code_of k) (code_of k) ≡ true
itself il.Bool = refl
itself other = refl

-- types told apart by their numbers
pub same_code : (k l : IlType) → nat_eq (code_of k) (code_of l) ≡ true → k ≡ l
same_code k l e = type_numbered k ∙ ap type_of_code (code_equal (code_of k) (code_of l) e) ∙ sym (type_numbered l)

pub code_same : (k l : IlType) → k ≡ l → nat_eq (code_of k) (code_of l) ≡ true
code_same k l e = subst (λ (m : IlType). nat_eq (code_of k) (code_of m) ≡ true) e (itself k)

one_listed_left : (P : Type 0) (x y : Bool) → IfListed (Some x) P → IfListed (Some (x && y)) P
one_listed_left P true true h = h
one_listed_left P true false h = tt
one_listed_left P false y h = tt

one_listed_right : (P : Type 0) (x y : Bool) → IfListed (Some y) P → IfListed (Some (x && y)) P
one_listed_right P true y h = h
one_listed_right P false y h = tt

met_known_left : (vs : List ℤ) (rs : List Reading) (a b : AbstractValue) (v : Value) → FitsValue vs rs a v → FitsResult vs rs (met_known a b) (Some v)
met_known_left vs rs a b v h = go (nat_eq (code_of a.kind) (code_of b.kind))
  where
    go : (t : Bool) → FitsResult vs rs (if t then Some (record { kind = a.kind; span = joined a.span b.span; origin = met_origin a.origin b.origin; where_true = met_set a.where_true b.where_true; where_false = met_set a.where_false b.where_false }) else None) (Some v)
    go false = tt
    go true = record {
      kind = h.kind;
      span = in_joined_left a.span b.span v.number h.span;
      of_type = h.of_type;
      origin = met_origin_left vs rs a.origin b.origin v.number h.origin;
      where_true = λ e. met_left vs rs a.where_true b.where_true (h.where_true e);
      where_false = λ e. met_left vs rs a.where_false b.where_false (h.where_false e);
    }

met_known_right : (vs : List ℤ) (rs : List Reading) (a b : AbstractValue) (v : Value) → FitsValue vs rs b v → FitsResult vs rs (met_known a b) (Some v)
met_known_right vs rs a b v h = go (nat_eq (code_of a.kind) (code_of b.kind)) refl
  where
    go : (t : Bool) → nat_eq (code_of a.kind) (code_of b.kind) ≡ t → FitsResult vs rs (if t then Some (record { kind = a.kind; span = joined a.span b.span; origin = met_origin a.origin b.origin; where_true = met_set a.where_true b.where_true; where_false = met_set a.where_false b.where_false }) else None) (Some v)
    go false e = tt
    go true e = let same = same_code a.kind b.kind e in record {
      kind = h.kind ∙ sym same;
      span = in_joined_right a.span b.span v.number h.span;
      of_type = subst (λ (k : IlType). IsIn (Between (low_of k) (high_of k)) v.number) (sym same) h.of_type;
      origin = met_origin_right vs rs a.origin b.origin v.number h.origin;
      where_true = λ e. met_right vs rs a.where_true b.where_true (h.where_true e);
      where_false = λ e. met_right vs rs a.where_false b.where_false (h.where_false e);
    }

met_value_left : (vs : List ℤ) (rs : List Reading) (a b : Option AbstractValue) (v : Option Value) → FitsResult vs rs a v → FitsResult vs rs (met_value a b) v
met_value_left vs rs None b v h = tt
met_value_left vs rs (Some a) None v h = tt
met_value_left vs rs (Some a) (Some b) None h = absurd h
met_value_left vs rs (Some a) (Some b) (Some v) h = met_known_left vs rs a b v h

met_value_right : (vs : List ℤ) (rs : List Reading) (a b : Option AbstractValue) (v : Option Value) → FitsResult vs rs b v → FitsResult vs rs (met_value a b) v
met_value_right vs rs None b v h = tt
met_value_right vs rs (Some a) None v h = tt
met_value_right vs rs (Some a) (Some b) None h = absurd h
met_value_right vs rs (Some a) (Some b) (Some v) h = met_known_right vs rs a b v h

met_deferred_left : (vs : List ℤ) (rs : List Reading) (as' bs : List (Option AbstractValue)) (ws : List Value) → length as' ≡ length bs → FitsDeferred vs rs as' ws → FitsDeferred vs rs (zipped met_value as' bs) ws
met_deferred_left vs rs [] bs ws e h = h
met_deferred_left vs rs (a ∷ as') [] ws e h = absurd (omega arith)
met_deferred_left vs rs (a ∷ as') (b ∷ bs) [] e h = absurd h
met_deferred_left vs rs (a ∷ as') (b ∷ bs) (w ∷ ws) e h = (met_value_left vs rs a b (Some w) h.0, met_deferred_left vs rs as' bs ws (omega arith) h.1)

met_deferred_right : (vs : List ℤ) (rs : List Reading) (as' bs : List (Option AbstractValue)) (ws : List Value) → length as' ≡ length bs → FitsDeferred vs rs bs ws → FitsDeferred vs rs (zipped met_value as' bs) ws
met_deferred_right vs rs [] [] ws e h = h
met_deferred_right vs rs [] (b ∷ bs) ws e h = absurd (omega arith)
met_deferred_right vs rs (a ∷ as') [] ws e h = absurd (omega arith)
met_deferred_right vs rs (a ∷ as') (b ∷ bs) [] e h = absurd h
met_deferred_right vs rs (a ∷ as') (b ∷ bs) (w ∷ ws) e h = (met_value_right vs rs a b (Some w) h.0, met_deferred_right vs rs as' bs ws (omega arith) h.1)

pub joined_lies_left : (s t : Span) (n : Option ℤ) → LiesIn (Some s) n → LiesIn (Some (joined s t)) n
joined_lies_left Empty t n h = absurd h
joined_lies_left (Between a b) t (Some n) h = lies_of (joined (Between a b) t) n (in_joined_left (Between a b) t n h)
joined_lies_left (Between a b) Empty None h = tt
joined_lies_left (Between a b) (Between c d) None h = tt

pub joined_lies_right : (s t : Span) (n : Option ℤ) → LiesIn (Some t) n → LiesIn (Some (joined s t)) n
joined_lies_right s Empty n h = absurd h
joined_lies_right s (Between a b) (Some n) h = lies_of (joined s (Between a b)) n (in_joined_right s (Between a b) n h)
joined_lies_right Empty (Between a b) None h = tt
joined_lies_right (Between c d) (Between a b) None h = tt

-- the fact that met f g makes
abbrev both_facts : Fact → Fact → Fact
both_facts f g = record {
  variables = zipped joined f.variables g.variables;
  inputs = zipped joined f.inputs g.inputs;
  present = zipped (λ x y. x && y) f.present g.present;
  deferred = zipped met_value f.deferred g.deferred;
  result = met_value f.result g.result;
}

both_left : (rs : List Reading) (f g : Fact) (s : State) → length f.deferred ≡ length g.deferred → Fits rs f s → Fits rs (both_facts f g) s
both_left rs f g s e h = record {
  variables = λ i. zipped_at (λ o. LiesIn o (slice_get s.variables i)) joined f.variables g.variables i tt
      (λ x y p q. joined_lies_left x y (slice_get s.variables i) (listed_at (λ o. LiesIn o (slice_get s.variables i)) _ x p (h.variables i)));
  inputs = λ i. zipped_at (λ o. LiesIn o (reading_number (slice_get rs i))) joined f.inputs g.inputs i tt
      (λ x y p q. joined_lies_left x y (reading_number (slice_get rs i)) (listed_at (λ o. LiesIn o (reading_number (slice_get rs i))) _ x p (h.inputs i)));
  present = λ i. zipped_at (λ o. IfListed o (HasOwnValue (slice_get rs i))) (λ x y. x && y) f.present g.present i tt
      (λ x y p q. one_listed_left (HasOwnValue (slice_get rs i)) x y (listed_at (λ o. IfListed o (HasOwnValue (slice_get rs i))) _ x p (h.present i)));
  deferred = met_deferred_left s.variables rs f.deferred g.deferred s.deferred e h.deferred;
  result = met_value_left s.variables rs f.result g.result s.result h.result;
}

both_right : (rs : List Reading) (f g : Fact) (s : State) → length f.deferred ≡ length g.deferred → Fits rs g s → Fits rs (both_facts f g) s
both_right rs f g s e h = record {
  variables = λ i. zipped_at (λ o. LiesIn o (slice_get s.variables i)) joined f.variables g.variables i tt
      (λ x y p q. joined_lies_right x y (slice_get s.variables i) (listed_at (λ o. LiesIn o (slice_get s.variables i)) _ y q (h.variables i)));
  inputs = λ i. zipped_at (λ o. LiesIn o (reading_number (slice_get rs i))) joined f.inputs g.inputs i tt
      (λ x y p q. joined_lies_right x y (reading_number (slice_get rs i)) (listed_at (λ o. LiesIn o (reading_number (slice_get rs i))) _ y q (h.inputs i)));
  present = λ i. zipped_at (λ o. IfListed o (HasOwnValue (slice_get rs i))) (λ x y. x && y) f.present g.present i tt
      (λ x y p q. one_listed_right (HasOwnValue (slice_get rs i)) x y (listed_at (λ o. IfListed o (HasOwnValue (slice_get rs i))) _ y q (h.present i)));
  deferred = met_deferred_right s.variables rs f.deferred g.deferred s.deferred e h.deferred;
  result = met_value_right s.variables rs f.result g.result s.result h.result;
}

-- what covers a state: a fact that it fits; facts that don't meet are refused anyway
abbrev pub Covers : List Reading → Slot → State → Type 0
Covers rs Unreached s = ⊥
Covers rs (Holds f) s = Fits rs f s
Covers rs Clash s = Unit {0}

pub met_covers_left : (rs : List Reading) (f g : Fact) (s : State) → Fits rs f s → Covers rs (meets (Holds f) g) s
met_covers_left rs f g s h = go (nat_eq (length f.deferred) (length g.deferred)) refl
  where
    go : (t : Bool) → nat_eq (length f.deferred) (length g.deferred) ≡ t → Covers rs (elim (if t then Some (both_facts f g) else None) [ None ↦ Clash | Some h ↦ Holds h ]) s
    go true e = both_left rs f g s (code_equal _ _ e) h
    go false e = tt

pub met_covers_right : (rs : List Reading) (f g : Fact) (s : State) → Fits rs g s → Covers rs (meets (Holds f) g) s
met_covers_right rs f g s h = go (nat_eq (length f.deferred) (length g.deferred)) refl
  where
    go : (t : Bool) → nat_eq (length f.deferred) (length g.deferred) ≡ t → Covers rs (elim (if t then Some (both_facts f g) else None) [ None ↦ Clash | Some h ↦ Holds h ]) s
    go true e = both_right rs f g s (code_equal _ _ e) h
    go false e = tt

-- what is dropped of a variable that is written
module _ (rs : List Reading) (v : ℕ) (vs ws : List ℤ) (others : (j : ℕ) → (j ≡ v → ⊥) → slice_get ws j ≡ slice_get vs j) where
  without_hold : (c : Consequences) → Hold vs rs c → Hold ws rs (without v c)
  without_hold c h = record {
    of_variables = λ j. by_same {P = HasIn (span_at (slice_set c.variables v None) j) (slice_get ws j)} j v
        (λ same. subst (λ (m : ℕ). HasIn (span_at (slice_set c.variables v None) m) (slice_get ws m)) (sym same) (set_at (λ o. HasIn (option_and_then (λ t. t) o) (slice_get ws v)) c.variables v None tt tt))
        (λ other. subst (λ (o : Option (Option Span)). HasIn (option_and_then (λ t. t) o) (slice_get ws j)) (sym (get_set_other c.variables v j None other))
        (subst (λ (n : Option ℤ). HasIn (span_at c.variables j) n) (sym (others j other)) (h.of_variables j)));
    of_inputs = h.of_inputs;
    present = h.present;
  }

  origin_kept : (o : Option Origin) (n : ℤ) → names (OfVariable v) o ≡ false → EqualsOrigin vs rs o n → EqualsOrigin ws rs o n
  origin_kept None n e h = tt
  origin_kept (Some (OfVariable j)) n e h = others j (λ same. absurd (grind arith)) ∙ h
  origin_kept (Some (OfInput j)) n e h = h

  pub forgets_fits : (k : AbstractValue) (w : Value) → FitsValue vs rs k w → FitsValue ws rs (forgets v k) w
  forgets_fits k w h = record {
    kind = h.kind;
    span = h.span;
    of_type = h.of_type;
    origin = origin (names (OfVariable v) k.origin) refl;
    where_true = λ e. without_hold k.where_true (h.where_true e);
    where_false = λ e. without_hold k.where_false (h.where_false e);
  }
    where
      origin : (t : Bool) → names (OfVariable v) k.origin ≡ t → EqualsOrigin ws rs (if t then None else k.origin) w.number
      origin true e = tt
      origin false e = origin_kept k.origin w.number e h.origin

  forgets_result : (k : Option AbstractValue) (w : Option Value) → FitsResult vs rs k w → FitsResult ws rs (forgets_in v k) w
  forgets_result None w h = tt
  forgets_result (Some k) None h = absurd h
  forgets_result (Some k) (Some w) h = forgets_fits k w h

  forgets_deferred : (ks : List (Option AbstractValue)) (us : List Value) → FitsDeferred vs rs ks us → FitsDeferred ws rs (map (forgets_in v) ks) us
  forgets_deferred [] [] h = tt
  forgets_deferred [] (u ∷ us) h = absurd h
  forgets_deferred (k ∷ ks) [] h = absurd h
  forgets_deferred (k ∷ ks) (u ∷ us) h = (forgets_result k (Some u) h.0, forgets_deferred ks us h.1)

  spans_written : (xs : List Span) (s : Span) → ((i : ℕ) → LiesIn (slice_get xs i) (slice_get vs i)) → LiesIn (Some s) (slice_get ws v) → (i : ℕ) → LiesIn (slice_get (slice_set xs v s) i) (slice_get ws i)
  spans_written xs s h k i = by_same {P = LiesIn (slice_get (slice_set xs v s) i) (slice_get ws i)} i v
      (λ same. subst (λ (m : ℕ). LiesIn (slice_get (slice_set xs v s) m) (slice_get ws m)) (sym same) (set_at (λ o. LiesIn o (slice_get ws v)) xs v s k tt))
      (λ other. subst (λ (o : Option Span). LiesIn o (slice_get ws i)) (sym (get_set_other xs v i s other)) (subst (λ (n : Option ℤ). LiesIn (slice_get xs i) n) (sym (others i other)) (h i)))

-- a variable that may have become n
pub widened_fits : (rs : List Reading) (v : ℕ) (n : ℤ) (f : Fact) (s : State) (ws : List ℤ) (a : ℕ) → ((j : ℕ) → (j ≡ v → ⊥) → slice_get ws j ≡ slice_get s.variables j) → Fits rs f s → ((p : Span) → slice_get f.variables v ≡ Some p → LiesIn (Some (joined p (only n))) (slice_get ws v)) → Fits rs (widened v n (slice_get f.variables v) f) (record s { address = a; variables = ws })
widened_fits rs v n f s ws a others h k = go (slice_get f.variables v) refl
  where
    unlisted : slice_get f.variables v ≡ None → (i : ℕ) → LiesIn (slice_get f.variables i) (slice_get ws i)
    unlisted e i = by_same {P = LiesIn (slice_get f.variables i) (slice_get ws i)} i v
        (λ same. subst (λ (m : ℕ). LiesIn (slice_get f.variables m) (slice_get ws m)) (sym same) (subst (λ (o : Option Span). LiesIn o (slice_get ws v)) (sym e) tt))
        (λ other. subst (λ (m : Option ℤ). LiesIn (slice_get f.variables i) m) (sym (others i other)) (h.variables i))

    go : (o : Option Span) → slice_get f.variables v ≡ o → Fits rs (widened v n o f) (record s { address = a; variables = ws })
    go None e = record {
      variables = unlisted e;
      inputs = h.inputs;
      present = h.present;
      deferred = forgets_deferred rs v s.variables ws others f.deferred s.deferred h.deferred;
      result = forgets_result rs v s.variables ws others f.result s.result h.result;
    }
    go (Some p) e = record {
      variables = spans_written rs v s.variables ws others f.variables (joined p (only n)) h.variables (k p e);
      inputs = h.inputs;
      present = h.present;
      deferred = forgets_deferred rs v s.variables ws others f.deferred s.deferred h.deferred;
      result = forgets_result rs v s.variables ws others f.result s.result h.result;
    }

-- a variable that was written with the result
pub stored_fits : (rs : List Reading) (v : ℕ) (f : Fact) (r : AbstractValue) (w : Value) (s : State) (a : ℕ) → v < length s.variables → Fits rs f s → s.result ≡ Some w → FitsValue s.variables rs r w → Fits rs (stored_fact v r f) (record s { address = a; variables = slice_set s.variables v w.number })
stored_fits rs v f r w s a long h e k = record {
  variables = spans_written rs v s.variables ws others f.variables r.span h.variables (subst (λ (o : Option ℤ). LiesIn (Some r.span) o) (sym here) (lies_of r.span w.number k.span));
  inputs = h.inputs;
  present = h.present;
  deferred = forgets_deferred rs v s.variables ws others f.deferred s.deferred h.deferred;
  result = subst (λ (o : Option Value). FitsResult ws rs (Some (record (forgets v r) { origin = Some (OfVariable v) })) o) (sym e) value;
}
  where
    ws : List ℤ
    ws = slice_set s.variables v w.number

    others : (j : ℕ) → (j ≡ v → ⊥) → slice_get ws j ≡ slice_get s.variables j
    others j n = get_set_other s.variables v j w.number n

    here : slice_get ws v ≡ Some w.number
    here = get_set_same s.variables v w.number long

    value : FitsValue ws rs (record (forgets v r) { origin = Some (OfVariable v) }) w
    value = let g = forgets_fits rs v s.variables ws others r w k in record { kind = g.kind; span = g.span; of_type = g.of_type; origin = here; where_true = g.where_true; where_false = g.where_false }
