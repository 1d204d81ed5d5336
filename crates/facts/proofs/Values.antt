-- Operations on values: what the verifier knows covers what the machine makes.
use Rattle.std.proofs.Common.{◌≡◌, ℕ, zero, suc, List, [], ◌∷◌, length, Result, Ok, Err, Option, Some, None, slice_get, slice_set, Bool, true, false, not, ◌&&◌, ◌||◌, nat_eq, ℤ, pos, negsuc, ◌+ℤ◌, ◌-ℤ◌, ◌*ℤ◌, int_div, int_rem, int_lt, int_le, ◌<ℤ◌, ◌≤ℤ◌, refl, sym, ap, subst, ◌∙◌, arith, if◌then◌else◌}
use Rattle.point_types.specs.declared.il_type.IlType.{IlType}
use Rattle.point_types.specs.declared.il_type.IlType.TheVariants as il
use Rattle.point_types.specs.declared.operator.Operator.{Operator}
use Rattle.point_types.specs.declared.operator.Operator.TheVariants as op
use Rattle.point_types.specs.declared.reading.Reading.{Reading}
use Rattle.point_types.specs.declared.reading.Reading.TheVariants as reading
use Rattle.point_types.specs.Value.{Value, Fault, truth, number_of, applied, inverted, WrongType, divided, on_numbers, on_bools, alike, same_kind, fitted, int_eq, int_least, int_most, code_of, low_of, high_of, is_bool, is_within, ◌>>=◌}
use Rattle.scan_code.specs.Table.{is_present, selected, absolute_of, converted, magnitude}
use Rattle.facts.specs.Span.{spanning, Span, Empty, Between, joined, only, operated_ends, operated, has_member, lies_in, absolute_span, cut_by, mirrored, opposite}
use Rattle.facts.specs.Fact.{AbstractValue, Consequences, Origin, united, with_span}
use Rattle.facts.specs.Flow.{Context, need, check, first_deferred, inverted_known, is_whole_pair, applied_known, selected_known, absolute_known, converted_known, relation_sets, comparison_of, logic_of, division_of, arithmetic_of, source_value, plain_value, presence_value, none_of}
use Rattle.facts.specs.declared.refusal.RefusalKind.{RefusalKind}
use Rattle.facts.specs.declared.refusal.RefusalKind.TheVariants.{ZeroDivisor, Overflow}
use Rattle.facts.specs.Fit.{IsIn, Hold, FitsValue, IfListed, HasOwnValue, origin_number}
use Rattle.facts.proofs.Comparing.{and_left, and_right, both_true, eq_out, eq_in, ends, le_true, true_le, true_lt, false_lt}
use Rattle.std.proofs.lemmas.Int.{ints, clamps}
use Rattle.std.specs.Int.{int_min, int_max}
use Rattle.intervals.specs.declared.Relation.{Relation}
use Rattle.intervals.specs.declared.Relation.TheVariants as is
use Rattle.intervals.specs.Ends.{between}
use Rattle.intervals.specs.Members.{Stands}
use Rattle.std.specs.Int.Signed.{≤ℤ_refl, le_z_yes}
use Rattle.facts.proofs.Lists.{by_same, set_at, get_set_other}
use Rattle.facts.proofs.Spans.{absolute_in, product_in, quot_in, rem_in, lies_low, lies_high, flipped_in, cut_in, stands_mirrored, in_joined_left, in_joined_right}
use Rattle.facts.proofs.Covering.{with_span_hold, nothing_for_hold, united_hold, same_code, code_same}
use Rattle.point_types.proofs.Truths.{bool_kind}

-- what holds of the result, if there is one
pub record Yields {A E : Type 0} (r : Result A E) (P : A → Type 0) : Type 0 where
  pub yields : (a : A) → r ≡ Ok a → P a

pub by_ok : {A E : Type 0} (a : A) (P : A → Type 0) → P a → Yields {E = E} (Ok a) P
by_ok a P h = record { yields = λ b e. subst P (cc) h }

pub by_bind : {A B E : Type 0} (r : Result A E) (k : A → Result B E) (P : B → Type 0) → ((a : A) → r ≡ Ok a → Yields (k a) P) → Yields (r >>= k) P
by_bind (Ok a) k P h = h a refl
by_bind (Err e) k P h = record { yields = λ b e. absurd (cc) }

pub by_need : {A B : Type 0} (e : RefusalKind) (o : Option A) (k : A → Result B RefusalKind) (P : B → Type 0) → ((a : A) → o ≡ Some a → Yields (k a) P) → Yields (need e o >>= k) P
by_need e (Some a) k P h = h a refl
by_need e None k P h = record { yields = λ b e. absurd (cc) }

pub by_check : {B : Type 0} (e : RefusalKind) (t : Bool) (k : Bool → Result B RefusalKind) (P : B → Type 0) → (t ≡ true → Yields (k true) P) → Yields (check e t >>= k) P
by_check e true k P h = h refl
by_check e false k P h = record { yields = λ b e. absurd (cc) }

weaker : {A E : Type 0} (r : Result A E) (P Q : A → Type 0) → Yields r P → ((a : A) → P a → Q a) → Yields r Q
weaker r P Q y h = record { yields = λ a e. h a (y.yields a e) }

and_true : (t : Bool) → t && true ≡ t
and_true true = refl
and_true false = refl

true_not_false : (t : Bool) → t ≡ true → t ≡ false → ⊥
true_not_false t e f = absurd (cc)

pub by_then : {A B E : Type 0} (r : Result A E) (k : A → Result B E) (Q : A → Type 0) (P : B → Type 0) → Yields r Q → ((a : A) → Q a → Yields (k a) P) → Yields (r >>= k) P
by_then (Ok a) k Q P y h = h a (y.yields a refl)
by_then (Err e) k Q P y h = record { yields = λ b e. absurd (cc) }

pub by_first : {B : Type 0} (ds : List (Option AbstractValue)) (k : Option AbstractValue × List (Option AbstractValue) → Result B RefusalKind) (P : B → Type 0) → ((d : Option AbstractValue) (rest : List (Option AbstractValue)) → ds ≡ d ∷ rest → Yields (k (d, rest)) P) → Yields (first_deferred ds >>= k) P
by_first [] k P h = record { yields = λ b e. absurd (cc) }
by_first (d ∷ ds) k P h = h d ds refl

-- the operation succeeds, with a value that is covered
abbrev pub Good : List ℤ → List Reading → Result Value Fault → AbstractValue → Type 0
Good vs rs (Ok v) k = FitsValue vs rs k v
Good vs rs (Err e) k = ⊥

pub bit_of : (n : ℤ) → IsIn (Between (pos 0) (pos 1)) n → (x : Bool) × (n ≡ number_of x)
bit_of (pos zero) h = (false, refl)
bit_of (pos (suc zero)) h = (true, refl)
bit_of (pos (suc (suc n))) h = absurd (omega (arith, ints, h.1))
bit_of (negsuc n) h = absurd (omega (arith, ints, h.0))

pub bit_test : (x : Bool) → int_eq (number_of x) (pos 1) ≡ x
bit_test true = refl
bit_test false = refl

pub number_in : (x : Bool) → IsIn (Between (pos 0) (pos 1)) (number_of x)
number_in true = (le_z_yes tt, le_z_yes tt)
number_in false = (le_z_yes tt, le_z_yes tt)

number_true : (x : Bool) → number_of x ≡ pos 1 → x ≡ true
number_true true e = refl
number_true false e = absurd (cc)

number_false : (x : Bool) → number_of x ≡ pos 0 → x ≡ false
number_false true e = absurd (cc)
number_false false e = refl

pub bit_zero : (x : Bool) → int_eq (number_of x) (pos 0) ≡ not x
bit_zero true = refl
bit_zero false = refl

not_true : (x : Bool) → not x ≡ true → x ≡ false
not_true true e = sym e
not_true false e = refl

not_false : (x : Bool) → not x ≡ false → x ≡ true
not_false true e = refl
not_false false e = sym e

not_member : (s : Span) (n : ℤ) → has_member (pos 0) s ≡ false → IsIn s n → int_eq n (pos 0) ≡ false
not_member Empty n e h = absurd h
not_member (Between a b) n e h = go (int_eq n (pos 0)) refl
  where
    go : (t : Bool) → int_eq n (pos 0) ≡ t → t ≡ false
    go true f = let z = eq_out n (pos 0) f in let p : a ≤ℤ pos 0 = omega (arith, ints, h.0) in let q : pos 0 ≤ℤ b = omega (arith, ints, h.1) in sym (both_true _ _ (le_true a (pos 0) p) (le_true (pos 0) b q)) ∙ e
    go false f = refl

or_left : (x y : Bool) → x || y ≡ false → x ≡ false
or_left true y e = e
or_left false y e = refl

or_right : (x y : Bool) → x || y ≡ false → y ≡ false
or_right true y e = grind arith
or_right false y e = e

false_le : (a b : ℤ) → int_le a b ≡ false → b <ℤ a
false_le a b e = omega (arith, ints)

least_and : (x y : Bool) (a b e f : ℤ) → a ≤ℤ number_of x → number_of x ≤ℤ b → e ≤ℤ number_of y → number_of y ≤ℤ f → IsIn (Between (int_min a e) (int_min b f)) (number_of (x && y))
least_and true true a b e f p q r s = (omega (arith, ends, clamps), omega (arith, ends, clamps))
least_and true false a b e f p q r s = (omega (arith, ends, clamps), omega (arith, ends, clamps))
least_and false true a b e f p q r s = (omega (arith, ends, clamps), omega (arith, ends, clamps))
least_and false false a b e f p q r s = (omega (arith, ends, clamps), omega (arith, ends, clamps))

most_or : (x y : Bool) (a b e f : ℤ) → a ≤ℤ number_of x → number_of x ≤ℤ b → e ≤ℤ number_of y → number_of y ≤ℤ f → IsIn (Between (int_max a e) (int_max b f)) (number_of (x || y))
most_or true true a b e f p q r s = (omega (arith, ends, clamps), omega (arith, ends, clamps))
most_or true false a b e f p q r s = (omega (arith, ends, clamps), omega (arith, ends, clamps))
most_or false true a b e f p q r s = (omega (arith, ends, clamps), omega (arith, ends, clamps))
most_or false false a b e f p q r s = (omega (arith, ends, clamps), omega (arith, ends, clamps))

divides : (g : ℤ → ℤ → ℤ) (a b : ℤ) → int_eq b (pos 0) ≡ false → divided g a b ≡ Ok (g a b)
divides g a b e = rw e refl

module _ (c : Context) (vs : List ℤ) (rs : List Reading) where
  none_hold : Hold vs rs (none_of c)
  none_hold = nothing_for_hold vs rs (length c.variables) (length c.tags)

  pub bit_value : (k : AbstractValue) (v : Value) → is_bool k.kind ≡ true → FitsValue vs rs k v → (x : Bool) × (v.number ≡ number_of x)
  bit_value k v e h = bit_of v.number (subst (λ (l : IlType). IsIn (Between (low_of l) (high_of l)) v.number) (bool_kind k.kind e) h.of_type)

  pub plain_fits : (k : IlType) (s : Span) (v : Value) → v.kind ≡ k → IsIn s v.number → IsIn (Between (low_of k) (high_of k)) v.number → FitsValue vs rs (plain_value c k s) v
  plain_fits k s v e h t = record { kind = e; span = h; of_type = t; origin = tt; where_true = λ e. none_hold; where_false = λ e. none_hold }

  -- a value of a variable or of an input
  pub source_fits : (k : IlType) (s : Span) (o : Origin) (n : ℤ) → IsIn s n → origin_number vs rs o ≡ Some n → IsIn (Between (low_of k) (high_of k)) n → FitsValue vs rs (source_value c k s o) (record { kind = k; number = n })
  source_fits k s o n h e t = record {
    kind = refl;
    span = h;
    of_type = t;
    origin = e;
    where_true = λ one. set (pos 1) (subst (λ (m : ℤ). IsIn (only m) n) one (≤ℤ_refl n, ≤ℤ_refl n)) (is_bool k);
    where_false = λ zero. set (pos 0) (subst (λ (m : ℤ). IsIn (only m) n) zero (≤ℤ_refl n, ≤ℤ_refl n)) (is_bool k);
  }
    where
      set : (m : ℤ) → IsIn (only m) n → (b : Bool) → Hold vs rs (if b then with_span (Some o) (only m) (none_of c) else none_of c)
      set m i true = with_span_hold vs rs (Some o) (only m) n (none_of c) e i none_hold
      set m i false = none_hold

  -- a truth with its consequences
  truth_fits : (s : Span) (t f : Consequences) (x : Bool) → IsIn s (number_of x) → (x ≡ true → Hold vs rs t) → (x ≡ false → Hold vs rs f) → FitsValue vs rs (record { kind = il.Bool; span = s; origin = None; where_true = t; where_false = f }) (truth x)
  truth_fits s t f x i p q = record { kind = refl; span = i; of_type = number_in x; origin = tt; where_true = λ e. p (number_true x e); where_false = λ e. q (number_false x e) }

  pub presence_fits : (t : ℕ) → FitsValue vs rs (presence_value c t) (truth (is_present (slice_get rs t)))
  presence_fits t = truth_fits (Between (pos 0) (pos 1)) (record (none_of c) { present = slice_set (none_of c).present t true }) (none_of c) (is_present (slice_get rs t)) (number_in (is_present (slice_get rs t))) there (λ e. none_hold)
    where
      own : (o : Option Reading) → is_present o ≡ true → HasOwnValue o
      own (Some (reading.Value n)) e = tt
      own (Some (reading.Default n x)) e = absurd (cc)
      own (Some (reading.Absent x)) e = absurd (cc)
      own None e = absurd (cc)

      there : is_present (slice_get rs t) ≡ true → Hold vs rs (record (none_of c) { present = slice_set (none_of c).present t true })
      there e = record {
        of_variables = none_hold.of_variables;
        of_inputs = none_hold.of_inputs;
        present = λ i. by_same {P = IfListed (slice_get (slice_set (none_of c).present t true) i) (HasOwnValue (slice_get rs i))} i t
            (λ same. subst (λ (m : ℕ). IfListed (slice_get (slice_set (none_of c).present t true) m) (HasOwnValue (slice_get rs m))) (sym same) (set_at (λ o. IfListed o (HasOwnValue (slice_get rs t))) (none_of c).present t true (own (slice_get rs t) e) tt))
            (λ other. subst (λ (o : Option Bool). IfListed o (HasOwnValue (slice_get rs i))) (sym (get_set_other (none_of c).present t i true other)) (none_hold.present i));
      }

  pub inverted_good : (k : AbstractValue) (v : Value) → FitsValue vs rs k v → is_bool k.kind ≡ true → Good vs rs (inverted v) (inverted_known k)
  inverted_good k v h e =
      let b = bit_value k v e h in
      let t : is_bool v.kind ≡ true = rw h.kind e in
      let z : int_eq v.number (pos 0) ≡ not b.0 = ap (λ (n : ℤ). int_eq n (pos 0)) b.1 ∙ bit_zero b.0 in
      let same = bool_kind k.kind e in
      rw (t, z) (record {
        kind = sym same;
        span = flipped_in k.span b.0 (subst (λ (n : ℤ). IsIn k.span n) b.1 h.span);
        of_type = subst (λ (l : IlType). IsIn (Between (low_of l) (high_of l)) (number_of (not b.0))) (sym same) (number_in (not b.0));
        origin = tt;
        where_true = λ one. h.where_false (b.1 ∙ ap number_of (not_true b.0 (number_true (not b.0) one)));
        where_false = λ zero. h.where_true (b.1 ∙ ap number_of (not_false b.0 (number_false (not b.0) zero)));
      })

  -- arithmetic
  numbers_good : (g : ℤ → ℤ → Result ℤ Fault) (d r : AbstractValue) (dv rv : Value) (s : Span) (z : ℤ) → FitsValue vs rs d dv → FitsValue vs rs r rv → is_whole_pair d r ≡ true → g dv.number rv.number ≡ Ok z → IsIn s z → lies_in s (low_of d.kind) (high_of d.kind) ≡ true → Good vs rs (on_numbers g dv rv) (plain_value c d.kind s)
  numbers_good g d r dv rv s z h k pair e i l =
      let p : same_kind dv rv && not (is_bool dv.kind) ≡ true = rw (h.kind, k.kind) pair in
      let low = lies_low s (low_of d.kind) (high_of d.kind) z l i in
      let high = lies_high s (low_of d.kind) (high_of d.kind) z l i in
      let w : is_within (low_of dv.kind) (high_of dv.kind) z ≡ true = rw h.kind (both_true _ _ (le_true _ _ low) (le_true _ _ high)) in
      rw (p, e, w) (plain_fits d.kind s (record { kind = dv.kind; number = z }) h.kind i (low, high))

  arithmetic_good : (o : Operator) (g : ℤ → ℤ → Result ℤ Fault) (d r : AbstractValue) (dv rv : Value) (z : ℤ) → FitsValue vs rs d dv → FitsValue vs rs r rv → g dv.number rv.number ≡ Ok z → (IsIn d.span dv.number → IsIn r.span rv.number → IsIn (operated o d.span r.span) z) → Yields (arithmetic_of c o d r) (Good vs rs (on_numbers g dv rv))
  arithmetic_good o g d r dv rv z h k e i =
      by_check _ _ _ _ (λ pair. by_check _ _ _ _ (λ l. by_ok _ _ (numbers_good g d r dv rv (operated o d.span r.span) z h k pair e (i h.span k.span) l)))

  -- no divisor is zero
  division_good : (o : Operator) (g : ℤ → ℤ → ℤ) (d r : AbstractValue) (dv rv : Value) → FitsValue vs rs d dv → FitsValue vs rs r rv → (has_member (pos 0) r.span ≡ false → IsIn d.span dv.number → IsIn r.span rv.number → IsIn (operated o d.span r.span) (g dv.number rv.number)) → Yields (division_of c o d r) (Good vs rs (on_numbers (divided g) dv rv))
  division_good o g d r dv rv h k i =
      by_check RefusalKind.WrongType (is_whole_pair d r) (λ x. check ZeroDivisor (not (has_member (pos 0) r.span)) >>= λ y. arithmetic_of c o d r) _ (λ pair. by_check ZeroDivisor _ (λ y. arithmetic_of c o d r) _ (λ out. arithmetic_good o (divided g) d r dv rv (g dv.number rv.number) h k (divides g dv.number rv.number (not_member r.span rv.number (not_true _ out) k.span)) (i (not_true _ out))))

  -- logic
  bools_good : (g : Bool → Bool → Bool) (d r k : AbstractValue) (dv rv : Value) → FitsValue vs rs d dv → FitsValue vs rs r rv → ((x y : Bool) → dv.number ≡ number_of x → rv.number ≡ number_of y → FitsValue vs rs k (truth (g x y))) → Yields (logic_of d r k) (Good vs rs (on_bools g dv rv))
  bools_good g d r k dv rv h l i = by_check _ _ _ _ (λ both. by_ok _ _ (
      let p = and_left (is_bool d.kind) _ both in
      let q = and_right (is_bool d.kind) _ both in
      let a = bit_value d dv p h in
      let b = bit_value r rv q l in
      let t : is_bool dv.kind && is_bool rv.kind ≡ true = rw (h.kind, l.kind) both in
      let x : int_eq dv.number (pos 1) ≡ a.0 = ap (λ (n : ℤ). int_eq n (pos 1)) a.1 ∙ bit_test a.0 in
      let y : int_eq rv.number (pos 1) ≡ b.0 = ap (λ (n : ℤ). int_eq n (pos 1)) b.1 ∙ bit_test b.0 in
      rw (t, x, y) (i a.0 b.0 a.1 b.1)))

  -- comparisons
  relation_hold : (o : Relation) (d r : AbstractValue) (dv rv : Value) → FitsValue vs rs d dv → FitsValue vs rs r rv → Stands o dv.number rv.number → Hold vs rs (relation_sets c o d r)
  relation_hold o d r dv rv h k t =
      with_span_hold vs rs r.origin (cut_by (mirrored o) r.span d.span) rv.number _ k.origin (cut_in (mirrored o) r.span d.span rv.number dv.number k.span h.span (stands_mirrored o dv.number rv.number t))
      (with_span_hold vs rs d.origin (cut_by o d.span r.span) dv.number _ h.origin (cut_in o d.span r.span dv.number rv.number h.span k.span t) none_hold)

  comparison_good : (o : Relation) (on_bool : Bool) (g : ℤ → ℤ → Bool) (d r : AbstractValue) (dv rv : Value) → FitsValue vs rs d dv → FitsValue vs rs r rv → ((x y : ℤ) → g x y ≡ true → Stands o x y) → ((x y : ℤ) → g x y ≡ false → Stands (opposite o) x y) → Yields (comparison_of c o on_bool d r) (λ k. Good vs rs (if same_kind dv rv && (on_bool || not (is_bool dv.kind)) then Ok (truth (g dv.number rv.number)) else Err WrongType) k)
  comparison_good o on_bool g d r dv rv h k on_yes on_no = by_check _ _ _ _ (λ pair. by_ok _ _ (
      let p : same_kind dv rv && (on_bool || not (is_bool dv.kind)) ≡ true = rw (h.kind, k.kind) pair in
      rw p (truth_fits _ _ _ (g dv.number rv.number) (number_in (g dv.number rv.number)) (λ e. relation_hold o d r dv rv h k (on_yes _ _ e)) (λ e. relation_hold (opposite o) d r dv rv h k (on_no _ _ e)))))

  operated_in : (o : Operator) (s t : Span) (x y z : ℤ) → ((a b e f : ℤ) → a ≤ℤ x → x ≤ℤ b → e ≤ℤ y → y ≤ℤ f → IsIn t y → t ≡ Between e f → IsIn (spanning (operated_ends o (between a b) (between e f))) z) → IsIn s x → IsIn t y → IsIn (operated o s t) z
  operated_in o Empty t x y z g h k = absurd h
  operated_in o (Between a b) Empty x y z g h k = absurd k
  operated_in o (Between a b) (Between e f) x y z g h k = g a b e f h.0 h.1 k.0 k.1 k refl

  away : (e f : ℤ) (t : Span) → has_member (pos 0) t ≡ false → t ≡ Between e f → (e ≤ℤ pos 0) × (pos 0 ≤ℤ f) → ⊥
  away e f t out is m = let k : has_member (pos 0) (Between e f) ≡ false = subst (λ (u : Span). has_member (pos 0) u ≡ false) is out in
      let l : has_member (pos 0) (Between e f) ≡ true = both_true _ _ (le_true e (pos 0) m.0) (le_true (pos 0) f m.1) in
      absurd (cc)

  alike_good : (o : Relation) (g : ℤ → ℤ → Bool) (d r : AbstractValue) (dv rv : Value) → FitsValue vs rs d dv → FitsValue vs rs r rv → ((x y : ℤ) → g x y ≡ true → Stands o x y) → ((x y : ℤ) → g x y ≡ false → Stands (opposite o) x y) → Yields (comparison_of c o true d r) (Good vs rs (alike g dv rv))
  alike_good o g d r dv rv h k on_yes on_no = weaker _ _ _ (comparison_good o true g d r dv rv h k on_yes on_no)
      (λ a. subst (λ (t : Bool). Good vs rs (if t then Ok (truth (g dv.number rv.number)) else Err WrongType) a) (and_true (same_kind dv rv)))

  pub applied_good : (o : Operator) (d r : AbstractValue) (dv rv : Value) → FitsValue vs rs d dv → FitsValue vs rs r rv → Yields (applied_known c o d r) (Good vs rs (applied o dv rv))
  applied_good op.And d r dv rv h k = bools_good (λ x y. x && y) d r _ dv rv h k (λ x y p q.
      truth_fits (operated op.And d.span r.span) (united d.where_true r.where_true) (none_of c) (x && y)
      (operated_in op.And d.span r.span (number_of x) (number_of y) (number_of (x && y)) (λ a b e f a' b' e' f' _ _. least_and x y a b e f a' b' e' f') (subst (λ (n : ℤ). IsIn d.span n) p h.span) (subst (λ (n : ℤ). IsIn r.span n) q k.span))
      (λ e. united_hold vs rs _ _ (h.where_true (p ∙ ap number_of (and_left x y e))) (k.where_true (q ∙ ap number_of (and_right x y e))))
      (λ e. none_hold))
  applied_good op.Or d r dv rv h k = bools_good (λ x y. x || y) d r _ dv rv h k (λ x y p q.
      truth_fits (operated op.Or d.span r.span) (none_of c) (united d.where_false r.where_false) (x || y)
      (operated_in op.Or d.span r.span (number_of x) (number_of y) (number_of (x || y)) (λ a b e f a' b' e' f' _ _. most_or x y a b e f a' b' e' f') (subst (λ (n : ℤ). IsIn d.span n) p h.span) (subst (λ (n : ℤ). IsIn r.span n) q k.span))
      (λ e. none_hold)
      (λ e. united_hold vs rs _ _ (h.where_false (p ∙ ap number_of (or_left x y e))) (k.where_false (q ∙ ap number_of (or_right x y e)))))
  applied_good op.Xor d r dv rv h k = bools_good (λ x y. if x then not y else y) d r _ dv rv h k (λ x y p q. truth_fits _ _ _ (if x then not y else y) (number_in (if x then not y else y)) (λ e. none_hold) (λ e. none_hold))
  applied_good op.Add d r dv rv h k = arithmetic_good op.Add (λ x y. Ok (x +ℤ y)) d r dv rv (dv.number +ℤ rv.number) h k refl (operated_in op.Add d.span r.span dv.number rv.number _ (λ a b e f a' b' e' f' _ _. (omega (arith, ints), omega (arith, ints))))
  applied_good op.Sub d r dv rv h k = arithmetic_good op.Sub (λ x y. Ok (x -ℤ y)) d r dv rv (dv.number -ℤ rv.number) h k refl (operated_in op.Sub d.span r.span dv.number rv.number _ (λ a b e f a' b' e' f' _ _. (omega (arith, ints), omega (arith, ints))))
  applied_good op.Mul d r dv rv h k = arithmetic_good op.Mul (λ x y. Ok (x *ℤ y)) d r dv rv (dv.number *ℤ rv.number) h k refl (operated_in op.Mul d.span r.span dv.number rv.number _ (λ a b e f a' b' e' f' _ _. product_in a b e f dv.number rv.number a' b' e' f'))
  applied_good op.Min d r dv rv h k = arithmetic_good op.Min (λ x y. Ok (int_least x y)) d r dv rv (int_least dv.number rv.number) h k refl (operated_in op.Min d.span r.span dv.number rv.number _ (λ a b e f a' b' e' f' _ _. (omega (arith, ends, clamps), omega (arith, ends, clamps))))
  applied_good op.Max d r dv rv h k = arithmetic_good op.Max (λ x y. Ok (int_most x y)) d r dv rv (int_most dv.number rv.number) h k refl (operated_in op.Max d.span r.span dv.number rv.number _ (λ a b e f a' b' e' f' _ _. (omega (arith, ends, clamps), omega (arith, ends, clamps))))
  applied_good op.Div d r dv rv h k = division_good op.Div int_div d r dv rv h k (λ out. operated_in op.Div d.span r.span dv.number rv.number _ (λ a b e f a' b' e' f' _ is. quot_in a b e f dv.number rv.number a' b' e' f' (away e f r.span out is)))
  applied_good op.Mod d r dv rv h k = division_good op.Mod int_rem d r dv rv h k (λ out. operated_in op.Mod d.span r.span dv.number rv.number _ (λ a b e f a' b' e' f' _ is. rem_in a b e f dv.number rv.number a' b' e' f' (away e f r.span out is)))
  applied_good op.Eq d r dv rv h k = alike_good is.Eq int_eq d r dv rv h k (λ x y e. eq_out x y e) (λ x y e f. absurd (true_not_false _ (eq_in x y f) e))
  applied_good op.Ne d r dv rv h k = alike_good is.Ne (λ x y. not (int_eq x y)) d r dv rv h k (λ x y e f. absurd (true_not_false _ (eq_in x y f) (not_true _ e))) (λ x y e. eq_out x y (not_false _ e))
  applied_good op.Gt d r dv rv h k = comparison_good is.Gt false (λ x y. int_lt y x) d r dv rv h k (λ x y e. true_lt y x e) (λ x y e. false_lt y x e)
  applied_good op.Ge d r dv rv h k = comparison_good is.Ge false (λ x y. int_le y x) d r dv rv h k (λ x y e. true_le y x e) (λ x y e. false_le y x e)
  applied_good op.Le d r dv rv h k = comparison_good is.Le false int_le d r dv rv h k (λ x y e. true_le x y e) (λ x y e. false_le x y e)
  applied_good op.Lt d r dv rv h k = comparison_good is.Lt false int_lt d r dv rv h k (λ x y e. true_lt x y e) (λ x y e. false_lt x y e)

  pub selected_good : (k a b : AbstractValue) (kv av bv : Value) → FitsValue vs rs k kv → FitsValue vs rs a av → FitsValue vs rs b bv → Yields (selected_known c k a b) (Good vs rs (selected kv av bv))
  selected_good k a b kv av bv hk ha hb = by_check _ _ _ _ (λ same. by_ok _ _ (
      let t : is_bool kv.kind && same_kind av bv ≡ true = rw (hk.kind, ha.kind, hb.kind) same in
      let e = same_code a.kind b.kind (and_right (is_bool k.kind) _ same) in
      rw t (go e (int_eq kv.number (pos 1)))))
    where
      go : a.kind ≡ b.kind → (t : Bool) → FitsValue vs rs (plain_value c a.kind (joined a.span b.span)) (if t then bv else av)
      go e true = plain_fits a.kind (joined a.span b.span) bv (hb.kind ∙ sym e) (in_joined_right a.span b.span bv.number hb.span) (subst (λ (l : IlType). IsIn (Between (low_of l) (high_of l)) bv.number) (sym e) hb.of_type)
      go e false = plain_fits a.kind (joined a.span b.span) av ha.kind (in_joined_left a.span b.span av.number ha.span) ha.of_type

  fitted_good : (k k' : IlType) (s : Span) (n : ℤ) → k' ≡ k → IsIn s n → lies_in s (low_of k) (high_of k) ≡ true → Good vs rs (fitted k' n) (plain_value c k s)
  fitted_good k k' s n e i l =
      let low = lies_low s (low_of k) (high_of k) n l i in
      let high = lies_high s (low_of k) (high_of k) n l i in
      let w : is_within (low_of k') (high_of k') n ≡ true = rw e (both_true _ _ (le_true _ _ low) (le_true _ _ high)) in
      rw w (plain_fits k s (record { kind = k'; number = n }) e i (low, high))

  pub absolute_good : (k : AbstractValue) (v : Value) → FitsValue vs rs k v → Yields (absolute_known c k) (Good vs rs (absolute_of v))
  absolute_good k v h = by_check _ _ (λ x. check Overflow (lies_in (absolute_span k.span) (low_of k.kind) (high_of k.kind)) >>= λ y. Ok (plain_value c k.kind (absolute_span k.span))) _ (λ whole. by_check _ _ (λ y. Ok (plain_value c k.kind (absolute_span k.span))) _ (λ l. by_ok (plain_value c k.kind (absolute_span k.span)) _ (
      let t : is_bool v.kind ≡ false = rw h.kind (not_true (is_bool k.kind) whole) in
      rw t (fitted_good k.kind v.kind (absolute_span k.span) (magnitude v.number) h.kind (absolute_in k.span v.number h.span) l))))

  pub converted_good : (from to : IlType) (k : AbstractValue) (v : Value) → FitsValue vs rs k v → Yields (converted_known c from to k) (Good vs rs (converted from to v))
  converted_good from to k v h = by_check _ _ (λ x. check Overflow (lies_in k.span (low_of to) (high_of to)) >>= λ y. Ok (plain_value c to k.span)) _ (λ same. by_check _ _ (λ y. Ok (plain_value c to k.span)) _ (λ l. by_ok (plain_value c to k.span) _ (
      let t : nat_eq (code_of v.kind) (code_of from) ≡ true = rw h.kind (code_same k.kind from (sym (same_code from k.kind same))) in
      rw t (fitted_good to to k.span v.number refl h.span l))))
