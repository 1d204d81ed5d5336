-- A scan ends at END and at returns alone.
use Rattle.std.proofs.Common.{ℕ, List, [], ◌∷◌, Result, Ok, Err, Option, Some, None, slice_get, Bool, true, false, ◌&&◌, nat_eq, nat_lt, nat_le, length, if◌then◌else◌, pos}
use Rattle.point_types.specs.declared.reading.Reading.{Reading}
use Rattle.point_types.specs.declared.il_type.IlType.{IlType}
use Rattle.point_types.specs.Value.{Value, Fault, WrongType, truth, applied, inverted, is_bool, int_eq, ◌>>=◌}
use Rattle.scan_code.specs.Table.{input_kind, output_kind, storable, output_value, read_value, declared_value, or_wrong, acts, absolute_of, converted, selected}
use Rattle.scan_code.specs.Image.{Image}
use Rattle.scan_code.specs.declared.op.Op.{Op}
use Rattle.scan_code.specs.declared.op.Op.TheVariants as does
use Rattle.scan_code.specs.Machine.{State, Step, Goes, Ends, Traps, then_goes, on_place, on_deferred, on_two_deferred, counted, done, most_deferred, put_variable, put_output, if_true}

abbrev pub NeverEnds : Step → Type 0
NeverEnds (Goes t) = Unit {0}
NeverEnds (Ends t) = ⊥
NeverEnds (Traps e) = Unit {0}

-- the same, of an instruction that is known by its form
pub record Quiet (x : Step) : Type 0 where
  pub quiet : NeverEnds x

goes : (s : State) → Quiet (Goes s)
goes s = record { quiet = tt }

by_result : {A : Type 0} (r : Result A Fault) (go : A → Step) → ((a : A) → Quiet (go a)) → Quiet (then_goes r go)
by_result (Ok a) go h = h a
by_result (Err e) go h = record { quiet = tt }

by_place : {A : Type 0} (o : Option A) (go : A → Step) → ((a : A) → Quiet (go a)) → Quiet (on_place o go)
by_place None go h = record { quiet = tt }
by_place (Some a) go h = h a

by_deferred : (vs : List Value) (go : Value → List Value → Step) → ((v : Value) (rest : List Value) → Quiet (go v rest)) → Quiet (on_deferred vs go)
by_deferred [] go h = record { quiet = tt }
by_deferred (v ∷ vs) go h = h v vs

by_two : (vs : List Value) (go : Value → Value → List Value → Step) → ((v w : Value) (rest : List Value) → Quiet (go v w rest)) → Quiet (on_two_deferred vs go)
by_two [] go h = record { quiet = tt }
by_two (v ∷ []) go h = record { quiet = tt }
by_two (v ∷ w ∷ vs) go h = h v w vs

by_test : (t : Bool) (x y : Step) → Quiet x → Quiet y → Quiet (if t then x else y)
by_test true x y h k = h
by_test false x y h k = k

by_count : (next k limit to : ℕ) (s : State) (t : Bool) (n : Option ℕ) → Quiet (counted next k limit to s t n)
by_count next k limit to s false n = goes _
by_count next k limit to s true None = record { quiet = tt }
by_count next k limit to s true (Some n) = by_test (nat_lt n limit) _ _ (goes _) (goes _)

put_quiet : (image : Image) (next v : ℕ) (value : Value) (s : State) → Quiet (put_variable image next v value s)
put_quiet image next v value s = by_place (slice_get image.vars v) _ (λ d. by_result (storable (Some d) value) _ (λ n. goes _))

out_quiet : (next t : ℕ) (k : IlType) (value : Value) (s : State) → Quiet (put_output next t k value s)
out_quiet next t k value s = by_result (output_value (Some k) value) _ (λ n. goes _)

true_quiet : (k : IlType) (next : ℕ) (s : State) (act : Step) → Quiet act → Quiet (if_true k next s act)
true_quiet k next s act h = by_result (or_wrong s.result >>= λ r. if is_bool r.kind && is_bool k then Ok (int_eq r.number (pos 1)) else Err WrongType) _ (λ b. by_test b _ _ h (goes _))

-- every instruction but END and the returns
abbrev pub IsEnding : Op → Type 0
IsEnding does.End = Unit {0}
IsEnding (does.Return condition) = Unit {0}
IsEnding other = ⊥

pub goes_on : (image : Image) (rs : List Reading) (here next : ℕ) (i : Op) (s : State) → (IsEnding i → ⊥) → Quiet (done image rs here next i s)
goes_on image rs here next does.End s n = absurd (n tt)
goes_on image rs here next (does.Return condition) s n = absurd (n tt)
goes_on image rs here next (does.LoadVariable v) s n = by_place (slice_get image.vars v) _ (λ d. by_result (declared_value (Some d) (slice_get s.variables v)) _ (λ a. goes _))
goes_on image rs here next (does.LoadInput t) s n = by_place (input_kind (slice_get image.tags t)) _ (λ k. by_result (read_value (Some k) (slice_get rs t)) _ (λ a. goes _))
goes_on image rs here next (does.LoadPresence t) s n = by_place (input_kind (slice_get image.tags t)) _ (λ d. goes _)
goes_on image rs here next (does.LoadBool b) s n = goes _
goes_on image rs here next (does.LoadNumber k m) s n = goes _
goes_on image rs here next (does.StoreVariable v) s n = by_place (slice_get image.vars v) _ (λ d. by_result (or_wrong s.result) _ (λ r. put_quiet image next v r s))
goes_on image rs here next (does.StoreOutput t) s n = by_place (output_kind (slice_get image.tags t)) _ (λ k. by_result (or_wrong s.result) _ (λ r. out_quiet next t k r s))
goes_on image rs here next (does.SetVariable v) s n = by_place (slice_get image.vars v) _ (λ d. true_quiet d.kind next s _ (put_quiet image next v (truth true) s))
goes_on image rs here next (does.ResetVariable v) s n = by_place (slice_get image.vars v) _ (λ d. true_quiet d.kind next s _ (put_quiet image next v (truth false) s))
goes_on image rs here next (does.SetOutput t) s n = by_place (output_kind (slice_get image.tags t)) _ (λ k. true_quiet k next s _ (out_quiet next t k (truth true) s))
goes_on image rs here next (does.ResetOutput t) s n = by_place (output_kind (slice_get image.tags t)) _ (λ k. true_quiet k next s _ (out_quiet next t k (truth false) s))
goes_on image rs here next does.Push s n = by_test (nat_lt (length s.deferred) most_deferred) _ _ (by_result (or_wrong s.result) _ (λ r. goes _)) (record { quiet = tt })
goes_on image rs here next does.Not s n = by_result (or_wrong s.result >>= inverted) _ (λ a. goes _)
goes_on image rs here next (does.Apply o) s n = by_deferred s.deferred _ (λ v rest. by_result (or_wrong s.result >>= applied o v) _ (λ a. goes _))
goes_on image rs here next does.Select s n = by_two s.deferred _ (λ v w rest. by_result (or_wrong s.result >>= selected w v) _ (λ a. goes _))
goes_on image rs here next does.Absolute s n = by_result (or_wrong s.result >>= absolute_of) _ (λ a. goes _)
goes_on image rs here next (does.Convert from to) s n = by_result (or_wrong s.result >>= converted from to) _ (λ a. goes _)
goes_on image rs here next (does.Jump condition to) s n = by_test (nat_lt here to) _ _ (by_result (acts condition s.result) _ (λ b. goes _)) (record { quiet = tt })
goes_on image rs here next (does.Repeat condition k limit to) s n = by_test (nat_eq image.version 2 && nat_le to here) _ _ (by_result (acts condition s.result) _ (λ b. by_count next k limit to s b (slice_get s.taken k))) (record { quiet = tt })
