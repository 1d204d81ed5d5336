-- inner: what flows on, as the code takes it: first what is refused or made, then one step.
-- IEC 61131-3 edition 2, 3.2.2 table 52 (instruction list operators).
use Rattle.std.specs.Prelude.{ℕ, ◌+◌, ℤ, Bool, ◌&&◌, ◌||◌, not, if◌then◌else◌, List, ◌∷◌, ◌++◌, drop, Option, Some, None, Result, Ok, Err, slice_get}
use Rattle.point_types.specs.Value.{is_bool, ◌>>=◌}
use Rattle.facts.specs.declared.refusal.RefusalKind.{RefusalKind}
use Rattle.facts.specs.declared.refusal.RefusalKind.TheVariants.{Code, WrongType, StoreRange}
use Rattle.facts.specs.Span.{Between, has_member, joined}
use Rattle.facts.specs.Fact.{Fact, AbstractValue, any_empty, met_origin, met_set, met_value, zipped}
use Rattle.facts.specs.Flow.{Flow, Context, Way, bool_result, check, goes_on, need, stored_fact, way_to, way_where, widened, with_value}

-- to the next instruction where the result isn't this truth, and to the target where it is
abbrev pub jumps_where : ℕ → Bool → Result ℕ RefusalKind → Fact → Flow
jumps_where at b target f = bool_result f >>= λ r. target >>= λ n. Ok (way_to (at + 1) (way_where (not b) r f) ++ way_to n (way_where b r f))

-- to the next instruction where the result is this truth
abbrev pub stays_where : ℕ → Bool → Fact → Flow
stays_where at b f = bool_result f >>= λ r. Ok (way_to (at + 1) (way_where b r f))

abbrev pub refused_or : Option RefusalKind → Flow → Flow
refused_or None w = w
refused_or (Some kind) w = Err kind

-- what is made is the next result
abbrev pub with_made : ℕ → Fact → Result AbstractValue RefusalKind → Flow
with_made at f made = made >>= λ v. goes_on (at + 1) (with_value f v)

-- the last deferred value is taken away
abbrev pub popped : Fact → Fact
popped f = record f { deferred = drop 1 f.deferred }

-- the result is deferred
abbrev pub pushed : Fact → Fact
pushed f = record f { result = None; deferred = f.result ∷ f.deferred }

-- a way that can be gone
abbrev pub unless_empty : Fact → Option Fact
unless_empty f = if any_empty f.variables || any_empty f.inputs then None else Some f

-- a variable gets the result, if there is one
abbrev pub stored_result : ℕ → Option AbstractValue → Fact → Fact
stored_result v None f = f
stored_result v (Some r) f = stored_fact v r f

-- a variable may have got this truth
abbrev pub set_variable_flow : Context → ℕ → ℕ → ℤ → Fact → Flow
set_variable_flow c at v n f =
    need Code (slice_get c.variables v) >>= λ d. bool_result f >>= λ r. check WrongType (is_bool d.kind) >>= λ _.
    goes_on (at + 1) (widened v n (slice_get f.variables v) f)

-- an output may get this truth
abbrev pub set_output_flow : Context → ℕ → ℕ → ℤ → Fact → Flow
set_output_flow c at t n f =
    need Code (slice_get c.tags t) >>= λ tag. bool_result f >>= λ r. check WrongType (is_bool tag.kind) >>= λ _.
    check StoreRange (has_member n (Between tag.low tag.high)) >>= λ _. goes_on (at + 1) f

-- of two values of one type, what is known where ways meet
abbrev pub joined_known : AbstractValue → AbstractValue → AbstractValue
joined_known a b = record {
  kind = a.kind;
  span = joined a.span b.span;
  origin = met_origin a.origin b.origin;
  where_true = met_set a.where_true b.where_true;
  where_false = met_set a.where_false b.where_false;
}

-- of spans and presence, and of values, what is known where ways meet
abbrev pub joined_spans : Fact → Fact → Fact
joined_spans f g = record f { variables = zipped joined f.variables g.variables; inputs = zipped joined f.inputs g.inputs; present = zipped (λ x y. x && y) f.present g.present }

abbrev pub joined_values : Fact → Fact → Fact
joined_values f g = record f { deferred = zipped met_value f.deferred g.deferred; result = met_value f.result g.result }

-- what an instruction comes to: the next one follows with what is known now, or these ways, or it is refused
abbrev pub stepped : ℕ → Fact → Result (Option (List Way)) RefusalKind → Flow
stepped at f (Ok None) = goes_on (at + 1) f
stepped at f (Ok (Some ways)) = Ok ways
stepped at f (Err kind) = Err kind
