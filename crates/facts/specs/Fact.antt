-- What is known before an instruction, and how facts meet.
-- IEC 61131-3 edition 2, 2.4.3 (variables), 3.2.2 (the current result and deferred values).
use Rattle.std.specs.Prelude.{ℕ, Bool, true, false, ◌&&◌, ◌||◌, not, List, [], ◌∷◌, length, map, replicate, if◌then◌else◌, Option, Some, None, slice_get, slice_set, nat_eq, option_and_then}
use Rattle.point_types.specs.Value.{code_of}
use Rattle.facts.specs.Span.{Span, Empty, Between, joined, intersected}
pub use Rattle.facts.specs.Span.{same_span}
pub use Rattle.facts.specs.declared.abstract_value.Origin.{Origin}
pub use Rattle.facts.specs.declared.abstract_value.Origin.TheVariants.{OfVariable, OfInput}
pub use Rattle.facts.specs.declared.abstract_value.Consequences.{Consequences}
pub use Rattle.facts.specs.declared.abstract_value.AbstractValue.{AbstractValue}
pub use Rattle.facts.specs.declared.fact.Fact.{Fact}

abbrev pub same_optional : Option Span → Option Span → Bool
same_optional None None = true
same_optional None (Some s) = false
same_optional (Some s) None = false
same_optional (Some s) (Some t) = same_span s t

abbrev pub same_list : {A : Type 0} → (A → A → Bool) → List A → List A → Bool
same_list eq [] [] = true
same_list eq [] (y ∷ ys) = false
same_list eq (x ∷ xs) [] = false
same_list eq (x ∷ xs) (y ∷ ys) = eq x y && same_list eq xs ys

abbrev pub same_bool : Bool → Bool → Bool
same_bool true b = b
same_bool false b = not b

abbrev pub same_origin : Origin → Origin → Bool
same_origin (OfVariable i) (OfVariable j) = nat_eq i j
same_origin (OfVariable i) (OfInput j) = false
same_origin (OfInput i) (OfVariable j) = false
same_origin (OfInput i) (OfInput j) = nat_eq i j

abbrev pub same_consequences : Consequences → Consequences → Bool
same_consequences a b = same_list same_optional a.variables b.variables && same_list same_optional a.inputs b.inputs && same_list same_bool a.present b.present

abbrev pub nothing_like : Consequences → Consequences
nothing_like c = record { variables = map (λ s. None) c.variables; inputs = map (λ s. None) c.inputs; present = map (λ b. false) c.present }

-- no consequence, for so many variables and inputs
abbrev pub nothing_for : ℕ → ℕ → Consequences
nothing_for variables inputs = record { variables = replicate variables None; inputs = replicate inputs None; present = replicate inputs false }

abbrev pub zipped : {A B C : Type 0} → (A → B → C) → List A → List B → List C
zipped f [] bs = []
zipped f (a ∷ as') [] = []
zipped f (a ∷ as') (b ∷ bs) = f a b ∷ zipped f as' bs

abbrev pub both_spans : Option Span → Option Span → Option Span
both_spans None t = t
both_spans (Some s) None = Some s
both_spans (Some s) (Some t) = Some (intersected s t)

-- both sets; two spans of one origin are intersected
abbrev pub united : Consequences → Consequences → Consequences
united a b = record { variables = zipped both_spans a.variables b.variables; inputs = zipped both_spans a.inputs b.inputs; present = zipped (λ x y. x || y) a.present b.present }

abbrev pub with_span : Option Origin → Span → Consequences → Consequences
with_span None s c = c
with_span (Some (OfVariable i)) s c = record c { variables = slice_set c.variables i (both_spans (option_and_then (λ o. o) (slice_get c.variables i)) (Some s)) }
with_span (Some (OfInput i)) s c = record c { inputs = slice_set c.inputs i (both_spans (option_and_then (λ o. o) (slice_get c.inputs i)) (Some s)) }

abbrev pub applied_span : Span → Option Span → Span
applied_span s None = s
applied_span s (Some t) = intersected s t

-- the fact where a set of consequences holds
abbrev pub under : Consequences → Fact → Fact
under c f = record f { variables = zipped applied_span f.variables c.variables; inputs = zipped applied_span f.inputs c.inputs; present = zipped (λ x y. x || y) f.present c.present }

abbrev pub is_empty : Span → Bool
is_empty Empty = true
is_empty (Between a b) = false

abbrev pub any_empty : List Span → Bool
any_empty [] = false
any_empty (s ∷ ss) = is_empty s || any_empty ss

abbrev pub met_origin : Option Origin → Option Origin → Option Origin
met_origin None o = None
met_origin (Some a) None = None
met_origin (Some a) (Some b) = if same_origin a b then Some a else None

abbrev pub met_set : Consequences → Consequences → Consequences
met_set a b = if same_consequences a b then a else nothing_like a

abbrev pub met_known : AbstractValue → AbstractValue → Option AbstractValue
met_known a b =
    if nat_eq (code_of a.kind) (code_of b.kind)
    then Some (record { kind = a.kind; span = joined a.span b.span; origin = met_origin a.origin b.origin; where_true = met_set a.where_true b.where_true; where_false = met_set a.where_false b.where_false })
    else None

abbrev pub met_value : Option AbstractValue → Option AbstractValue → Option AbstractValue
met_value None v = None
met_value (Some a) None = None
met_value (Some a) (Some b) = met_known a b

-- what holds on both ways that meet; None where their deferred values differ in number
abbrev pub met : Fact → Fact → Option Fact
met f g =
    if nat_eq (length f.deferred) (length g.deferred)
    then Some (record {
      variables = zipped joined f.variables g.variables;
      inputs = zipped joined f.inputs g.inputs;
      present = zipped (λ x y. x && y) f.present g.present;
      deferred = zipped met_value f.deferred g.deferred;
      result = met_value f.result g.result;
    })
    else None
