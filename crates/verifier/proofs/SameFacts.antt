-- A fact stands for itself.
use Rattle.std.proofs.Common.{◌≡◌, List, [], ◌∷◌, Result, Ok, Err, Option, Some, None, option_map, IfOk, refl, ap}
use Rattle.facts.specs.declared.fact.Fact.{Fact}
use Rattle.facts.specs.Flow.{Way, Flow}
use Rattle.verifier.specs.Passing.{flow_stood, ways_stood}

ways_same : (ways : List Way) → ways_stood (λ f. f) ways ≡ ways
ways_same [] = refl
ways_same (way ∷ ways) = ap (λ (rest : List Way). way ∷ rest) (ways_same ways)

pub flow_same : (r : Flow) → flow_stood (λ f. f) r ≡ r
flow_same (Ok ways) = ap (λ (ws : List Way). Ok ws) (ways_same ways)
flow_same (Err kind) = refl

pub both_same : (o : Option Fact) → option_map (λ f. f) o ≡ o
both_same None = refl
both_same (Some f) = refl

pub if_ok_then : {A E : Type 0} (r : Result A E) (P Q : A → Type 0) → ((a : A) → P a → Q a) → IfOk r P → IfOk r Q
if_ok_then (Ok a) P Q f h = f a h
if_ok_then (Err e) P Q f h = h
