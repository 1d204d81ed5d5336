-- Which variables and inputs have more to tell than what is declared, by their numbers.
-- IEC 61131-3 edition 2, 2.4.3 (variables); what is told of them is this project's.
use Rattle.std.specs.Prelude.{ℕ, ◌+◌, Bool, true, false, List, [], ◌∷◌, if◌then◌else◌}
use Rattle.facts.specs.Span.{Span, same_span}

-- of spans that are numbered from n on, those that differ from the others
abbrev pub differing : ℕ → List Span → List Span → List (ℕ × Span)
differing n [] others = []
differing n (s ∷ spans) [] = []
differing n (s ∷ spans) (other ∷ others) = if same_span s other then differing (n + 1) spans others else (n, s) ∷ differing (n + 1) spans others

-- of marks that are numbered from n on, the numbers of those that are set
abbrev pub numbers_of : ℕ → List Bool → List ℕ
numbers_of n [] = []
numbers_of n (true ∷ marks) = n ∷ numbers_of (n + 1) marks
numbers_of n (false ∷ marks) = numbers_of (n + 1) marks
