-- What the words name.
use Rattle.std.proofs.Common.{ℕ, ◌≤◌, List, [], ◌++◌, length, drop, sym, subst}
use Rattle.std.proofs.lemmas.List.{append-nil, drop_all}
use Rattle.std.specs.Borrow.{Bor}
use Rattle.service_texts.specs.declared.writers.Writer.{Writer}
use Rattle.service_texts.specs.Writers.{AreNamed}

-- after the last word no more is named
pub named_all : (words : List (Bor (List ℕ))) (n : ℕ) (writers : List Writer)
    → ((more : List Writer) → AreNamed (drop n words) more → AreNamed words (writers ++ more)) → length words ≤ n → AreNamed words writers
named_all words n writers h over = subst (AreNamed words) (append-nil writers) (h [] (subst (λ ws. AreNamed ws []) (sym (drop_all n words over)) tt))
