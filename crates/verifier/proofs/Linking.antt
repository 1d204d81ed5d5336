-- Links are found one after the other.
use Rattle.std.proofs.Common.{List, ◌++◌, Result, Ok, Err}
use Rattle.facts.specs.declared.refusal.Refusal.{Refusal}

-- what was found, before what is still to be found
abbrev pub behind : {A : Type 0} → List A → Result (List A) Refusal → Result (List A) Refusal
behind before (Ok rest) = Ok (before ++ rest)
behind before (Err refusal) = Err refusal
