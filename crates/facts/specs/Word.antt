-- The words of refusals, as they are printed.
-- IEC 61131-3 edition 2, 3.2 leaves diagnostics open; these words are this project's.
use Rattle.std.specs.Prelude.{◌≡◌, ◌⊎◌, ℕ, List, codes, Result, Ok, Err, MatchResult}
use Rattle.facts.specs.declared.refusal.Refusal.{Refusal}
use Rattle.facts.specs.declared.refusal.RefusedAt.{RefusedAt}
use Rattle.facts.specs.declared.refusal.RefusedAt.TheVariants as spot
use Rattle.facts.specs.declared.refusal.RefusalKind.{RefusalKind}
use Rattle.facts.specs.declared.refusal.RefusalKind.TheVariants as kind

abbrev pub word_of : RefusalKind → List ℕ
word_of kind.Code = codes "Code"
word_of kind.Jump = codes "Jump"
word_of kind.WrongType = codes "Type"
word_of kind.Overflow = codes "Overflow"
word_of kind.ZeroDivisor = codes "ZeroDivisor"
word_of kind.MayBeMissing = codes "MayBeMissing"
word_of kind.Stack = codes "Stack"
word_of kind.StoreRange = codes "StoreRange"
word_of kind.TagUnknown = codes "TagUnknown"
word_of kind.TagType = codes "TagType"
word_of kind.TagAccess = codes "TagAccess"
word_of kind.NoResult = codes "NoResult"
word_of kind.OutOfMemory = codes "OutOfMemory"
word_of kind.OverBudget = codes "OverBudget"

-- the number that is printed of what is refused
abbrev pub number_of : RefusedAt → ℕ
number_of (spot.Instruction n) = n
number_of (spot.Tag n) = n
number_of spot.Program = 0

abbrev pub out_of_memory : Refusal
out_of_memory = record { at = spot.Program; kind = kind.OutOfMemory }

-- the definition's answer, or memory was refused
abbrev pub AnswersOrWantsMemory : {A B : Type 0} → (A → B) → Result B Refusal → Result A Refusal → Type 0
AnswersOrWantsMemory stands given answer = MatchResult answer (λ kept. given ≡ Ok (stands kept)) (λ refusal. (given ≡ Err refusal) ⊎ (refusal ≡ out_of_memory))
