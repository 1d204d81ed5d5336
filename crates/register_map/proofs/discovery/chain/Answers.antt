-- Reads of a list leave it as it is, so its answers are those of the words.
use Rattle.std.proofs.Common.{◌≡◌, ℕ, [], ◌∷◌, refl, ap}
use Rattle.register_map.specs.declared.words.WordList.{WordList}
use Rattle.register_map.specs.Reads.{Answer}
use Rattle.register_map.specs.Search.{answer_from}
use Rattle.register_map.proofs.Carried.{IsSearch-back}
use Rattle.register_map.proofs.Readable.{words-readable}
use Rattle.register_map.proofs.discovery.chain.Goals as goal

pub returns-clause-map : goal.returns-clause-map
returns-clause-map c =
    let listed : WordList → ℕ → ℕ → Answer → WordList → Type 0 = λ s address count answer t. (answer ≡ answer_from s.words.now address count) × (s ≡ t) in
    let found = IsSearch-back {X = Unit {0}} listed (λ _ address count answer _. answer ≡ answer_from c.search.new.registers.words.now address count)
    (λ s _. s ≡ c.search.new.registers)
    (λ s t _ address count answer step same.
    let kept : s ≡ c.search.new.registers = rw step.1 same in
    let words = ap (λ (l : WordList). l.words.now) kept in
    (tt, kept, rw (← words) step.0))
    c.min-limit.result (record { words = c.args.words }) _ tt (0 ∷ []) c.search.result c.search.ensures.searched refl in
    let words : c.args.words.now ≡ c.search.new.registers.words.now = ap (λ (l : WordList). l.words.now) found.1 in
    rw (← c.min-limit.ensures, words) found.2

pub returns-clause-readable : goal.returns-clause-readable
returns-clause-readable c e = words-readable c.args.words.now c.search.result (returns-clause-map c) e
