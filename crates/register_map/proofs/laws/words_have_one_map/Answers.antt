-- Words answer each read in one way.
use Rattle.std.proofs.Common.{[], ◌∷◌, ◌≡◌, length, min, refl}
use Rattle.register_map.specs.Search.{all_registers, answer_from}
use Rattle.register_map.proofs.Once.{search-once}
use Rattle.register_map.proofs.laws.words_have_one_map.Goals as goal

pub returns : goal.returns
returns c words r q x y =
    (search-once {S = Unit {0}} (λ _ address count answer _. answer ≡ answer_from words address count) (λ s address count a b t u e f. (cc, refl))
    (min (length words) all_registers) tt (0 ∷ []) tt tt r q x y).0
