-- A reader that is read to its end within a limit.
use Rattle.std.proofs.Common.{◌≡◌, ℕ, ◌<◌, List, [], ◌++◌, length, take, ap, ◌∙◌, arith, sym, subst, IsUtf8, true, false, Option, Some, None, IfSome}
use Rattle.std.specs.Option.{option_map}
use Rattle.std.proofs.lemmas.List.{take_all, length-take}

-- fewer bytes than the limit are all bytes
pub whole_bytes : (known : Option (List ℕ)) (limit : ℕ) (bytes none : List ℕ) → none ≡ [] → length bytes < limit → IfSome (option_map (take limit) known) (λ xs. bytes ≡ none ++ xs) → IfSome known (λ all. bytes ≡ all)
whole_bytes None limit bytes none empty few h = h
whole_bytes (Some all) limit bytes none empty few h = part ∙ take_all limit all (omega (arith, ap length part, length-take limit all))
  where
    part : bytes ≡ take limit all
    part = h ∙ ap (λ t. t ++ take limit all) empty

-- where all bytes are no UTF-8, what is left of the reader isn't either
pub no_text : (known : Option (List ℕ)) (bytes : List ℕ) → IfSome known (λ all. bytes ≡ all) → (IsUtf8 bytes → false ≡ true) → IfSome known (λ all. ¬ (IsUtf8 all))
no_text None bytes h bad = h
no_text (Some all) bytes h bad = λ text. (let wrong : false ≡ true = bad (subst IsUtf8 (sym h) text) in cc)
