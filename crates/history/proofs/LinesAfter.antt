-- Lines with commas between them, in two parts.
use Rattle.std.proofs.Common.{◌≡◌, ℕ, nat_lt, Bool, true, false, List, [], ◌∷◌, ◌++◌, map, refl, ap, sym, ◌∙◌, append_assoc, if◌then◌else◌}
use Rattle.std.proofs.lemmas.List.{map-append}
use Rattle.history.specs.declared.event.Event.{Event}
use Rattle.history.specs.Events.{Line, line_of}
use Rattle.history.specs.Told.{comma_if, is_later, joined, line_text, texts_after}

still_later : (xs : List (List ℕ)) → is_later true xs ≡ true
still_later [] = refl
still_later (x ∷ xs) = refl

joined_more : (later : Bool) (xs ys : List (List ℕ)) → joined later xs ++ joined (is_later later xs) ys ≡ joined later (xs ++ ys)
joined_more later [] ys = refl
joined_more later (x ∷ xs) ys =
    append_assoc (comma_if later ++ x) (joined true xs) (joined true ys)
    ∙ ap (λ rest. comma_if later ++ x ++ rest) (ap (λ b. joined true xs ++ joined b ys) (sym (still_later xs)) ∙ joined_more true xs ys)

by_test : (b : Bool) (t : List ℕ) (xs ys zs : List (List ℕ)) → xs ++ ys ≡ zs
    → (if b then t ∷ xs else xs) ++ ys ≡ (if b then t ∷ zs else zs)
by_test true t xs ys zs e = ap (λ ts. t ∷ ts) e
by_test false t xs ys zs e = e

texts_more : (after : ℕ) (xs ys : List Line) → texts_after after xs ++ texts_after after ys ≡ texts_after after (xs ++ ys)
texts_more after [] ys = refl
texts_more after (x ∷ xs) ys =
    by_test (nat_lt after x.number) (line_text x) (texts_after after xs) (texts_after after ys) (texts_after after (xs ++ ys)) (texts_more after xs ys)

pub two_parts : (old first whole : List ℕ) (more : Bool) (after : ℕ) (xs ys : List Event) (all : List Line)
    → first ≡ old ++ joined false (texts_after after (map line_of xs)) → more ≡ is_later false (texts_after after (map line_of xs))
    → whole ≡ first ++ joined more (texts_after after (map line_of ys)) → map line_of (xs ++ ys) ≡ all
    → whole ≡ old ++ joined false (texts_after after all)
two_parts old first whole more after xs ys all told later rest are =
    let X = texts_after after (map line_of xs) in
    let Y = texts_after after (map line_of ys) in
    let texts = texts_more after (map line_of xs) (map line_of ys) ∙ ap (texts_after after) (sym (map-append line_of xs ys) ∙ are) in
    rest ∙ ap (λ t. t ++ joined more Y) told ∙ append_assoc old (joined false X) (joined more Y)
    ∙ ap (λ r. old ++ r) (ap (λ b. joined false X ++ joined b Y) later ∙ joined_more false X Y ∙ ap (joined false) texts)
