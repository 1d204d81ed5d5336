use Rattle.std.proofs.Common.{◌≡◌, Bool, true, false, ◌||◌, sym, ap, ◌∙◌}
use Rattle.point_types.specs.Keyword.{is_reserved, plain_words, conversions}
use Rattle.point_types.proofs.keyword.is_reserved_word.Goals as goal

first_holds : (r a b : Bool) → r ≡ a → r ≡ true → r ≡ a || b
first_holds r a b e h = h ∙ ap (λ z. z || b) (sym h ∙ e)

second_decides : (r s a b : Bool) → r ≡ a → r ≡ false → s ≡ b → s ≡ a || b
second_decides r s a b e h g = g ∙ ap (λ z. z || b) (sym h ∙ e)

pub returns-then-is_among : goal.returns-then-is_among
unfolding is_reserved plain_words conversions
returns-then-is_among c = first_holds _ _ _ c.is_among.ensures c.if-is_among.true

pub returns-else-is_among : goal.returns-else-is_among
unfolding is_reserved plain_words conversions
returns-else-is_among c = second_decides _ _ _ _ c.is_among.ensures c.if-is_among.false c.is_among-else-is_among.ensures
