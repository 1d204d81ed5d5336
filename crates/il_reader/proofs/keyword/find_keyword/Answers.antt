use Rattle.std.proofs.Common.{ap, sym, ◌∙◌}
use Rattle.il_reader.specs.Tokens.{keyword, look_up, or_else, conversion_keywords}
use Rattle.il_reader.proofs.keyword.find_keyword.Goals as goal

pub returns-in-Some : goal.returns-in-Some
unfolding keyword
returns-in-Some c = ap (λ z. or_else z (look_up c.args.word.now conversion_keywords)) (sym c.in-Some.is ∙ c.find_word.ensures)

pub returns-in-None : goal.returns-in-None
unfolding keyword
returns-in-None c = c.find_word-in-None.ensures ∙ ap (λ z. or_else z (look_up c.args.word.now conversion_keywords)) (sym c.in-None.is ∙ c.find_word.ensures)
