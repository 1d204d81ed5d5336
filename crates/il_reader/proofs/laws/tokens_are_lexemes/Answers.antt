use Rattle.il_reader.proofs.LexemeTexts.{tokens_are_lexemes}
use Rattle.il_reader.proofs.laws.tokens_are_lexemes.Goals as goal

pub returns : goal.returns
returns c = tokens_are_lexemes
