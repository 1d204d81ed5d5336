use Rattle.std.proofs.Common.{◌≡◌, ◌-◌, ◌++◌, length, take}
use Rattle.gateway.specs.served.ServedImage.{text_words}
use Rattle.service_texts.proofs.identities.put_text.Given as goal

-- what is put so far, and what is to come of the text that remains
abbrev pub invariant-loop-word : goal.invariant-loop-word
invariant-loop-word l =
    (text_words (length l.initial.into) l.text ≡ take l.word-index l.into ++ text_words (length l.into - l.word-index) l.rest)
    × (length l.into ≡ length l.initial.into)
