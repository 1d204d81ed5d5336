use Rattle.std.proofs.Common.{◌∙◌, ◌<◌, length, arith}
use Rattle.std.proofs.lemmas.List.{length-set}
use Rattle.service_texts.proofs.Registers.{text_put}
use Rattle.service_texts.proofs.identities.put_text.Goals as goal

pub loop-word-preserved : goal.loop-word-preserved
loop-word-preserved c =
    let so_far = c.loop-word.invariant in
    let within : c.loop-word.word-index < length c.loop-word.into = omega (arith, c.loop-word-test.true, so_far.1, c.loop-word.auto.into, c.loop-word.auto.word-index-end) in
    rw (c.first_word.ensures, c.behind_word-rest.ensures) (
      (so_far.0 ∙ text_put c.loop-word.into c.loop-word.rest.now c.loop-word.word-index within),
      (length-set c.loop-word.into _ _ ∙ so_far.1),
    )
