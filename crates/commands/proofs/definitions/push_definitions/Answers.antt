use Rattle.std.proofs.Common.{◌≡◌, string_bytes, subst, rules}
use Rattle.model_defs.specs.Definition.{Breaks, IsRead}
use Rattle.commands.proofs.Texts.{broken_behind, broken_here, read_more, told_of_fault}
use Rattle.commands.proofs.definitions.push_definitions.Goals as goal

pub returns-in_err-push_definition-clause-refused : goal.returns-in_err-push_definition-clause-refused
returns-in_err-push_definition-clause-refused c =
    let t = c.text-item.result in
    let same : c.as_str.result.now ≡ string_bytes t = search rules in
    told_of_fault c.from_residual.result _ _ c.from_residual.ensures.1 (λ real.
    c.loop-text.invariant.1 _ (broken_here string_bytes c.args.texts.now c.loop-text.text-index t c.in_err-push_definition.field-0.0 c.loop-text-test.true c.text-item.is
    (subst (λ text. Breaks text c.in_err-push_definition.field-0.0) same (c.in_err-push_definition.ensures.refused real))))

pub loop-text-preserved : goal.loop-text-preserved
loop-text-preserved c =
    let texts = c.args.texts.now in
    let i = c.loop-text.text-index in
    let t = c.text-item.result in
    let same : c.as_str.result.now ≡ string_bytes t = search rules in
    let read = c.in_ok-push_definition.ensures.read in
    let is : IsRead (string_bytes t) read.0 = subst (λ text. IsRead text read.0) same read.1 in (
      λ models rest.
          c.loop-text.invariant.0 models (read_more string_bytes texts i t c.loop-text.models.items models read.0 c.loop-text-test.true c.text-item.is is (rw (← read.2) rest)),
      λ fault broken.
          c.loop-text.invariant.1 fault (broken_behind string_bytes texts i t read.0 fault c.loop-text-test.true c.text-item.is is broken),
    )
