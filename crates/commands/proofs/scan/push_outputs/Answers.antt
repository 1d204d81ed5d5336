use Rattle.std.proofs.Common.{rules, refl, ◌≡◌, ap, sym, ◌∙◌, slice_get, Some}
use Rattle.std.proofs.lemmas.Option.{slice_get_read}
use Rattle.commands.proofs.ReportLemmas.{outputs_step}
use Rattle.commands.proofs.scan.push_outputs.Goals as goal

pub loop-i-preserved : goal.loop-i-preserved
loop-i-preserved c =
    let tags : c.as_slice-tag-items.result.now ≡ c.args.trial.now.image.tags = search rules in
    let here : slice_get c.args.trial.now.image.tags c.loop-i.i ≡ Some c.tag-item.result = ap (λ xs. slice_get xs c.loop-i.i) (sym tags) ∙ slice_get_read _ _ c.loop-i.i c.tag-item.result refl c.loop-i-test.true c.tag-item.is in
    outputs_step c.args.trial.now.image.tags c.args.trial.now.outputs c.loop-i.i c.tag-item.result c.output.result c.args.lines.now.items c.loop-i.lines.items _ here c.output.ensures c.loop-i.invariant c.in_ok-push_output.ensures.ok
