use Rattle.std.proofs.Common.{rules, refl, ◌≡◌, ap, sym, ◌∙◌, slice_get, Some}
use Rattle.std.proofs.lemmas.Option.{slice_get_read}
use Rattle.commands.specs.Report as report
use Rattle.commands.proofs.ReportLemmas.{variables_step}
use Rattle.commands.proofs.scan.push_variables.Goals as goal

pub loop-i-preserved : goal.loop-i-preserved
loop-i-preserved c =
    let vars : c.as_slice-var-items.result.now ≡ c.args.trial.now.image.vars = search rules in
    let here : slice_get c.args.trial.now.image.vars c.loop-i.i ≡ Some c.var-item.result = ap (λ xs. slice_get xs c.loop-i.i) (sym vars) ∙ slice_get_read _ _ c.loop-i.i c.var-item.result refl c.loop-i-test.true c.var-item.is in
    let value : c.as_str.result.now ≡ report.shown c.var-item.result.kind c.var.result = search rules in
    variables_step c.args.trial.now.image.vars c.args.trial.now.variables c.loop-i.i c.var-item.result c.var.result c.args.lines.now.items c.loop-i.lines.items _ c.as_str.result.now here c.var.ensures value c.loop-i.invariant c.in_ok-push_named.ensures.ok
