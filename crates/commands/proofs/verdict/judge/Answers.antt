use Rattle.std.proofs.Common.{inl, refl}
use Rattle.commands.proofs.ObeyLemmas.{checks_by}
use Rattle.commands.proofs.verdict.judge.Goals as goal

pub returns-in-Ok-clause-checks : goal.returns-in-Ok-clause-checks
returns-in-Ok-clause-checks g c =
    checks_by c.args.site.now c.args.program.now _ (g.W.Write.contents c.args.out.now) (g.W.Write.contents c.tell-status.new.out) c.tell-status.result c.tell-status.result
    (c.in-Ok.outcome, inl c.in-Ok.ensures.told, c.tell-status.ensures) refl
