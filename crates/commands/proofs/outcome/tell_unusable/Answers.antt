use Rattle.std.proofs.Common.{◌≡◌, inl, subst, rules}
use Rattle.commands.specs.Report.{unusable_line}
use Rattle.commands.specs.Told.{IsTold, refused_with}
use Rattle.commands.proofs.outcome.tell_unusable.Goals as goal

pub returns-in-Ok : goal.returns-in-Ok
returns-in-Ok g c =
    let same : c.as_bytes.result.now ≡ unusable_line c.args.path.now = search rules in
    inl (subst (λ lines. IsTold (g.W.Write.contents c.args.out.now) (g.W.Write.contents c.write_lines.new.out) (refused_with lines) c.write_lines.result) same c.write_lines.ensures)
