use Rattle.std.proofs.Common.{rules, ◌≡◌, ◌≢◌}
use Rattle.service_texts.specs.Keeping.{first_line}
use Rattle.service_texts.proofs.KeptProgram.{keeps_alone, keeps_none}
use Rattle.service_texts.proofs.kept_program.program_in.Goals as goal

pub returns-then-eq : goal.returns-then-eq
returns-then-eq c =
    let same : c.in-Some.line.now ≡ first_line c.in-Some.program.now = search rules in
    keeps_alone c.args.text.now (c.in-Some.line, c.in-Some.program) c.in-Some.ensures.cases same

pub returns : goal.returns
returns c =
    let other : c.in-Some.line.now ≢ first_line c.in-Some.program.now = search rules in
    keeps_none c.args.text.now (c.in-Some.line, c.in-Some.program) c.in-Some.ensures.cases other
