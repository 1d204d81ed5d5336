use Rattle.std.proofs.Common.{◌≡◌, ◌≢◌, ◌++◌, List, ℕ, string_bytes, refl, subst, rules}
use Rattle.facts.specs.Word as verify
use Rattle.facts.specs.declared.refusal.RefusalKind.TheVariants as refusal
use Rattle.commands.specs.Explained.{EndsBy}
use Rattle.commands.specs.Report.{unverified_line}
use Rattle.commands.specs.Told.{refused_with}
use Rattle.commands.proofs.ExplainLemmas.{ends_behind}
use Rattle.commands.proofs.explained.refused_lines.Goals as goal

pub returns : goal.returns
returns g c =
    let real : c.args.refused.now.kind ≢ refusal.OutOfMemory = search rules in
    let line : string_bytes c.in_ok-line.line ≡ unverified_line (verify.word_of c.args.refused.now.kind) (verify.number_of c.args.refused.now.at) = search rules in
    let lines = string_bytes c.push_str.new.self in
    let split : lines ≡ string_bytes c.in_ok-lines.lines ++ string_bytes c.in_ok-line.line = search rules in
    (real, subst (λ (l : List ℕ). EndsBy (refused_with l) (refused_with lines)) line (ends_behind (string_bytes c.in_ok-lines.lines) (string_bytes c.in_ok-line.line) lines (refused_with lines) split refl))
