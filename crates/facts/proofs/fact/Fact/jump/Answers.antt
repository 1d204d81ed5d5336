use Rattle.std.proofs.Common.{◌≡◌, ◌∙◌, ℕ, true, false, Result, IfOk, ap, subst}
use Rattle.facts.specs.declared.refusal.RefusalKind.{RefusalKind}
use Rattle.facts.specs.Branches.{jumps_where, stepped}
use Rattle.facts.specs.Flow.{later}
use Rattle.facts.proofs.fact.Fact.jump.Goals as goal

pub returns-in-IfTrue : goal.returns-in-IfTrue
returns-in-IfTrue c =
    let target = c.later-target.ensures ∙ ap (later c.args.at) c.number_at.ensures in
    rw c.in-IfTrue.is (subst (λ (t : Result ℕ RefusalKind). IfOk c.jump_where.result (λ step. jumps_where c.args.at true t c.args.self.now ≡ stepped c.args.at c.args.self.now step)) target c.jump_where.ensures)

pub returns-in-IfFalse : goal.returns-in-IfFalse
returns-in-IfFalse c =
    let target = c.later-target.ensures ∙ ap (later c.args.at) c.number_at.ensures in
    rw c.in-IfFalse.is (subst (λ (t : Result ℕ RefusalKind). IfOk c.jump_where-in-IfFalse.result (λ step. jumps_where c.args.at false t c.args.self.now ≡ stepped c.args.at c.args.self.now step)) target c.jump_where-in-IfFalse.ensures)
