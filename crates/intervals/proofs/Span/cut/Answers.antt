use Rattle.std.proofs.Common.{rules}
use Rattle.intervals.proofs.Cuts.{cut_exact, cut_holds, cut_of_lint}
use Rattle.intervals.proofs.Span.cut.Goals.{in-Gt, in-Ge, in-Eq, in-Ne, in-Ne-2, in-Le, in-Lt}
use Rattle.intervals.proofs.Span.cut.Goals as goal

pub returns-clause-ends : goal.returns-clause-ends
returns-clause-ends c = elim c.match-relation.branch [
  | in-Gt w ↦ rw w.in-Gt.is (search rules)
  | in-Ge w ↦ rw w.in-Ge.is (search rules)
  | in-Eq w ↦ rw w.in-Eq.is (search rules)
  | in-Ne w ↦ rw w.in-Ne.is (search rules)
  | in-Ne-2 w ↦ rw w.in-Ne.is (search rules)
  | in-Le w ↦ rw w.in-Le.is (search rules)
  | in-Lt w ↦ rw w.in-Lt.is (search rules)
]

pub returns-clause-of_lint : goal.returns-clause-of_lint
returns-clause-of_lint c = rw (returns-clause-ends c) (cut_of_lint c.args.relation c.args.self c.args.other c.requires.self_of_lint)

pub returns-clause-exact : goal.returns-clause-exact
returns-clause-exact c = rw (returns-clause-ends c) (λ x. cut_exact c.args.relation c.args.self c.args.other x c.requires.other_of_lint.ordered)

pub returns-clause-holds : goal.returns-clause-holds
returns-clause-holds c = rw (returns-clause-ends c) (λ x. cut_holds c.args.relation c.args.self c.args.other x c.requires.other_of_lint.ordered)
