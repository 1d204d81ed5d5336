use Rattle.std.proofs.Common.{◌∙◌, sym, subst, Option, ℕ}
use Rattle.verifier.specs.Budget.{IsUpTo}
use Rattle.verifier.proofs.Lengths.{length_in, length_out}
use Rattle.verifier.proofs.budget.length_at.Goals as goal

pub returns-in-Some-clause-value : goal.returns-in-Some-clause-value
returns-in-Some-clause-value c = let h = c.in-Some.ensures.lookup in h.1 ∙ sym (length_in c.args.later.now c.args.n c.in-Some.length.now h.3.0)

pub returns-in-Some-clause-short : goal.returns-in-Some-clause-short
returns-in-Some-clause-short c = let h = c.in-Some.ensures.lookup in
    subst (λ (l : Option ℕ). IsUpTo 65535 l) (length_in c.args.later.now c.args.n c.in-Some.length.now h.3.0 ∙ sym h.1) (c.requires.short c.args.n)

pub returns-in-None-clause-value : goal.returns-in-None-clause-value
returns-in-None-clause-value c = let h = c.in-None.ensures.lookup in sym (length_out c.args.later.now c.args.n h.3)
