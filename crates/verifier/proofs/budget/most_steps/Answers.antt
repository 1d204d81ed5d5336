use Rattle.std.proofs.Common.{◌∙◌, sym, ap, arith, length}
use Rattle.verifier.proofs.Lengths.{those_up_to, lengths_long}
use Rattle.verifier.proofs.budget.most_steps.Goals as goal

pub longest_path-longest-requires-clause-each : goal.longest_path-longest-requires-clause-each
longest_path-longest-requires-clause-each c = ap length (c.deref-2.ensures.value ∙ c.in_ok-lengths.ensures) ∙ lengths_long c.args.context.now.listing 0 c.args.reached.now c.args.context.now.listing c.requires.each ∙ ap length (sym c.instructions-listing.ensures)

pub longest_path-longest-requires-clause-short : goal.longest_path-longest-requires-clause-short
longest_path-longest-requires-clause-short c = those_up_to c.args.context.now.listing 0 65535 c.args.reached.now c.args.context.now.listing c.deref-2.result.now (c.deref-2.ensures.value ∙ c.in_ok-lengths.ensures) (omega (arith, c.requires.few))
