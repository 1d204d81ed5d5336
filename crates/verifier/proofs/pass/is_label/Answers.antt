use Rattle.verifier.proofs.HeadsAre.{among_heads}
use Rattle.verifier.proofs.pass.is_label.Goals as goal

pub returns : goal.returns
returns c = rw (c.instruction-address.ensures, c.is_head.ensures, c.requires.heads) (among_heads c.args.context.now.listing c.instruction-address.result.0)
