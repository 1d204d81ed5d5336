use Rattle.std.proofs.Common.{refl}
use Rattle.il_reader.proofs.Forms.{pushed}
use Rattle.il_reader.proofs.computation.InnerLines.add.Goals as goal

pub returns : goal.returns
returns c = pushed _ _ _ _ _ _ c.in_ok-push.ensures.items c.self.view_is refl c.computation.view_is
