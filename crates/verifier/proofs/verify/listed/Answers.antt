use Rattle.std.proofs.Common.{◌<◌, length, subst}
use Rattle.scan_code.specs.Image.{Image}
use Rattle.verifier.proofs.FewListed.{few_listed}
use Rattle.verifier.proofs.verify.listed.Goals as goal

pub returns-clause-few : goal.returns-clause-few
returns-clause-few c = few_listed c.args.image.now c.listing.result (subst (λ (i : Image). length i.code < 65536) c.image.view_is c.image.invariant.short) c.listing.ensures
