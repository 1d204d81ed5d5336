use Rattle.std.proofs.Common.{◌↔◌, length}
use Rattle.verifier.specs.Verified.{HasLinks}
use Rattle.verifier.proofs.verified.has_links.Given as goal

-- what is left decides
abbrev pub invariant-loop-rest : goal.invariant-loop-rest
invariant-loop-rest l = HasLinks l.site l.rest ↔ HasLinks l.site l.links

abbrev pub decreases-loop-rest : goal.decreases-loop-rest
decreases-loop-rest l = length l.rest
