use Rattle.std.proofs.Common.{◌≡◌, ◌+◌, length}
use Rattle.verifier.specs.Links.{links_from}
use Rattle.verifier.proofs.Linking.{behind}
use Rattle.verifier.proofs.tag_link.links.Given as goal

abbrev pub invariant-loop-rest : goal.invariant-loop-rest
invariant-loop-rest l = (behind l.links.items (links_from l.site l.at l.rest) ≡ links_from l.site 0 l.tags) × (l.at + length l.rest ≡ length l.tags)

abbrev pub decreases-loop-rest : goal.decreases-loop-rest
decreases-loop-rest l = length l.rest
