use Rattle.std.proofs.Common.{◌≡◌, ◌++◌, drop, map}
use Rattle.verifier.specs.Ranges.{range_of}
use Rattle.verifier.proofs.tag_link.ranges.Given as goal

abbrev pub invariant-loop-link : goal.invariant-loop-link
invariant-loop-link l = l.tags.items ++ map range_of (drop l.link-index l.links) ≡ map range_of l.links
